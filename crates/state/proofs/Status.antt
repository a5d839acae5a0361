-- The status byte's bits, read one by one: the compare bit reaches none but bit 6. Eight cases each.
-- Assumes nothing.
use mathlib.Core.Path.{◌≡◌, refl}
use mathlib.Core.Bool.{Bool, true, false, cond}
use Prim.Native.Nat.{◌/◌, ◌%◌, ◌≤◌, ◌<◌}
use native.Mathlib.Omega.{arith}
use Rattle.geometry.specs.declared.Geometry.{Geometry}
use Rattle.registers.specs.declared.Operation.{Operation}
use Rattle.registers.specs.declared.Operation.TheVariants.{Idle}
use Rattle.registers.specs.declared.Usage.{Usage}
use Rattle.registers.specs.declared.Usage.TheVariants.{Free, Uses, NoBuffer, Exclusive}
use Rattle.registers.specs.Facts.{facts_of}
use Rattle.registers.proofs.Operations.{free_idle}
use Rattle.state.specs.Frames.{is_free, is_idle, status_of}

bit_small : (b : Bool) → cond b 1 0 ≤ 1
bit_small true = omega arith
bit_small false = omega arith

-- bit 7: ready
pub status-ready : (g : Geometry) (ready compare protect : Bool) → status_of g ready compare protect / 128 ≡ cond ready 1 0
unfolding status_of
status-ready g true true true = omega (arith, bit_small g.binary)
status-ready g true true false = omega (arith, bit_small g.binary)
status-ready g true false true = omega (arith, bit_small g.binary)
status-ready g true false false = omega (arith, bit_small g.binary)
status-ready g false true true = omega (arith, bit_small g.binary)
status-ready g false true false = omega (arith, bit_small g.binary)
status-ready g false false true = omega (arith, bit_small g.binary)
status-ready g false false false = omega (arith, bit_small g.binary)

-- bits 5-2: 1001
pub status-density : (g : Geometry) (ready compare protect : Bool) → status_of g ready compare protect / 4 % 16 ≡ 9
unfolding status_of
status-density g true true true = omega (arith, bit_small g.binary)
status-density g true true false = omega (arith, bit_small g.binary)
status-density g true false true = omega (arith, bit_small g.binary)
status-density g true false false = omega (arith, bit_small g.binary)
status-density g false true true = omega (arith, bit_small g.binary)
status-density g false true false = omega (arith, bit_small g.binary)
status-density g false false true = omega (arith, bit_small g.binary)
status-density g false false false = omega (arith, bit_small g.binary)

-- bit 1: guarded
pub status_protect : (g : Geometry) (ready compare protect : Bool) → status_of g ready compare protect / 2 % 2 ≡ cond protect 1 0
unfolding status_of
status_protect g true true true = omega (arith, bit_small g.binary)
status_protect g true true false = omega (arith, bit_small g.binary)
status_protect g true false true = omega (arith, bit_small g.binary)
status_protect g true false false = omega (arith, bit_small g.binary)
status_protect g false true true = omega (arith, bit_small g.binary)
status_protect g false true false = omega (arith, bit_small g.binary)
status_protect g false false true = omega (arith, bit_small g.binary)
status_protect g false false false = omega (arith, bit_small g.binary)

-- a byte
pub status-small : (g : Geometry) (ready compare protect : Bool) → status_of g ready compare protect < 256
unfolding status_of
status-small g true true true = omega (arith, bit_small g.binary)
status-small g true true false = omega (arith, bit_small g.binary)
status-small g true false true = omega (arith, bit_small g.binary)
status-small g true false false = omega (arith, bit_small g.binary)
status-small g false true true = omega (arith, bit_small g.binary)
status-small g false true false = omega (arith, bit_small g.binary)
status-small g false false true = omega (arith, bit_small g.binary)
status-small g false false false = omega (arith, bit_small g.binary)

-- ---- idle
free : (u : Usage) → is_free u ≡ true → u ≡ Free
free Free e = refl
free (Uses b) e = cc
free NoBuffer e = cc
free Exclusive e = cc

pub idle_is : (o : Operation) → is_idle o ≡ true → o ≡ Idle
unfolding is_idle
idle_is o e = free_idle o (free (facts_of o).usage e)

pub is_idle_lem : is_idle Idle ≡ true
unfolding is_idle
is_idle_lem = refl
