-- `registers::unsealed_set` meets its contract. The loop's invariant: m is the set of the sectors from s on. Assumes nothing.
use mathlib.Core.Path.{◌≡◌}
use Prim.Native.Nat.{◌-◌}
use Rattle.geometry.specs.declared.Geometry.{Geometry}
use Rattle.registers.specs.Protection.{Roomed, unsealed_from}
use Rattle.registers.proofs.Sets.{bare}
use Rattle.registers.proofs.unsealed_set.Given as goal

abbrev pub invariant-loop-s : goal.invariant-loop-s
invariant-loop-s l = (g : Geometry) → Roomed g → l.m ≡ unsealed_from g (bare l.seals) (l.count - l.s) l.s
