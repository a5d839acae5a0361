-- What a reply does to the course, as the code has it: `last` says that the next step is the end, and a register's bits are read from the
-- reply without its bytes being copied.
-- Assumes nothing.
use Rattle.state.specs.declared.Answer.{Answer}
use Rattle.std.specs.Prelude.{None, Option, Some}
use Prim.Native.Nat.{ℕ, ◌+◌, ◌-◌, ◌<◌, ◌≤◌}
use native.Mathlib.Numerals.{add-one}
use native.Mathlib.Omega.{arith}
use mathlib.Core.Path.{◌≡◌, sym, ap, ◌∙◌}
use mathlib.Core.Bool.{Bool, cond, not}
use mathlib.Core.List.{List}
use lib.Dec.{eqb}
use lib.ListN.{get_or}
use Rattle.geometry.specs.declared.Geometry.{Geometry}
use Rattle.geometry.specs.Parts.{register_room}
use Rattle.slices.specs.Lists.{tabulate}
use Rattle.slices.proofs.Laws.{get_or-tabulate}
use Rattle.registers.specs.Protection.{register_of, Roomed, has_bits}
use Rattle.registers.proofs.Protection.{byte_of, bits_high}
use Rattle.state.specs.declared.Answer.TheVariants.{Done}
use Rattle.slots.specs.declared.Course.{Course}
use Rattle.slots.specs.declared.Step.{Step}
use Rattle.slots.specs.Plans.{is_end}
use Rattle.slots.specs.Driver.{register_in, heard, moved, marking, noted, course_by}

-- on to the next step
pub goes_on : (c : Course) (limit : ℕ) (s : Option Answer) (last listed guarded : Bool) → s ≡ cond last (Some Done) None → (next : Step) → is_end next ≡ last
    → record { place = c.place + 1; left = limit; stage = s; listed = listed; guarded = guarded } ≡ moved next limit (marking guarded (noted listed c))
goes_on c limit s last listed guarded h next e =
    λ i. record { place = add-one c.place i; left = limit; stage = (h ∙ ap (λ (b : Bool). cond b (Some Done) None) (sym e)) i; listed = listed; guarded = guarded }

-- the bits of a sector after 0b
pub set_high : (g : Geometry) (reply : List ℕ) (s : ℕ) → Roomed g → 2 ≤ s → s < register_room + 1 → not (eqb (get_or reply (3 + s) 255) 0) ≡ has_bits g (register_in g reply) s
unfolding has_bits register_in
set_high g reply s r h l =
    let k : 4 + (s - 1) ≡ 3 + s = omega arith in
    ap (λ (x : ℕ). not (eqb x 0))
    (sym (bits_high g (tabulate g.register (λ j. get_or reply (4 + j) 255)) s h (omega arith)
    ∙ get_or-tabulate g.register (λ j. get_or reply (4 + j) 255) (s - 1) 0 (omega arith)
    ∙ ap (λ (i : ℕ). get_or reply i 255) k))

-- the byte that 0a and 0b share
pub first_byte : (g : Geometry) (reply : List ℕ) → Roomed g → get_or (register_of g (register_in g reply)) 0 0 ≡ get_or reply 4 255
unfolding register_in
first_byte g reply r =
    byte_of g (tabulate g.register (λ j. get_or reply (4 + j) 255)) 0 (omega arith)
    ∙ get_or-tabulate g.register (λ j. get_or reply (4 + j) 255) 0 0 (omega arith)

-- a course by its step
pub by_step : (g : Geometry) {x y : Step} {last : Bool} {r : Course} (c : Course) (limit sector : ℕ) (reply : List ℕ) → x ≡ y
    → ((next : Step) → is_end next ≡ last → r ≡ course_by y next limit c (heard g y sector reply))
    → (next : Step) → is_end next ≡ last → r ≡ course_by x next limit c (heard g x sector reply)
by_step g c limit sector reply e h next l = h next l ∙ ap (λ (z : Step). course_by z next limit c (heard g z sector reply)) (sym e)
