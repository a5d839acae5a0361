-- n of a get is the length in the record that it read: a record's length is at most its version's limit, which is at most 2,109.
-- Assumes nothing.
use Rattle.state.specs.declared.Answer.{Answer}
use Rattle.std.specs.Prelude.{Some, None, Option}
use Prim.Native.Nat.{ℕ, ◌≤◌, ◌+◌, ◌-◌, ◌*◌}
use native.Mathlib.Omega.{arith}
use mathlib.Core.Path.{◌≡◌, sym, ap, ◌∙◌}
use mathlib.Core.Bool.{Bool, true, false, cond}
use mathlib.Core.List.{List}
use lib.Dec.{eqb}
use Rattle.geometry.specs.declared.Geometry.{Geometry}
use Rattle.geometry.specs.Parts.{part_of, slot_room}
use Rattle.state.specs.Answers.{number_of}
use Rattle.slots.specs.declared.Driver.{Driver}
use Rattle.slots.specs.declared.Kind.{Kind}
use Rattle.slots.specs.declared.Kind.TheVariants.{Put, Patch, Get, Wipe}
use Rattle.slots.specs.Records.{length_in, is_record}
use Rattle.slots.specs.Calls.{count_by, count_of}
use Rattle.slots.specs.Exchanges.{Begins, plain, termed}
use Rattle.slots.proofs.Verdicts.{record_true}
use Rattle.slots.proofs.Accepted.{picked}
use Rattle.records.proofs.Parts.{part_pages}
use Rattle.worlds.specs.Step.{told_in, count_told}
use Rattle.worlds.specs.Step as step

by_few : (k : Kind) (staged : List ℕ) → count_by k staged ≤ length_in staged
unfolding count_by
by_few Put staged = omega arith
by_few Patch staged = omega arith
by_few Get staged = omega arith
by_few Wipe staged = omega arith

told-few : (t : Option Answer) (k : Kind) (staged : List ℕ) → count_told t k staged ≤ length_in staged
unfolding count_told count_of
told-few None k staged = omega arith
told-few (Some a) k staged = go (eqb (number_of a) 0)
  where
    go : (b : Bool) → cond b (count_by k staged) 0 ≤ length_in staged
    go true = by_few k staged
    go false = omega arith

-- what is told of a record
pub record_count : (g : Geometry) (d : Driver) (staged : List ℕ) {t : Option Answer} {m : ℕ} → part_of d.array ≡ Some g → is_record g staged ≡ true → t ≡ told_in d
    → m ≡ count_told t d.kind staged → (m ≡ step.count_by (Some g) d staged) × (m ≤ slot_room - 3)
unfolding step.count_by length_in
record_count g d staged {t} {m} p r e h =
    let z = part_pages d.array g p in
    let l = fits (record_true g staged (omega (arith, z.some)) r) in (
      h ∙ ap (λ (u : Option Answer). count_told u d.kind staged) e ∙ sym (picked (is_record g staged) (count_told (told_in d) d.kind staged) 0 r),
      omega (arith, h, told-few t d.kind staged, l, z.most),
    )
  where
    fits : Begins g staged → 3 + length_in staged ≤ 8 * g.size
    fits (plain v l) = l
    fits (termed v l) = omega (arith, l)
