-- A call's refusal: the driver's start tells 3, 4, 5 and 14, so with 6 and 7 the tests come in the definition's order.
-- Assumes nothing.
use Rattle.std.specs.Prelude.{Option, Some}
use native.Mathlib.Omega.{arith}
use mathlib.Core.Path.{◌≡◌, refl, sym, ap, ◌∙◌}
use mathlib.Core.List.{List}
use Prim.Native.Nat.{ℕ, ◌*◌, ◌≤◌}
use lib.Dec.{eqb}
use borrow.Author.Tests.{eq-eqb, ne_eqb}
use Rattle.geometry.specs.declared.Geometry.{Geometry}
use Rattle.geometry.specs.Parts.{part_of}
use Rattle.state.specs.declared.Answer.{Answer}
use Rattle.state.specs.declared.Answer.TheVariants.{Done, Part, Frame, Slot, Limit, Size, Log, Script, Device, Busy, Sealed, Cut, Blank, End, Dates, Term, Miscompare}
use Rattle.state.specs.Answers.{number_of}
use Rattle.slots.specs.declared.Detail.{Detail}
use Rattle.slots.specs.Plans.{Asked, stated}
use Rattle.slots.specs.Refusals.{flaws_in, early_refusal, late_refusal, or_else, call_refusal}
use Rattle.slots.proofs.Counts.{bounds}
use Rattle.slots.proofs.Accepted.{picked, early}
use Rattle.slots.proofs.Driven.{other}
use Rattle.worlds.specs.Start.{start_refusal}

-- Done is the one answer whose number is 0
pub numbered : (a : Answer) → (a ≡ Done → ⊥) → number_of a ≡ 0 → ⊥
unfolding number_of
numbered Done h e = h refl
numbered Part h e = omega arith
numbered Frame h e = omega arith
numbered Slot h e = omega arith
numbered Limit h e = omega arith
numbered Size h e = omega arith
numbered Log h e = omega arith
numbered Script h e = omega arith
numbered Device h e = omega arith
numbered Busy h e = omega arith
numbered Sealed h e = omega arith
numbered Cut h e = omega arith
numbered Blank h e = omega arith
numbered End h e = omega arith
numbered Dates h e = omega arith
numbered Term h e = omega arith
numbered Miscompare h e = omega arith

module _ (g : Geometry) (array : ℕ) (a : Asked) (detail : Detail) (n lent : ℕ) where
  own : part_of array ≡ Some g → start_refusal (part_of array) a detail n lent ≡ early_refusal g a (flaws_in a.kind g detail n lent)
  unfolding start_refusal
  own p = ap (λ (q : Option Geometry). start_refusal q a detail n lent) p

  module _ (log : ℕ) (script : List ℕ) (junk : ℕ) (p : part_of array ≡ Some g) {z : Answer} (e : z ≡ start_refusal (part_of array) a detail n lent) where
    pub early_told : (number_of z ≡ 0 → ⊥) → z ≡ call_refusal g array a (flaws_in a.kind g detail n lent) log script junk
    unfolding call_refusal or_else
    early_told h =
        let k : eqb (number_of (early_refusal g a (flaws_in a.kind g detail n lent))) 0 ≡ _ = ap (λ (t : Answer). eqb (number_of t) 0) (sym (e ∙ own p)) ∙ ne_eqb (number_of z) 0 h in
        e ∙ own p ∙ sym (other (eqb (number_of (early_refusal g a (flaws_in a.kind g detail n lent))) 0) _ _ k)

    pub late_told : number_of z ≡ 0 → {m : ℕ} {r : Answer} → m ≡ stated a.kind a.limit → r ≡ late_refusal g array log (6 * m) script junk
        → r ≡ call_refusal g array a (flaws_in a.kind g detail n lent) log script junk
    unfolding call_refusal or_else
    late_told h f t =
        let k : eqb (number_of (early_refusal g a (flaws_in a.kind g detail n lent))) 0 ≡ _ = ap (λ (t : Answer). eqb (number_of t) 0) (sym (e ∙ own p)) ∙ eq-eqb (number_of z) 0 h in
        t ∙ ap (λ (b : ℕ). late_refusal g array log (6 * b) script junk) (f ∙ sym (bounds a.kind g a.slot a.limit))
        ∙ sym (picked (eqb (number_of (early_refusal g a (flaws_in a.kind g detail n lent))) 0) _ _ k)

  -- log and script are looked at only where B is at most 1,000
  pub limit_few : part_of array ≡ Some g → {z : Answer} → z ≡ start_refusal (part_of array) a detail n lent → number_of z ≡ 0 → a.limit ≤ 1000
  limit_few p {z} e h =
      (early g a (flaws_in a.kind g detail n lent) (ap (λ (t : Answer). eqb (number_of t) 0) (sym (e ∙ own p)) ∙ eq-eqb (number_of z) 0 h)).most
