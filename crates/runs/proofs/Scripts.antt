-- A cut that a run comes to stands in the script; so, where 7 is not met, the junk is as long as it has to be.
-- Assumes nothing.
use mathlib.Core.Path.{◌≡◌, refl, sym, ap, subst, ◌∙◌}
use mathlib.Core.Bool.{Bool, true, false, not, ◌&&◌, ◌||◌, or-true}
use mathlib.Core.List.{List, [], ◌∷◌}
use Prim.Native.Nat.{ℕ, zero, suc}
use native.Mathlib.Omega.{arith}
use lib.ListN.{get_or}
use lib.Dec.{eqb}
use borrow.Author.Tests.{eq-eqb}
use Rattle.geometry.specs.declared.Geometry.{Geometry}
use Rattle.state.specs.Outcomes.{cut_fits}
use Rattle.slots.specs.Refusals.{has_over_two, has_cut, bad_script}
use Rattle.slots.proofs.Places.{never}

pub has-cut : (l : List ℕ) (i : ℕ) → get_or l i 0 ≡ 2 → has_cut l ≡ true
unfolding has_cut
has-cut [] i e = absurd (omega arith)
has-cut (x ∷ l) zero e = simp (eq-eqb x 2 e)
has-cut (x ∷ l) (suc i) e = ap (λ (b : Bool). eqb x 2 || b) (has-cut l i e) ∙ or-true (eqb x 2)

pub junk-fits : (g : Geometry) (n : ℕ) (l : List ℕ) (m : ℕ) → bad_script g n l m ≡ false → has_cut l ≡ true → cut_fits g n m ≡ true
unfolding bad_script
junk-fits g n l m h k = go (has_over_two l) (cut_fits g n m) (subst (λ (b : Bool). (has_over_two l || (b && not (cut_fits g n m))) ≡ false) k h)
  where
    go : (a b : Bool) → (a || (true && not b)) ≡ false → b ≡ true
    go a true t = refl
    go true false t = never (sym t)
    go false false t = never (sym t)
