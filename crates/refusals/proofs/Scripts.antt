-- A script's largest byte tells both of 7's tests: a byte is over 2 exactly if it is, and where none is, a cut is there exactly if it is 2.
-- Assumes nothing.
use mathlib.Core.Path.{◌≡◌, refl, sym, ap, ◌∙◌}
use mathlib.Core.Bool.{Bool, true, false, not, ◌&&◌, ◌||◌}
use mathlib.Core.List.{List, [], ◌∷◌}
use Prim.Native.Nat.{ℕ, ◌+◌, ◌*◌, ◌<◌, ◌≤◌, max}
use native.Mathlib.Omega.{arith}
use native.Mathlib.Nat.{mul-le-mul}
use native.Mathlib.Numerals.{add-one}
use lib.ListN.{length, get_or, drop, drop_of_length-le}
use lib.Seq.{drop-cons}
use lib.Dec.{eqb, ltb}
use borrow.Author.Tests.{ltb-true, ltb-false, lt-ltb, le-ltb, eqb-true, eqb-false, eq-eqb, ne_eqb}
use mir.Val.{Fits}
use mir.Syntax.{w64}
use Rattle.geometry.specs.declared.Geometry.{Geometry}
use Rattle.geometry.specs.Parts.{Sized}
use Rattle.state.specs.Outcomes.{cut_fits}
use Rattle.slots.specs.Refusals.{has_over_two, has_cut, bad_script}
use Rattle.refusals.specs.Largest.{largest_in}

-- ---- byte by byte

pub largest_none : (l : List ℕ) (i most : ℕ) → length l ≤ i → max most (largest_in (drop i l)) ≡ most
unfolding largest_in
largest_none l i most h = rw (drop_of_length-le l h) (omega arith)

pub largest_here : (l : List ℕ) (i most : ℕ) → i < length l → max most (largest_in (drop i l)) ≡ max (max most (get_or l i 0)) (largest_in (drop (i + 1) l))
unfolding largest_in
largest_here l i most h = rw (add-one i, drop-cons l i 0 h) (omega arith)

-- ---- the two tests

over_largest : (l : List ℕ) → ltb 2 (largest_in l) ≡ has_over_two l
unfolding largest_in has_over_two
over_largest [] = refl
over_largest (x ∷ l) = go (ltb 2 x) (ltb 2 (largest_in l)) refl refl ∙ ap (λ (b : Bool). ltb 2 x || b) (over_largest l)
  where
    go : (a b : Bool) → ltb 2 x ≡ a → ltb 2 (largest_in l) ≡ b → ltb 2 (max x (largest_in l)) ≡ (ltb 2 x || ltb 2 (largest_in l))
    go true b e f = lt-ltb 2 (max x (largest_in l)) (omega (arith, ltb-true 2 x e)) ∙ ap (λ (z : Bool). z || ltb 2 (largest_in l)) (sym e)
    go false true e f = lt-ltb 2 (max x (largest_in l)) (omega (arith, ltb-true 2 (largest_in l) f)) ∙ (λ i. sym e i || sym f i)
    go false false e f =
        le-ltb 2 (max x (largest_in l)) (omega (arith, ltb-false 2 x e, ltb-false 2 (largest_in l) f)) ∙ (λ i. sym e i || sym f i)

cut_largest : (l : List ℕ) → largest_in l ≤ 2 → eqb (largest_in l) 2 ≡ has_cut l
unfolding largest_in has_cut
cut_largest [] h = refl
cut_largest (x ∷ l) h = go (eqb x 2) (eqb (largest_in l) 2) refl refl ∙ ap (λ (b : Bool). eqb x 2 || b) (cut_largest l (omega arith))
  where
    go : (a b : Bool) → eqb x 2 ≡ a → eqb (largest_in l) 2 ≡ b → eqb (max x (largest_in l)) 2 ≡ (eqb x 2 || eqb (largest_in l) 2)
    go true b e f = eq-eqb (max x (largest_in l)) 2 (omega (arith, eqb-true x 2 e)) ∙ ap (λ (z : Bool). z || eqb (largest_in l) 2) (sym e)
    go false true e f = eq-eqb (max x (largest_in l)) 2 (omega (arith, eqb-true (largest_in l) 2 f)) ∙ (λ i. sym e i || sym f i)
    go false false e f =
        ne_eqb (max x (largest_in l)) 2 (λ z. differ x (largest_in l) (eqb-false x 2 e) (eqb-false (largest_in l) 2 f) z) ∙ (λ i. sym e i || sym f i)
      where
        differ : (a b : ℕ) → (a ≡ 2 → ⊥) → (b ≡ 2 → ⊥) → max a b ≡ 2 → ⊥
        differ a b p q z = omega (arith, p, q)

-- ---- 7, by the largest byte

module _ (g : Geometry) (n : ℕ) (l : List ℕ) (m : ℕ) {most : ℕ} (e : most ≡ largest_in l) where
  pub fine_below : most < 2 → false ≡ bad_script g n l m
  unfolding bad_script
  fine_below h =
      let o : has_over_two l ≡ false = sym (over_largest l) ∙ le-ltb 2 (largest_in l) (omega arith) in
      let c : has_cut l ≡ false = sym (cut_largest l (omega arith)) ∙ ne_eqb (largest_in l) 2 (λ z. omega arith) in
      λ i. sym o i || (sym c i && not (cut_fits g n m))

  pub bad_above : 2 < most → true ≡ bad_script g n l m
  unfolding bad_script
  bad_above h =
      let o : has_over_two l ≡ true = sym (over_largest l) ∙ lt-ltb 2 (largest_in l) (omega arith) in
      ap (λ (b : Bool). b || (has_cut l && not (cut_fits g n m))) (sym o)

  pub cut_two : 2 ≤ most → most ≤ 2 → not (eqb m (2 * g.size + n)) ≡ bad_script g n l m
  unfolding bad_script cut_fits
  cut_two h k =
      let o : has_over_two l ≡ false = sym (over_largest l) ∙ le-ltb 2 (largest_in l) (omega arith) in
      let c : has_cut l ≡ true = sym (cut_largest l (omega arith)) ∙ eq-eqb (largest_in l) 2 (omega arith) in
      λ i. sym o i || (sym c i && not (eqb m (2 * g.size + n)))

-- the junk's length fits a word
pub small : (g : Geometry) (n : ℕ) → Sized g n → Fits w64 (2 * g.size + n)
small g n z =
    let p = mul-le-mul z.few z.most in
    omega (arith, z.most, z.whole, p)
