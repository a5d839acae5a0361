-- Laws of tests over the bytes of a list: the first byte that does not pass is where the definitions stop, and std's tests of all
-- bytes, and of two lists, are the definitions', byte for byte.
-- Assumes nothing.
use mathlib.Core.Path.{◌≡◌, refl, ap, ◌∙◌}
use mathlib.Core.Bool.{Bool, true, false, ◌&&◌}
use mathlib.Core.List.{List, [], ◌∷◌}
use Prim.Native.Nat.{ℕ, zero, suc, ◌+◌, ◌-◌, ◌<◌, min}
use native.Mathlib.Omega.{arith}
use lib.ListN.{length, take, drop, get_or}
use lib.Dec.{eqb}
use lib.Seq.{drop-nil}
use Rattle.std.specs.List.{list_all}
use Rattle.std.specs.Cmp.Lexicographic.{pointwise}
use Rattle.slices.specs.Lists.{same}
use Rattle.slices.proofs.Laws.{tail_part}
use Rattle.text.specs.Lists.{every, leading, scan}

drop-min : (a : ℕ) (xs : List ℕ) → drop (min a (length xs)) xs ≡ drop a xs
drop-min a [] = rw (drop-nil, drop-nil) refl
drop-min zero (x ∷ xs) = let e : min 0 (length (x ∷ xs)) ≡ 0 = omega arith in rw e refl
drop-min (suc a) (x ∷ xs) = let e : min (suc a) (suc (length xs)) ≡ suc (min a (length xs)) = omega arith in rw e (drop-min a xs)

-- a scan from a on counts from there, or from the length
pub scan-from : (p : ℕ → Bool) (xs : List ℕ) (a m r : ℕ) → m ≡ min a (length xs) → r ≡ leading p (take (length xs - m) (drop m xs)) → m + r ≡ scan p xs a
unfolding scan
scan-from p xs a m r e f =
    let d : take (length xs - m) (drop m xs) ≡ drop a xs = tail_part m xs ∙ ap (λ (n : ℕ). drop n xs) e ∙ drop-min a xs in
    rw (f, d, e) refl

-- where the first bytes pass, and one does not, that one ends the scan
module _ (p : ℕ → Bool) where
  pub leading-first : (xs : List ℕ) (i : ℕ) → i < length xs → ((k : ℕ) → k < i → p (get_or xs k 0) ≡ true) → p (get_or xs i 0) ≡ false → leading p xs ≡ i
  unfolding leading
  leading-first [] i h f e = absurd (omega arith)
  leading-first (x ∷ xs) zero h f e = rw e refl
  leading-first (x ∷ xs) (suc i) h f e = rw (f 0 (omega arith)) (ap suc (leading-first xs i (omega arith) (λ k l. f (suc k) (omega arith)) e))

  pub leading-none : (xs : List ℕ) → ((k : ℕ) → k < length xs → p (get_or xs k 0) ≡ true) → leading p xs ≡ length xs
  unfolding leading
  leading-none [] f = refl
  leading-none (x ∷ xs) f = rw (f 0 (omega arith)) (ap suc (leading-none xs (λ k l. f (suc k) (omega arith))))

-- std's test of every byte
pub every_all : (p : ℕ → Bool) (xs : List ℕ) → list_all p xs ≡ every p xs
unfolding every
every_all p [] = refl
every_all p (x ∷ xs) = ap (λ (b : Bool). p x && b) (every_all p xs)

-- std's `==` of bytes
pub same_pointwise : (xs ys : List ℕ) → pointwise eqb xs ys ≡ same xs ys
unfolding same
same_pointwise [] [] = refl
same_pointwise [] (y ∷ ys) = refl
same_pointwise (x ∷ xs) [] = refl
same_pointwise (x ∷ xs) (y ∷ ys) = ap (λ (b : Bool). eqb x y && b) (same_pointwise xs ys)
