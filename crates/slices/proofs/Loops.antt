-- Laws of loops over a slice, for the proofs of the functions that have them. After i turns of a loop that stores, the first i bytes
-- are the new ones and the others are as they came; a loop that compares has still to compare what lies behind index i.
-- Assumes nothing.
use mathlib.Core.Path.{◌≡◌, refl, ap, ◌∙◌}
use mathlib.Core.List.{List, [], ◌∷◌, ◌++◌, append-nil, append_assoc}
use mathlib.Core.Bool.{true, false}
use Prim.Native.Nat.{ℕ, zero, suc, ◌+◌, ◌<◌, ◌≤◌, zero-le}
use native.Mathlib.Nat.{not-suc-le-zero, le_of_suc-le-suc}
use native.Mathlib.Numerals.{add-one}
use native.Mathlib.Omega.{arith}
use lib.ListN.{length, set, take, drop, get_or, length-set, length-append, length-drop}
use lib.Seq.{drop-nil, drop-length, drop-drop, take_at, drop_at}
use borrow.Author.Tests.{eq-eqb, ne_eqb}
use Rattle.slices.specs.Lists.{tabulate, same}
use Rattle.slices.proofs.Laws.{length-tabulate, tabulate_append}

-- ---- a loop that stores f i at index i: xs became ys after i turns
pub record Stored (f : ℕ → ℕ) (xs : List ℕ) (i : ℕ) (ys : List ℕ) : Type 0 where
  pub within : i ≤ length xs
  pub made : ys ≡ tabulate i f ++ drop i xs
  pub long : length ys ≡ length xs

pub stored-none : (f : ℕ → ℕ) (xs : List ℕ) → Stored f xs 0 xs
unfolding tabulate
stored-none f xs = record { within = zero-le; made = refl; long = refl }

stored-suc : (i : ℕ) (f : ℕ → ℕ) (xs : List ℕ) → i < length xs → set (tabulate i f ++ drop i xs) i (f i) ≡ tabulate (suc i) f ++ drop (suc i) xs
unfolding tabulate
stored-suc i f [] h = absurd (not-suc-le-zero h)
stored-suc zero f (x ∷ xs) h = refl
stored-suc (suc i) f (x ∷ xs) h = ap (λ (l : List ℕ). f zero ∷ l) (stored-suc i (λ k. f (suc k)) xs (le_of_suc-le-suc h))

pub stored_more : {f : ℕ → ℕ} {xs ys : List ℕ} {i v : ℕ} → i < length ys → v ≡ f i → Stored f xs i ys → Stored f xs (i + 1) (set ys i v)
stored_more {f} {xs} {ys} {i} {v} h e s =
    record {
      within = omega arith;
      made = rw (s.made, e, add-one) (stored-suc i f xs (omega arith));
      long = simp length-set s.long;
    }

-- n turns at once, where ys was lent from i to i + n and came back
pub stored-run : {f : ℕ → ℕ} {xs ys : List ℕ} {i : ℕ} (n : ℕ) {zs : List ℕ} → i + n ≤ length ys → zs ≡ tabulate n (λ k. f (i + k)) → Stored f xs i ys
    → Stored f xs (i + n) (take i ys ++ (zs ++ drop n (drop i ys)))
stored-run {f} {xs} {ys} {i} n {zs} h e s =
    let t : take i ys ≡ tabulate i f = rw s.made (take_at (tabulate i f) (drop i xs) i (length-tabulate i f)) in
    let d : drop i ys ≡ drop i xs = rw s.made (drop_at (tabulate i f) (drop i xs) i (length-tabulate i f)) in
    let m : take i ys ++ (zs ++ drop n (drop i ys)) ≡ tabulate (i + n) f ++ drop (i + n) xs =
    simp (t, d, e, drop-drop, tabulate_append, append_assoc)
    in
    record {
      within = omega arith;
      made = m;
      long = ap length m ∙ simp (length-append, length-tabulate, length-drop) (omega arith);
    }

pub stored-all : {f : ℕ → ℕ} {xs ys : List ℕ} {i : ℕ} → length ys ≤ i → Stored f xs i ys → ys ≡ tabulate (length xs) f
stored-all {f} {xs} {ys} {i} h s =
    let e : i ≡ length xs = omega arith in
    s.made ∙ ap (λ (k : ℕ). tabulate k f ++ drop k xs) e
    ∙ ap (λ (k : List ℕ). tabulate (length xs) f ++ k) (drop-length xs) ∙ append-nil (tabulate (length xs) f)

rest : (i : ℕ) (f : ℕ → ℕ) (xs : List ℕ) (d : ℕ) → get_or (tabulate i f ++ drop i xs) i d ≡ get_or xs i d
unfolding tabulate
rest zero f xs d = refl
rest (suc i) f [] d = simp drop-nil at (rest i (λ k. f (suc k)) [] d)
rest (suc i) f (x ∷ xs) d = rest i (λ k. f (suc k)) xs d

-- byte i is still that of xs
pub stored-rest : {f : ℕ → ℕ} {xs ys : List ℕ} {i : ℕ} (d : ℕ) → Stored f xs i ys → get_or ys i d ≡ get_or xs i d
stored-rest {f} {xs} {i = i} d s = rw s.made (rest i f xs d)

-- ---- a loop that compares the first bytes of what is left of two lists
pub same_cons : {xs ys us vs : List ℕ} {a b : ℕ} → xs ≡ a ∷ us → ys ≡ b ∷ vs → a ≡ b → same xs ys ≡ same us vs
unfolding same
same_cons e f h = rw (e, f, eq-eqb _ _ h) refl

pub same_not : {xs ys us vs : List ℕ} {a b : ℕ} → xs ≡ a ∷ us → ys ≡ b ∷ vs → (a ≡ b → ⊥) → same xs ys ≡ false
unfolding same
same_not e f h = rw (e, f, ne_eqb _ _ h) refl

pub same_nil : (xs ys : List ℕ) → length xs ≡ 0 → length ys ≡ 0 → same xs ys ≡ true
unfolding same
same_nil [] [] e f = refl
same_nil [] (y ∷ ys) e f = absurd (omega (arith, f))
same_nil (x ∷ xs) ys e f = absurd (omega (arith, e))
