-- A get's delivery: as many bytes go to the beginning of the buffer as the count, the bytes and the buffer allow.
-- Assumes nothing.
use mathlib.Core.Path.{◌≡◌, refl, sym, ap, ◌∙◌}
use mathlib.Core.Bool.{Bool, true, false}
use mathlib.Core.List.{List, [], ◌∷◌, ◌++◌, append-nil}
use Prim.Native.Nat.{ℕ, zero, suc, ◌≤◌, min}
use native.Mathlib.Nat.{not-suc-le-zero, le_of_suc-le-suc}
use native.Mathlib.Omega.{arith}
use lib.ListN.{length, take, drop, length-take, drop_of_length-le}
use lib.Seq.{take-take}
use lib.Dec.{leb}
use borrow.Author.Tests.{leb-true, leb-false}
use Rattle.slices.specs.Lists.{over}
use Rattle.slices.proofs.Laws.{over_append}

-- more bytes than the buffer has
over-short : (ys xs : List ℕ) → length xs ≤ length ys → over ys xs ≡ take (length xs) ys
unfolding over
over-short [] [] h = refl
over-short [] (x ∷ xs) h = absurd (not-suc-le-zero h)
over-short (y ∷ ys) [] h = refl
over-short (y ∷ ys) (x ∷ xs) h = ap (λ (l : List ℕ). y ∷ l) (over-short ys xs (le_of_suc-le-suc h))

take_own : (n : ℕ) (l : List ℕ) → take (length (take n l)) l ≡ take n l
take_own zero l = refl
take_own (suc n) [] = refl
take_own (suc n) (x ∷ l) = ap (λ (k : List ℕ). x ∷ k) (take_own n l)

pub laid : (n k : ℕ) (bytes buffer zs : List ℕ) → k ≡ min (min n (length bytes)) (length buffer) → zs ≡ take k bytes → zs ++ drop k buffer ≡ over (take n bytes) buffer
laid n k bytes buffer zs e z = go (leb (length (take n bytes)) (length buffer)) refl
  where
    go : (b : Bool) → leb (length (take n bytes)) (length buffer) ≡ b → zs ++ drop k buffer ≡ over (take n bytes) buffer
    go true t =
        let l = leb-true (length (take n bytes)) (length buffer) t in
        let m : k ≡ length (take n bytes) = omega (arith, length-take n bytes) in
        (λ i. (z ∙ ap (λ (j : ℕ). take j bytes) m ∙ take_own n bytes) i ++ drop (m i) buffer) ∙ sym (over_append (take n bytes) buffer l)
    go false t =
        let l = leb-false (length (take n bytes)) (length buffer) t in
        let m : k ≡ length buffer = omega (arith, length-take n bytes) in
        let o : length buffer ≤ n = omega (arith, length-take n bytes) in
        (λ i. (z ∙ ap (λ (j : ℕ). take j bytes) m ∙ sym (take-take (length buffer) n bytes o)) i ++ (ap (λ (j : ℕ). drop j buffer) m ∙ drop_of_length-le buffer {i = length buffer} (omega arith)) i)
        ∙ append-nil (take (length buffer) (take n bytes)) ∙ sym (over-short (take n bytes) buffer (omega arith))
