-- Laws of reads and writes that wrap. Up to the wrap, index (start + i) % size is start + i, so a run of bytes that ends at or before
-- `size` is a plain part of the list, and behind a run all goes on at the remainder.
-- Assumes nothing.
use mathlib.Core.Path.{◌≡◌, refl, sym, ap, ◌∙◌}
use mathlib.Core.List.{List, [], ◌∷◌, ◌++◌, append-nil}
use Prim.Native.Nat.{ℕ, suc, ◌+◌, ◌%◌, ◌<◌, ◌≤◌}
use native.Mathlib.Nat.{mod-eq_of_lt, mod-add-mod, add_assoc, add-zero}
use native.Mathlib.Omega.{arith}
use lib.ListN.{length, set, take, drop, get_or, length-set}
use lib.Seq.{take-length}
use Rattle.slices.specs.Lists.{splice, ring_read, ring_write}
use Rattle.slices.proofs.Laws.{length-tabulate, get_or-tabulate, tabulate-same, tabulate_append, tabulate-part, over-whole, splice_nil, splice_cons, splice-zero}

-- ---- reads
pub length-ring_read : (n size start : ℕ) (xs : List ℕ) → length (ring_read n size start xs) ≡ n
unfolding ring_read
length-ring_read n size start xs = length-tabulate n (λ i. get_or xs ((start + i) % size) 0)

pub get_or-ring_read : (n size start : ℕ) (xs : List ℕ) (k d : ℕ) → k < n → get_or (ring_read n size start xs) k d ≡ get_or xs ((start + k) % size) 0
unfolding ring_read
get_or-ring_read n size start xs k d h = get_or-tabulate n (λ i. get_or xs ((start + i) % size) 0) k d h

-- a start is as good as its remainder
pub ring_read_mod : (n size start : ℕ) (xs : List ℕ) → ring_read n size (start % size) xs ≡ ring_read n size start xs
unfolding ring_read
ring_read_mod n size start xs = simp mod-add-mod

-- two reads, one behind the other
pub ring_read_append : (a b size start : ℕ) (xs : List ℕ) → ring_read (a + b) size start xs ≡ ring_read a size start xs ++ ring_read b size (start + a) xs
unfolding ring_read
ring_read_append a b size start xs = simp (tabulate_append, add_assoc)

-- a read that does not wrap
pub ring_read-run : (n size start : ℕ) (xs : List ℕ) → start + n ≤ size → size ≤ length xs → ring_read n size start xs ≡ take n (drop start xs)
unfolding ring_read
ring_read-run n size start xs h l =
    tabulate-same n (λ i. get_or xs ((start + i) % size) 0) (λ i. get_or xs (start + i) 0)
    (λ i k. ap (λ (m : ℕ). get_or xs m 0) (mod-eq_of_lt {n = start + i} {m = size} (omega arith)))
    ∙ tabulate-part n start xs 0 (omega arith)

pub ring_read-whole : (n size : ℕ) (xs : List ℕ) → n ≡ length xs → size ≡ length xs → ring_read n size 0 xs ≡ xs
ring_read-whole n size xs e h = ring_read-run n size 0 xs (omega arith) (omega arith) ∙ ap (λ (m : ℕ). take m xs) e ∙ take-length xs

-- ---- writes
pub ring_write_nil : (size at : ℕ) (xs : List ℕ) → ring_write size at [] xs ≡ xs
unfolding ring_write
ring_write_nil size at xs = refl

pub length-ring_write : (size at : ℕ) (ys xs : List ℕ) → length (ring_write size at ys xs) ≡ length xs
unfolding ring_write
length-ring_write size at [] xs = refl
length-ring_write size at (y ∷ ys) xs = length-ring_write size ((at + 1) % size) ys (set xs at y) ∙ length-set xs at y

-- a run ys that does not wrap, and then zs
pub ring_write-run : (size at : ℕ) (ys zs xs : List ℕ) → at < size → at + length ys ≤ size → ring_write size at (ys ++ zs) xs ≡ ring_write size ((at + length ys) % size) zs (splice at ys xs)
unfolding ring_write
ring_write-run size at [] zs xs h l = simp (add-zero, splice_nil, mod-eq_of_lt)
ring_write-run size at (y ∷ []) zs xs h l = simp (splice_cons, splice_nil)
ring_write-run size at (y ∷ (z ∷ ys)) zs xs h l =
    let m : at + 1 < size = omega arith in
    let e : at + 1 + suc (length ys) ≡ at + suc (suc (length ys)) = omega arith in
    ap (λ (k : ℕ). ring_write size k ((z ∷ ys) ++ zs) (set xs at y)) (mod-eq_of_lt m)
    ∙ ring_write-run size (at + 1) (z ∷ ys) zs (set xs at y) m (omega arith)
    ∙ ap (λ (k : ℕ). ring_write size (k % size) zs (splice (at + 1) (z ∷ ys) (set xs at y))) e
    ∙ ap (λ (l : List ℕ). ring_write size ((at + suc (suc (length ys))) % size) zs l) (sym (splice_cons at y (z ∷ ys) xs))

-- a write that does not wrap
pub ring_write-splice : (size at : ℕ) (ys xs : List ℕ) → at < size → at + length ys ≤ size → ring_write size at ys xs ≡ splice at ys xs
ring_write-splice size at ys xs h l =
    ap (λ (l : List ℕ). ring_write size at l xs) (sym (append-nil ys)) ∙ ring_write-run size at ys [] xs h l
    ∙ ring_write_nil size ((at + length ys) % size) (splice at ys xs)

pub ring_write-whole : (size : ℕ) (ys xs : List ℕ) → size ≡ length ys → size ≡ length xs → 0 < size → ring_write size 0 ys xs ≡ ys
ring_write-whole size ys xs e h l = ring_write-splice size 0 ys xs l (omega arith) ∙ splice-zero ys xs ∙ over-whole ys xs (omega arith)
