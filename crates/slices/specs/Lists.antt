-- Lists of bytes, as the contracts of every crate cite them: a part laid over a list, a list computed byte by byte, and
-- reads and writes that wrap at a size. Each keeps its list's length, whatever the indices are.
-- Assumes nothing.
use Rattle.std.specs.Prelude.{ℕ, zero, suc, ◌+◌, ◌%◌, Bool, true, false, ◌&&◌, List, [], ◌∷◌, get_or, set, eqb}
use Rattle.std.specs.Int.Bits.{bit_and}

-- f 0, f 1, .. f (n - 1)
unfoldable pub tabulate : ℕ → (ℕ → ℕ) → List ℕ
tabulate zero f = []
tabulate (suc n) f = f zero ∷ tabulate n (λ k. f (suc k))

-- xs with its beginning replaced by ys, as far as xs reaches
unfoldable pub over : List ℕ → List ℕ → List ℕ
over [] xs = xs
over (y ∷ ys) [] = []
over (y ∷ ys) (x ∷ xs) = y ∷ over ys xs

-- xs with the bytes from index a on replaced by ys, as far as xs reaches
unfoldable pub splice : ℕ → List ℕ → List ℕ → List ℕ
splice zero ys xs = over ys xs
splice (suc a) ys [] = []
splice (suc a) ys (x ∷ xs) = x ∷ splice a ys xs

-- xs AND ys, byte for byte, as far as ys reaches
unfoldable pub and_over : List ℕ → List ℕ → List ℕ
and_over [] ys = []
and_over (x ∷ xs) [] = x ∷ xs
and_over (x ∷ xs) (y ∷ ys) = bit_and x y ∷ and_over xs ys

-- the lists agree, byte for byte
unfoldable pub same : List ℕ → List ℕ → Bool
same [] [] = true
same [] (y ∷ ys) = false
same (x ∷ xs) [] = false
same (x ∷ xs) (y ∷ ys) = eqb x y && same xs ys

-- n bytes read from index start on, going on at index 0 after index size - 1
unfoldable pub ring_read : ℕ → ℕ → ℕ → List ℕ → List ℕ
ring_read n size start xs = tabulate n (λ i. get_or xs ((start + i) % size) 0)

-- the bytes of ys stored in order from index at on, going on at index 0 after index size - 1: the last byte sent to a place wins
unfoldable pub ring_write : ℕ → ℕ → List ℕ → List ℕ → List ℕ
ring_write size at [] xs = xs
ring_write size at (y ∷ ys) xs = ring_write size ((at + 1) % size) ys (set xs at y)
