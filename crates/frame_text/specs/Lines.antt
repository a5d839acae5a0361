-- The printed text of a frame, from the six bytes that the log keeps of it: length in two bytes, higher first, then its first four.
-- Assumes nothing.
use Rattle.std.specs.Prelude.{ℕ, ◌+◌, ◌*◌, ◌/◌, ◌%◌, ◌≤◌, min, ◌≡◌, cond, List, [], ◌∷◌, ◌++◌, length, get_or, take, drop, ltb}
use Rattle.text.specs.Hexadecimal.{digit_of}

-- the decimal digit of n that is worth w, left out where n is below w
unfoldable pub digit_worth : ℕ → ℕ → List ℕ
digit_worth n w = cond (ltb n w) [] ((48 + n / w % 10) ∷ [])

-- a number below 100,000 in decimal
unfoldable pub decimal_of : ℕ → List ℕ
decimal_of n = digit_worth n 10000 ++ (digit_worth n 1000 ++ (digit_worth n 100 ++ (digit_worth n 10 ++ ((48 + n % 10) ∷ []))))

-- a space and two digits for each byte
unfoldable pub spaced : List ℕ → List ℕ
spaced [] = []
spaced (x ∷ xs) = 32 ∷ digit_of (x / 16) ∷ digit_of x ∷ spaced xs

-- the frame's length, higher byte first
unfoldable pub frame_length : List ℕ → ℕ
frame_length xs = get_or xs 0 0 * 256 + get_or xs 1 0

-- the length, then the first bytes, at most four and no more than the frame has
unfoldable pub line_text : List ℕ → List ℕ
line_text xs = decimal_of (frame_length xs) ++ spaced (take (min (frame_length xs) 4) (drop 2 xs))

-- n counts bytes at the start of xs; the second part, which follows from the first, serves `&xs[..n]`
abbrev pub Counts : ℕ → List ℕ → Type 0
Counts n xs = (n ≤ length xs) × (n ≡ length (take n xs))
