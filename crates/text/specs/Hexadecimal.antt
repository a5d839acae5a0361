-- Hexadecimal digits, and a word of them as bytes.
-- Assumes nothing.
use Rattle.std.specs.Prelude.{ℕ, ◌+◌, ◌-◌, ◌*◌, ◌/◌, ◌%◌, Bool, cond, List, [], ◌∷◌, length, take, eqb, leb, ltb, Option, Some, None, is_some, unwrap_or, Result, Ok, Err}
use Rattle.slices.specs.Lists.{same}
use Rattle.text.specs.declared.values.HexError.{HexError}
use Rattle.text.specs.declared.values.HexError.TheVariants.{NotHex, Odd}
use Rattle.text.specs.Lists.{every}

-- the upper-case digit of n % 16
unfoldable pub digit_of : ℕ → ℕ
digit_of n = cond (ltb (n % 16) 10) (48 + n % 16) (55 + n % 16)

-- what the digit x is worth: `0` to `9`, `A` to `F`, `a` to `f`; nothing for any other byte
unfoldable pub nibble_of : ℕ → Option ℕ
nibble_of x =
    cond (ltb x 48) None
    (cond (leb x 57) (Some (x - 48))
    (cond (ltb x 65) None
    (cond (leb x 70) (Some (x - 55))
    (cond (ltb x 97) None
    (cond (leb x 102) (Some (x - 87)) None)))))

-- a digit of either case
unfoldable pub is_hex_digit : ℕ → Bool
is_hex_digit x = is_some (nibble_of x)

-- the byte of two digits, the higher first; what is no digit counts as 0
unfoldable pub pair_of : ℕ → ℕ → ℕ
pair_of x y = unwrap_or (nibble_of x) 0 * 16 + unwrap_or (nibble_of y) 0

-- a byte for each two digits
unfoldable pub pairs : List ℕ → List ℕ
pairs [] = []
pairs (x ∷ []) = []
pairs (x ∷ y ∷ xs) = pair_of x y ∷ pairs xs

-- `-` alone makes no bytes; else hexadecimal digits only, and an even number of them
unfoldable pub hex_of : List ℕ → Result ℕ HexError
hex_of xs =
    cond (same xs (45 ∷ [])) (Ok 0)
    (cond (every is_hex_digit xs)
    (cond (eqb (length xs % 2) 0) (Ok (length xs / 2)) (Err Odd))
    (Err NotHex))

-- how many bytes there are
abbrev pub count_of : Result ℕ HexError → ℕ
count_of (Ok n) = n
count_of (Err _) = 0

-- the bytes that a word makes
unfoldable pub bytes_of : List ℕ → List ℕ
bytes_of xs = take (count_of (hex_of xs)) (pairs xs)
