-- Eight bytes as one 64-bit number, first byte highest, and back.
-- Assumes nothing.
use Rattle.std.specs.Prelude.{ℕ, ◌+◌, ◌*◌, ◌/◌, ◌%◌, ◌^◌, List, [], ◌∷◌, get_or}

-- the number that eight bytes from index a on make
unfoldable pub word_at : List ℕ → ℕ → ℕ
word_at xs a =
    get_or xs a 0 * 2 ^ 56 + get_or xs (a + 1) 0 * 2 ^ 48 + get_or xs (a + 2) 0 * 2 ^ 40 + get_or xs (a + 3) 0 * 2 ^ 32 +
    get_or xs (a + 4) 0 * 2 ^ 24 + get_or xs (a + 5) 0 * 2 ^ 16 + get_or xs (a + 6) 0 * 2 ^ 8 + get_or xs (a + 7) 0

-- the eight bytes of a number below 2 ^ 64
unfoldable pub word_bytes : ℕ → List ℕ
word_bytes w =
    w / 2 ^ 56 % 256 ∷ w / 2 ^ 48 % 256 ∷ w / 2 ^ 40 % 256 ∷ w / 2 ^ 32 % 256 ∷
    w / 2 ^ 24 % 256 ∷ w / 2 ^ 16 % 256 ∷ w / 2 ^ 8 % 256 ∷ w % 256 ∷ []
