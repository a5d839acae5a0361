-- CRC-32 with the reflected polynomial EDB88320h, bit by bit.
-- Assumes nothing.
use Rattle.std.specs.Prelude.{ℕ, zero, suc, ◌/◌, ◌%◌, ◌<◌, ◌≡◌, cond, List, [], ◌∷◌, get_or, eqb}
use Rattle.std.specs.Int.Bits.{bit_xor}

-- the polynomial, lowest power in the highest of 32 bits
unfoldable pub polynomial : ℕ
polynomial = 0xEDB8_8320

-- one bit: the state is halved, and XORed with the polynomial where the bit that fell out is 1
unfoldable pub crc_bit : ℕ → ℕ
crc_bit s = cond (eqb (s % 2) 0) (s / 2) (bit_xor (s / 2) polynomial)

-- n bits
unfoldable pub crc_bits : ℕ → ℕ → ℕ
crc_bits zero s = s
crc_bits (suc n) s = crc_bits n (crc_bit s)

-- the bytes, each XORed into the state and taken through eight bits
unfoldable pub crc_of : ℕ → List ℕ → ℕ
crc_of s [] = s
crc_of s (x ∷ xs) = crc_of (crc_bits 8 (bit_xor s x)) xs

-- xs is a table of what eight bits make of each byte
pub record Tabled (xs : List ℕ) : Type 0 where
  pub entry : (k : ℕ) → k < 256 → get_or xs k 0 ≡ crc_bits 8 k
