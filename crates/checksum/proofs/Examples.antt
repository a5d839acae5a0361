-- The check value of CRC-32, by computation.
-- Assumes nothing.
use mathlib.Core.Path.{◌≡◌, refl}
use mathlib.Core.List.{[], ◌∷◌}
use lib.Bits.{bit_xor}
use Rattle.checksum.specs.Checksum.{polynomial, crc_bit, crc_bits, crc_of}

-- of `123456789`
check_value : bit_xor (crc_of 0xFFFF_FFFF (49 ∷ 50 ∷ 51 ∷ 52 ∷ 53 ∷ 54 ∷ 55 ∷ 56 ∷ 57 ∷ [])) 0xFFFF_FFFF ≡ 0xCBF4_3926
unfolding crc_of crc_bits crc_bit polynomial
check_value = refl
