-- Worked examples of the definitions, by computation: digits as bytes.
-- Assumes nothing.
use mathlib.Core.Path.{◌≡◌, refl}
use mathlib.Core.List.{[], ◌∷◌}
use Rattle.slices.specs.Lists.{same}
use Rattle.std.specs.Prelude.{Err}
use Rattle.text.specs.declared.values.HexError.TheVariants.{NotHex, Odd}
use Rattle.text.specs.Lists.{every}
use Rattle.text.specs.Hexadecimal.{nibble_of, is_hex_digit, pair_of, pairs, hex_of, bytes_of}

-- `00aF`, `-`, `0g1`, `123`
bytes : bytes_of (48 ∷ 48 ∷ 97 ∷ 70 ∷ []) ≡ 0x00 ∷ 0xAF ∷ []
unfolding same every nibble_of is_hex_digit pair_of pairs hex_of bytes_of
bytes = refl

dash : bytes_of (45 ∷ []) ≡ []
unfolding same every nibble_of is_hex_digit pair_of pairs hex_of bytes_of
dash = refl

not_hex : hex_of (48 ∷ 103 ∷ 49 ∷ []) ≡ Err NotHex
unfolding same every nibble_of is_hex_digit hex_of
not_hex = refl

odd : hex_of (49 ∷ 50 ∷ 51 ∷ []) ≡ Err Odd
unfolding same every nibble_of is_hex_digit hex_of
odd = refl
