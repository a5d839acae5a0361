-- Worked examples of the definitions, by computation: two frames.
-- Assumes nothing.
use mathlib.Core.Path.{◌≡◌, refl}
use mathlib.Core.List.{[], ◌∷◌}
use Rattle.text.specs.Hexadecimal.{digit_of}
use Rattle.frame_text.specs.Lines.{digit_worth, decimal_of, spaced, frame_length, line_text}

-- a frame of 268 bytes: `268 84 00 00 2A`; one of 1 byte: `1 D7`
long : line_text (1 ∷ 12 ∷ 0x84 ∷ 0 ∷ 0 ∷ 0x2A ∷ [])
    ≡ 50 ∷ 54 ∷ 56 ∷ 32 ∷ 56 ∷ 52 ∷ 32 ∷ 48 ∷ 48 ∷ 32 ∷ 48 ∷ 48 ∷ 32 ∷ 50 ∷ 65 ∷ []
unfolding digit_worth decimal_of digit_of spaced frame_length line_text
long = refl

short : line_text (0 ∷ 1 ∷ 0xD7 ∷ 0 ∷ 0 ∷ 0 ∷ []) ≡ 49 ∷ 32 ∷ 68 ∷ 55 ∷ []
unfolding digit_worth decimal_of digit_of spaced frame_length line_text
short = refl
