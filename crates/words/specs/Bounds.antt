-- Where a word and an option's value lie.
-- Assumes nothing.
use Rattle.std.specs.Prelude.{ℕ, ◌≤◌, Option, Some, None}
use Rattle.words.specs.declared.Span.{Span}
use Rattle.words.specs.declared.Key.{Key}

-- a part of a line of n characters
abbrev pub Within : ℕ → Span → Type 0
Within n s = (s.start ≤ s.end) × (s.end ≤ n)

-- the value begins within a word of n characters
abbrev pub SoundKeyed : ℕ → Option (Key × ℕ) → Type 0
SoundKeyed n (Some (k, i)) = i ≤ n
SoundKeyed n None = Unit
