-- What separates the words of a line.
-- Assumes nothing.
use Rattle.std.specs.Prelude.{ℕ, Bool, not, ◌||◌, eqb}

-- space, tab, CR
unfoldable pub is_blank : ℕ → Bool
is_blank x = eqb x 32 || (eqb x 9 || eqb x 13)

-- any other byte
unfoldable pub not_blank : ℕ → Bool
not_blank x = not (is_blank x)
