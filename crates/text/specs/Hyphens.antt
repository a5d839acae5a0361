-- A word on either side of its first hyphen.
-- Assumes nothing.
use Rattle.std.specs.Prelude.{ℕ, suc, Bool, not, List, take, drop, eqb}
use Rattle.text.specs.Lists.{leading}

-- any byte but `-`
unfoldable pub not_hyphen : ℕ → Bool
not_hyphen x = not (eqb x 45)

-- the bytes before the first `-`, or all
unfoldable pub before_hyphen : List ℕ → List ℕ
before_hyphen xs = take (leading not_hyphen xs) xs

-- the bytes behind the first `-`, or none
unfoldable pub behind_hyphen : List ℕ → List ℕ
behind_hyphen xs = drop (suc (leading not_hyphen xs)) xs
