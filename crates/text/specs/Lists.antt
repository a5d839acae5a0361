-- Tests over the bytes of a list.
-- Assumes nothing.
use Rattle.std.specs.Prelude.{ℕ, suc, ◌+◌, min, Bool, true, ◌&&◌, cond, List, [], ◌∷◌, length, drop}

-- every byte passes the test
unfoldable pub every : (ℕ → Bool) → List ℕ → Bool
every p [] = true
every p (x ∷ xs) = p x && every p xs

-- how many bytes stand before the first that does not pass the test
unfoldable pub leading : (ℕ → Bool) → List ℕ → ℕ
leading p [] = 0
leading p (x ∷ xs) = cond (p x) (suc (leading p xs)) 0

-- the first index from a on whose byte does not pass the test, or the length
unfoldable pub scan : (ℕ → Bool) → List ℕ → ℕ → ℕ
scan p xs a = min a (length xs) + leading p (drop a xs)
