-- A word as a decimal number.
-- Assumes nothing.
use Rattle.std.specs.Prelude.{ℕ, ◌+◌, ◌-◌, ◌*◌, ◌^◌, Bool, ◌&&◌, cond, List, [], ◌∷◌, length, eqb, leb, ltb, Result, Ok, Err}
use Rattle.text.specs.declared.values.NumberError.{NumberError}
use Rattle.text.specs.declared.values.NumberError.TheVariants.{NotNumber, TooLarge}
use Rattle.text.specs.Lists.{every}

-- `0` to `9`
unfoldable pub is_digit : ℕ → Bool
is_digit x = leb 48 x && leb x 57

-- the value of digits that follow a number v
unfoldable pub value_from : ℕ → List ℕ → ℕ
value_from v [] = v
value_from v (x ∷ xs) = value_from (v * 10 + (x - 48)) xs

-- a number as a result: it is below 2 ^ 64, or too large
unfoldable pub below_limit : ℕ → Result ℕ NumberError
below_limit v = cond (ltb v (2 ^ 64)) (Ok v) (Err TooLarge)

-- decimal digits only, and at least one
unfoldable pub number_of : List ℕ → Result ℕ NumberError
number_of xs = cond (eqb (length xs) 0) (Err NotNumber) (cond (every is_digit xs) (below_limit (value_from 0 xs)) (Err NotNumber))
