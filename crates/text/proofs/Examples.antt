-- Worked examples of the definitions, by computation: a number at its limit.
-- Assumes nothing.
use mathlib.Core.Path.{◌≡◌, refl}
use mathlib.Core.List.{[], ◌∷◌}
use Prim.Native.Nat.{◌^◌, ◌-◌}
use Rattle.std.specs.Prelude.{Ok, Err}
use Rattle.text.specs.declared.values.NumberError.TheVariants.{NotNumber, TooLarge}
use Rattle.text.specs.Lists.{every}
use Rattle.text.specs.Decimal.{is_digit, value_from, below_limit, number_of}

-- `18446744073709551615` and one more
largest : number_of (49 ∷ 56 ∷ 52 ∷ 52 ∷ 54 ∷ 55 ∷ 52 ∷ 52 ∷ 48 ∷ 55 ∷ 51 ∷ 55 ∷ 48 ∷ 57 ∷ 53 ∷ 53 ∷ 49 ∷ 54 ∷ 49 ∷ 53 ∷ []) ≡ Ok (2 ^ 64 - 1)
unfolding every is_digit value_from below_limit number_of
largest = refl

one_more : number_of (49 ∷ 56 ∷ 52 ∷ 52 ∷ 54 ∷ 55 ∷ 52 ∷ 52 ∷ 48 ∷ 55 ∷ 51 ∷ 55 ∷ 48 ∷ 57 ∷ 53 ∷ 53 ∷ 49 ∷ 54 ∷ 49 ∷ 54 ∷ []) ≡ Err TooLarge
unfolding every is_digit value_from below_limit number_of
one_more = refl

empty : number_of [] ≡ Err NotNumber
unfolding number_of
empty = refl
