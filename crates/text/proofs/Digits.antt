-- Laws of decimal numbers. The value of digits that follow v is v or more, so a value that has reached 2 ^ 64 stays too large.
-- Assumes nothing.
use mathlib.Core.Path.{◌≡◌, refl}
use mathlib.Core.Bool.{Bool, true, false, cond}
use mathlib.Core.List.{List, [], ◌∷◌}
use Prim.Native.Nat.{ℕ, ◌+◌, ◌-◌, ◌*◌, ◌^◌, ◌≤◌, ◌<◌}
use native.Mathlib.Nat.{le_refl}
use native.Mathlib.Numerals.{add-one}
use native.Mathlib.Omega.{arith}
use lib.Dec.{eqb}
use lib.ListN.{length, drop, get_or, drop_of_length-le}
use lib.Seq.{drop-cons}
use borrow.Author.Tests.{lt-ltb, le-ltb, eq-eqb, ne_eqb}
use Rattle.std.specs.Prelude.{Result, Ok, Err}
use Rattle.text.specs.declared.values.NumberError.{NumberError}
use Rattle.text.specs.declared.values.NumberError.TheVariants.{NotNumber, TooLarge}
use Rattle.text.specs.Lists.{every}
use Rattle.text.specs.Decimal.{is_digit, value_from, below_limit, number_of}

pub value_step : (v : ℕ) (xs : List ℕ) (i : ℕ) → i < length xs → value_from v (drop i xs) ≡ value_from (v * 10 + (get_or xs i 0 - 48)) (drop (i + 1) xs)
unfolding value_from
value_step v xs i h = rw (add-one, drop-cons xs i 0 h) refl

pub value_end : (v : ℕ) (xs : List ℕ) (i : ℕ) → length xs ≤ i → value_from v (drop i xs) ≡ v
unfolding value_from
value_end v xs i h = rw (drop_of_length-le xs h) refl

value_grows : (v : ℕ) (xs : List ℕ) → v ≤ value_from v xs
unfolding value_from
value_grows v [] = le_refl v
value_grows v (x ∷ xs) = omega (arith, value_grows (v * 10 + (x - 48)) xs)

pub fits : (v : ℕ) → v < 2 ^ 64 → Ok v ≡ below_limit v
unfolding below_limit
fits v h = rw (lt-ltb v (2 ^ 64) h) refl

-- the value so far, with the digit d, is 2 ^ 64 or more
pub too_large : (v w : ℕ) (xs : List ℕ) (i d : ℕ) → i < length xs → d ≡ get_or xs i 0 - 48 → 2 ^ 64 ≤ v * 10 + d → value_from v (drop i xs) ≡ w → Err TooLarge ≡ below_limit w
unfolding below_limit
too_large v w xs i d h e l s =
    let g : v * 10 + (get_or xs i 0 - 48) ≤ value_from (v * 10 + (get_or xs i 0 - 48)) (drop (i + 1) xs) = value_grows _ _ in
    let k : 2 ^ 64 ≤ w = omega (arith, value_step v xs i h) in
    rw (le-ltb w (2 ^ 64) k) refl

pub none_empty : (xs : List ℕ) → length xs ≡ 0 → Err NotNumber ≡ number_of xs
unfolding number_of
none_empty xs e = rw (eq-eqb (length xs) 0 e) refl

either : (b : Bool) (n : Result ℕ NumberError) → n ≡ cond b n n
either true n = refl
either false n = refl

pub none_other : (xs : List ℕ) → every is_digit xs ≡ false → Err NotNumber ≡ number_of xs
unfolding number_of
none_other xs e = simp e (either (eqb (length xs) 0) (Err NotNumber))

pub some_digits : (xs : List ℕ) → (length xs ≡ 0 → ⊥) → every is_digit xs ≡ true → below_limit (value_from 0 xs) ≡ number_of xs
unfolding number_of
some_digits xs n e = rw (ne_eqb (length xs) 0 n, e) refl
