-- The printed lines, each with its LF.
-- Assumes nothing.
use Rattle.std.specs.Prelude.{ℕ, zero, suc, ◌+◌, ◌/◌, ◌%◌, ◌≡◌, cond, List, [], ◌∷◌, ◌++◌, length, ltb}
use Rattle.slices.specs.Lists.{splice}
use Rattle.words.specs.Letters.{bytes}
use Rattle.text.specs.Hexadecimal.{digit_of}
use Rattle.frame_text.specs.Lines.{line_text}

-- l stands in ys from index `at` up to index r; all else of ys is as in xs
pub record Stands (at : ℕ) (l : List ℕ) (r : ℕ) (xs ys : List ℕ) : Type 0 where
  pub end : r ≡ at + length l
  pub long : length ys ≡ length xs
  pub text : ys ≡ splice at l xs

-- a number of at most k + 1 decimal digits, with no 0 in front
unfoldable pub decimal_in : ℕ → ℕ → List ℕ
decimal_in zero n = (48 + n) ∷ []
decimal_in (suc k) n = cond (ltb n 10) ((48 + n) ∷ []) (decimal_in k (n / 10) ++ ((48 + n % 10) ∷ []))

-- a number below 2^64 in decimal
unfoldable pub decimal : ℕ → List ℕ
decimal n = decimal_in 19 n

-- eight upper-case hexadecimal digits
unfoldable pub word_text : ℕ → List ℕ
word_text n =
    digit_of (n / 0x1000_0000) ∷ digit_of (n / 0x100_0000) ∷ digit_of (n / 0x10_0000) ∷ digit_of (n / 0x1_0000)
    ∷ digit_of (n / 0x1000) ∷ digit_of (n / 0x100) ∷ digit_of (n / 0x10) ∷ digit_of n ∷ []

-- a name and a number in decimal
unfoldable pub count_text : List ℕ → ℕ → List ℕ
count_text name n = name ++ decimal n

-- a name and a number of 32 bits in hexadecimal
unfoldable pub check_text : List ℕ → ℕ → List ℕ
check_text name n = name ++ word_text n

-- a frame, from the six bytes that the log keeps of it
unfoldable pub frame_text : List ℕ → List ℕ
frame_text entry = line_text entry ++ bytes "\n"

-- `answer A`
unfoldable pub answer_text : ℕ → List ℕ
answer_text a = count_text (bytes "answer ") a ++ bytes "\n"

-- `frames F polls Q answer A`
unfoldable pub totals_text : ℕ → ℕ → ℕ → List ℕ
totals_text f q a = count_text (bytes "frames ") f ++ (count_text (bytes " polls ") q ++ (count_text (bytes " answer ") a ++ bytes "\n"))

-- `sum STATE log LOG out OUT n N`
unfoldable pub sum_text : ℕ → ℕ → ℕ → ℕ → List ℕ
sum_text s l o n =
    check_text (bytes "sum ") s ++ (check_text (bytes " log ") l ++ (check_text (bytes " out ") o ++ (count_text (bytes " n ") n ++ bytes "\n")))

-- `line N: ` and what is wrong
unfoldable pub fault_text : ℕ → List ℕ → List ℕ
fault_text n message = count_text (bytes "line ") n ++ (bytes ": " ++ (message ++ bytes "\n"))
