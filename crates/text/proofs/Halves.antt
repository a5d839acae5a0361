-- Laws of a word's parts: a scan from the first byte on ends at the first hyphen.
-- Assumes nothing.
use mathlib.Core.Path.{◌≡◌, sym, ap, ◌∙◌}
use mathlib.Core.List.{List}
use Prim.Native.Nat.{ℕ, suc, ◌+◌, ◌-◌, ◌≤◌}
use native.Mathlib.Numerals.{add-one}
use native.Mathlib.Omega.{arith}
use lib.ListN.{length, take, drop, drop_of_length-le}
use Rattle.slices.proofs.Laws.{tail_part}
use Rattle.text.specs.Lists.{leading, scan}
use Rattle.text.specs.Hyphens.{not_hyphen, before_hyphen, behind_hyphen}

module _ (xs : List ℕ) (n : ℕ) (e : n ≡ scan not_hyphen xs 0) where
  at_hyphen : n ≡ leading not_hyphen xs
  unfolding scan
  at_hyphen = omega (arith, e)

  pub before : take n xs ≡ before_hyphen xs
  unfolding before_hyphen
  before = ap (λ (k : ℕ). take k xs) at_hyphen

  pub behind : take (length xs - (n + 1)) (drop (n + 1) xs) ≡ behind_hyphen xs
  unfolding behind_hyphen
  behind = tail_part (n + 1) xs ∙ ap (λ (k : ℕ). drop k xs) (add-one n ∙ ap suc at_hyphen)

  pub none_behind : length xs ≤ n → take (length xs - n) (drop n xs) ≡ behind_hyphen xs
  unfolding behind_hyphen
  none_behind h =
      tail_part n xs ∙ drop_of_length-le xs h ∙ sym (drop_of_length-le xs {i = suc (leading not_hyphen xs)} (omega (arith, at_hyphen)))
