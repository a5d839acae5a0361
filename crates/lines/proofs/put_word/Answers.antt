-- `lines::put_word` meets its contract: its eight digits are those of the definition, one by one. Assumes nothing.
use Rattle.text.specs.Hexadecimal.{digit_of}
use native.Mathlib.Nat.{div-one}
use mathlib.Core.Path.{ap, ◌∙◌}
use mathlib.Core.List.{[], ◌∷◌}
use Rattle.lines.specs.Texts.{word_text}
use Rattle.lines.proofs.Laws.{stands_as}
use Rattle.lines.proofs.put_word.Goals as goal

pub returns : goal.returns
unfolding word_text
returns c =
    stands_as c.put.ensures
    (λ i. c.digit_at.ensures i ∷ c.digit_at-2.ensures i ∷ c.digit_at-3.ensures i ∷ c.digit_at-4.ensures i ∷ c.digit_at-5.ensures i ∷ c.digit_at-6.ensures i ∷ c.digit_at-7.ensures i ∷ (c.digit_at-8.ensures ∙ ap digit_of (div-one c.args.n)) i ∷ [])
