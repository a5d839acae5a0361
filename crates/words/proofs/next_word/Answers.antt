-- `words::next_word` meets its contract: the two scans are the definition's, and each stays in the line and does not go back.
-- Assumes nothing.
use Rattle.text.specs.Words.{not_blank}
use Rattle.text.specs.Lists.{scan}
use mathlib.Core.Path.{ap, ◌∙◌}
use Rattle.words.proofs.next_word.Goals as goal

pub returns : goal.returns
returns c =
    let e = c.skip_blanks-start.ensures in
    let f = c.word_end-end.ensures in (
      (f.1 e.0, f.0),
      e.1,
      λ i. record { start = e.3 i; end = (f.3 ∙ ap (scan not_blank c.args.line.now) e.3) i },
    )
