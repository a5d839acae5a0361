-- `text::spans::word_end` meets its contract: the scan is that of what is no blank. Assumes nothing.
use Rattle.std.proofs.Common.{rules}
use Rattle.text.specs.Words.{not_blank}
use Rattle.text.proofs.spans.word_end.Goals as goal

pub returns : goal.returns
unfolding not_blank
returns c =
    let s = c.scan.ensures in
    (s.within.0, s.within.1, s.within.2, s.value not_blank (λ x b l k. search rules))
