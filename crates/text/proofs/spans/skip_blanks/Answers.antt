-- `text::spans::skip_blanks` meets its contract: the scan is that of blanks. Assumes nothing.
use Rattle.std.proofs.Common.{rules}
use Rattle.text.specs.Words.{is_blank}
use Rattle.text.proofs.spans.skip_blanks.Goals as goal

pub returns : goal.returns
returns c =
    let s = c.scan.ensures in
    (s.within.0, s.within.1, s.within.2, s.value is_blank (λ x b l k. search rules))
