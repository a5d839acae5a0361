-- `text::hyphens::before_hyphen` meets its contract: the scan ends at the first hyphen (`before`). Assumes nothing.
use mathlib.Core.Path.{sym}
use lib.Seq.{length-take-le}
use Rattle.std.proofs.Common.{rules}
use Rattle.text.specs.Hyphens.{not_hyphen}
use Rattle.text.proofs.Halves.{before}
use Rattle.text.proofs.hyphens.before_hyphen.Goals as goal

pub slice_bounds-result-end : goal.slice_bounds-result-end
slice_bounds-result-end c = sym (length-take-le _ _ c.scan-end.ensures.within.0)

pub returns : goal.returns
unfolding not_hyphen
returns c = before c.args.word.now c.scan-end.result (c.scan-end.ensures.value not_hyphen (λ x b l k. search rules))
