-- `page_data::copy_from` meets its contract: where the bytes reach, they are the part, and else `pad_from` makes it.
-- Assumes nothing.
use mathlib.Core.Path.{sym, ◌∙◌}
use native.Mathlib.Omega.{arith}
use lib.ListN.{length}
use Rattle.slices.proofs.Laws.{tabulate-part, run-part}
use Rattle.page_data.proofs.copy_from.Goals as goal

pub returns-then-n-source : goal.returns-then-n-source
returns-then-n-source c =
    let a = c.args in
    let n = length a.part.now in
    c.copy.ensures ∙ run-part a.from n a.source.now ∙ sym (tabulate-part n a.from a.source.now a.other (omega (arith, c.if-n-source.true, c.if-from-source.true)))
