-- `printing::print_sum` meets its contract: the line has the three checksums of the definition. Assumes nothing.
use Rattle.lines.specs.Texts.{sum_text}
use mathlib.Core.Path.{◌∙◌}
use Rattle.printing.specs.Texts.{sum_line}
use Rattle.printing.proofs.Laws.{printed_as, line_of}
use Rattle.printing.proofs.print_sum.Goals as goal

pub returns : goal.returns
unfolding sum_line
returns c =
    printed_as c.emit.ensures
    (line_of c.write_sum-k.ensures.0 c.write_sum-k.ensures.1 ∙ (λ i. sum_text (c.check_of_chip-state.ensures i) (c.check_of-l.ensures i) (c.check_of-g.ensures i) c.args.given))
