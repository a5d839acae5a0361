-- `printing::print_totals` meets its contract: the line that the buffer holds is printed. Assumes nothing.
use Rattle.printing.proofs.Laws.{printed_as, line_of}
use Rattle.printing.proofs.print_totals.Goals as goal

pub returns : goal.returns
returns c = printed_as c.emit.ensures (line_of c.write_totals-k.ensures.0 c.write_totals-k.ensures.1)
