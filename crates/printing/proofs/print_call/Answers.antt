-- `printing::print_call` meets its contract: the frames, then the totals. Assumes nothing.
use Rattle.printing.specs.Texts.{call_text}
use Rattle.printing.proofs.Laws.{printed_more}
use Rattle.printing.proofs.print_call.Goals as goal

pub returns : goal.returns
unfolding call_text
returns c = printed_more c.print_frames-p.ensures c.print_totals.ensures
