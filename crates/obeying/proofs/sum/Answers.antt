-- `obeying::sum` meets its contract: the parts that the last step lent are summed. Assumes nothing.
use Rattle.printing.proofs.Laws.{printed_as}
use Rattle.obeying.proofs.Laws.{sum_parts, output_kept}
use Rattle.obeying.proofs.sum.Goals as goal

pub returns : goal.returns
returns c =
    let r = c.args.room.now in
    output_kept c.args.s c.with_output.ensures (printed_as c.print_sum-p.ensures (sum_parts c.args.s r.block r.array r.log r.out c.count-n.ensures.1 c.count-l.ensures.1 c.count-o.ensures.1))
