-- `obeying::tell` meets its contract: the message laid over the start of the buffer is printed behind the line's number. Assumes nothing.
use native.Mathlib.Omega.{arith}
use mathlib.Core.Path.{ap}
use Rattle.lines.specs.Texts.{fault_text}
use Rattle.lines.proofs.Laws.{stands_counts}
use Rattle.printing.proofs.Laws.{printed_as, line_of}
use Rattle.obeying.proofs.Laws.{message_stands, output_kept}
use Rattle.obeying.proofs.tell.Goals as goal

pub slice_bounds-message-end : goal.slice_bounds-message-end
slice_bounds-message-end c =
    let z = stands_counts (message_stands _ c.message-k.ensures.0) (omega (arith, c.message-k.ensures.1)) in
    z.0

pub slice_bounds-print_fault-end : goal.slice_bounds-print_fault-end
slice_bounds-print_fault-end c =
    let z = stands_counts (message_stands _ c.message-k.ensures.0) (omega (arith, c.message-k.ensures.1)) in
    z.1

pub print_fault-p-requires : goal.print_fault-p-requires
print_fault-p-requires c =
    let z = stands_counts (message_stands _ c.message-k.ensures.0) (omega (arith, c.message-k.ensures.1)) in
    (omega (arith, z.1, c.message-k.ensures.1), c.requires)

pub returns : goal.returns
returns c =
    let z = stands_counts (message_stands _ c.message-k.ensures.0) (omega (arith, c.message-k.ensures.1)) in
    output_kept c.args.s c.with_output.ensures (printed_as c.print_fault-p.ensures (ap (fault_text c.args.s.lines) (line_of (message_stands _ c.message-k.ensures.0) z)))
