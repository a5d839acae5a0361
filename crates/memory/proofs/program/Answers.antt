-- `memory::program` meets its contract: the page's part of the array comes back as the buffer's first bytes. Assumes nothing.
use mathlib.Core.Path.{sym}
use lib.Seq.{length-take-le}
use Rattle.memory.specs.Pages.{programmed}
use Rattle.memory.proofs.Lent.{page_end, page_long, page_back}
use Rattle.memory.proofs.program.Goals as goal

pub slice_bounds-copy-end : goal.slice_bounds-copy-end
slice_bounds-copy-end c = page_end c.args.array.now c.requires.0 c.requires.1 c.page_start-a.ensures.0

pub slice_bounds-copy-end-2 : goal.slice_bounds-copy-end-2
slice_bounds-copy-end-2 c = sym (length-take-le c.args.g.size c.args.buffer.now c.requires.2)

pub copy-requires : goal.copy-requires
copy-requires c = page_long c.args.array.now c.args.buffer.now c.requires.0 c.requires.1 c.requires.2 c.page_start-a.ensures.0

pub returns : goal.returns
unfolding programmed
returns c =
    let a = c.args in
    page_back a.array.now c.requires.0 c.requires.1 c.page_start-a.ensures.0 c.copy.ensures (length-take-le a.g.size a.buffer.now c.requires.2)
