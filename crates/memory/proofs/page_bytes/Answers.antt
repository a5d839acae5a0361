-- `memory::page_bytes` meets its contract: the part from the page's start on that is as long as a page is the page. Assumes nothing.
use Rattle.memory.proofs.Lent.{page_end, page_part}
use Rattle.memory.proofs.page_bytes.Goals as goal

pub slice_bounds-result-end : goal.slice_bounds-result-end
slice_bounds-result-end c = page_end c.args.array.now c.requires.0 c.requires.1 c.page_start-a.ensures.0

pub returns : goal.returns
returns c = page_part c.args.g c.args.page c.args.array.now c.page_start-a.ensures.0
