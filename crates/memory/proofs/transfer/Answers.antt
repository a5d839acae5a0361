-- `memory::transfer` meets its contract: the buffer's beginning comes back as the page, which is as long. Assumes nothing.
use mathlib.Core.Path.{sym, ap, ◌∙◌}
use lib.ListN.{length}
use lib.Seq.{length-take-le}
use Rattle.geometry.proofs.Pages.{length-page_of}
use Rattle.memory.specs.Pages.{transferred}
use Rattle.memory.proofs.Lent.{over_back}
use Rattle.memory.proofs.transfer.Goals as goal

pub slice_bounds-copy-end-2 : goal.slice_bounds-copy-end-2
slice_bounds-copy-end-2 c = sym (length-take-le c.args.g.size c.args.buffer.now c.requires.2)

pub copy-requires : goal.copy-requires
copy-requires c =
    let a = c.args in
    length-take-le a.g.size a.buffer.now c.requires.2 ∙ sym (ap length c.page_bytes.ensures ∙ length-page_of a.g a.page a.array.now c.requires.0 c.requires.1)

pub returns : goal.returns
unfolding transferred
returns c =
    let a = c.args in
    over_back a.buffer.now c.requires.2
    (c.copy.ensures ∙ c.page_bytes.ensures)
    (length-page_of a.g a.page a.array.now c.requires.0 c.requires.1)
