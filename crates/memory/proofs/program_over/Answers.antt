-- `memory::program_over` meets its contract: the page's part of the array comes back as page AND buffer. Assumes nothing.
use mathlib.Core.Path.{sym, ap, ◌∙◌}
use mathlib.Core.List.{List}
use Prim.Native.Nat.{ℕ}
use lib.ListN.{take}
use lib.Seq.{length-take-le}
use Rattle.slices.specs.Lists.{and_over}
use Rattle.slices.proofs.Laws.{length-and_over}
use Rattle.geometry.specs.Parts.{page_of}
use Rattle.geometry.proofs.Pages.{length-page_of}
use Rattle.memory.specs.Pages.{programmed_over}
use Rattle.memory.proofs.Lent.{page_end, page_part, page_long, page_back}
use Rattle.memory.proofs.program_over.Goals as goal

pub slice_bounds-and_into-end : goal.slice_bounds-and_into-end
slice_bounds-and_into-end c = page_end c.args.array.now c.requires.0 c.requires.1 c.page_start-a.ensures.0

pub slice_bounds-and_into-end-2 : goal.slice_bounds-and_into-end-2
slice_bounds-and_into-end-2 c = sym (length-take-le c.args.g.size c.args.buffer.now c.requires.2)

pub and_into-requires : goal.and_into-requires
and_into-requires c = page_long c.args.array.now c.args.buffer.now c.requires.0 c.requires.1 c.requires.2 c.page_start-a.ensures.0

pub returns : goal.returns
unfolding programmed_over
returns c =
    let a = c.args in
    let m = take a.g.size a.buffer.now in
    page_back a.array.now c.requires.0 c.requires.1 c.page_start-a.ensures.0
    (c.and_into.ensures ∙ ap (λ (l : List ℕ). and_over l m) (page_part a.g a.page a.array.now c.page_start-a.ensures.0))
    (length-and_over (page_of a.g a.page a.array.now) m ∙ length-page_of a.g a.page a.array.now c.requires.0 c.requires.1)
