-- `memory::page_differs` meets its contract: the parts that are compared are the buffer's first bytes and the page.
-- Assumes nothing.
use mathlib.Core.Path.{sym, ap, ◌∙◌}
use mathlib.Core.Bool.{not}
use mathlib.Core.List.{List}
use Prim.Native.Nat.{ℕ}
use lib.ListN.{take}
use lib.Seq.{length-take-le}
use Rattle.slices.specs.Lists.{same}
use Rattle.memory.specs.Pages.{differing}
use Rattle.memory.proofs.page_differs.Goals as goal

pub slice_bounds-differs-end : goal.slice_bounds-differs-end
slice_bounds-differs-end c = sym (length-take-le c.args.g.size c.args.buffer.now c.requires.2)

pub returns : goal.returns
unfolding differing
returns c =
    let a = c.args in
    c.differs.ensures
    ∙ ap (λ (l : List ℕ). not (same (take a.g.size a.buffer.now) l)) c.page_bytes.ensures
