-- `memory::spoil_buffer` meets its contract: the buffer's beginning comes back as the junk's part, which is as long.
-- Assumes nothing.
use mathlib.Core.Path.{sym, ◌∙◌}
use native.Mathlib.Omega.{arith}
use lib.ListN.{length-take, length-drop}
use lib.Seq.{length-take-le}
use Rattle.slices.proofs.Laws.{run-part}
use Rattle.memory.specs.Pages.{junk_buffer}
use Rattle.memory.proofs.Lent.{over_back}
use Rattle.memory.proofs.spoil_buffer.Goals as goal

pub slice_bounds-copy-end-2 : goal.slice_bounds-copy-end-2
slice_bounds-copy-end-2 c = sym (length-take-le c.args.g.size c.args.buffer.now c.requires.0)

pub copy-requires : goal.copy-requires
copy-requires c = simp (length-take, length-drop) (omega arith)

pub returns : goal.returns
unfolding junk_buffer
returns c =
    let a = c.args in
    over_back a.buffer.now c.requires.0 (c.copy.ensures ∙ run-part a.at a.g.size a.junk.now) (simp (length-take, length-drop) (omega arith))
