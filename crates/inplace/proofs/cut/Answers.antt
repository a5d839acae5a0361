-- `inplace::cut` meets its contract: the block is read, `chip::cut` is called on it, and what it leaves is stored.
-- Assumes nothing.
use Rattle.state.specs.declared.Chip.{Chip}
use Rattle.state.specs.Memory.{state_of}
use Rattle.state.specs.Outcomes.{cut_outcome}
use Rattle.inplace.proofs.Kept.{cut_back, leaves_read, met-stored}
use Rattle.inplace.proofs.cut.Goals as goal

pub returns : goal.returns
returns c =
    let a = c.args in
    let d = c.decode.ensures in
    met-stored a.block.now (leaves_read (λ (k : Chip). cut_outcome a.junk.now (state_of k a.array.now)) d.0 c.cut-o.ensures)
    c.store.ensures.0 c.store.ensures.1 (cut_back a.block.now a.array.now d.1 a.junk.now)
