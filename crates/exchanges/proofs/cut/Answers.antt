-- `exchanges::cut` meets its contract: the part is known and the junk fits, so the cut is accepted.
-- Assumes nothing.
use Rattle.blocks.specs.Promises.{held_in}
use Rattle.exchanges.proofs.Exchanges.{cut_left}
use Rattle.exchanges.proofs.cut.Goals as goal

pub returns : goal.returns
returns c =
    let a = c.args in
    cut_left a.g (held_in a.block.now a.array.now) a.junk.now c.requires.0 c.requires.1 c.cut.ensures
