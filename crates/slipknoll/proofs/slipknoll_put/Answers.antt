-- `slipknoll::slipknoll_put` meets its contract: the call keeps its promise on the block, and its caller is told what it handed back. Assumes nothing.
use Rattle.runs.proofs.Promised.{told}
use Rattle.slipknoll.proofs.slipknoll_put.Goals as goal

pub returns : goal.returns
returns c = told c.tell.ensures c.put-d.ensures
