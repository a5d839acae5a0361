-- `acting::make_ready` meets its contract: each buffer is filled, one after another. Assumes nothing.
use Rattle.acting.proofs.make_ready.Goals as goal

pub returns : goal.returns
returns c = (c.fill_junk.ensures, c.fill.ensures, c.fill-2.ensures)
