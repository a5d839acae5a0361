-- `contents::junk_byte` meets its contract: what each remainder leaves out is a multiple of 256. Assumes nothing.
use Rattle.contents.proofs.Remainders.{junk-low}
use Rattle.contents.proofs.junk_byte.Goals as goal

pub returns : goal.returns
returns c = junk-low c.args.seed c.args.i
