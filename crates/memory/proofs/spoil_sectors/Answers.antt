-- `memory::spoil_sectors` meets its contract: what is done to each sector of the set is what `spoil` does to a run. Assumes nothing.
use Rattle.std.proofs.Common.{rules}
use Rattle.memory.specs.Pages.{junked}
use Rattle.memory.proofs.spoil_sectors.Goals as goal

pub returns : goal.returns
returns c = c.each_sector.ensures (junked c.args.g c.args.junk.now) (λ part r left e. search rules)
