-- `memory::erase_sectors` meets its contract: what is done to each sector of the set is what `erase` does to a run. Assumes nothing.
use Rattle.std.proofs.Common.{rules}
use Rattle.memory.specs.Pages.{erased}
use Rattle.memory.proofs.erase_sectors.Goals as goal

pub returns : goal.returns
returns c = c.each_sector.ensures (erased c.args.g) (λ part r left e. search rules)
