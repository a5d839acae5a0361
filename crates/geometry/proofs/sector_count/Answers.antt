-- `geometry::sector_count` meets its contract: one more than the last page's sector, which is small enough not to wrap.
-- Assumes nothing.
use Prim.Native.Nat.{◌-◌}
use native.Mathlib.Omega.{arith}
use Rattle.geometry.specs.Sectors.{sector_count}
use Rattle.geometry.proofs.Sectors.{sector_small}
use Rattle.geometry.proofs.sector_count.Goals as goal

pub overflow_sub-last : goal.overflow_sub-last
overflow_sub-last c = omega (arith, c.requires.blocks)

pub overflow_add-result : goal.overflow_add-result
overflow_add-result c = omega (arith, c.sector_of.ensures, sector_small c.args.g c.requires.wide (c.args.g.pages - 1), c.requires.few)

pub returns : goal.returns
unfolding sector_count
returns c = rw c.sector_of.ensures
