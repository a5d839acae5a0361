-- `geometry::sector_run` meets its contract: a sector ends after it begins (`first-end`), so the count does not wrap.
-- Assumes nothing.
use Rattle.geometry.proofs.Sectors.{first-end}
use Prim.Native.Nat.{◌<◌}
use native.Mathlib.Omega.{arith}
use Rattle.geometry.specs.Sectors.{first_page, end_page, sector_run}
use Rattle.geometry.proofs.sector_run.Goals.{Start}
use Rattle.geometry.proofs.sector_run.Goals as goal

ends : (s : Start) → first_page s.args.g s.args.sector < end_page s.args.g s.args.sector
ends s = first-end s.args.g s.requires.0.wide s.args.sector

pub overflow_sub-result : goal.overflow_sub-result
overflow_sub-result c = omega (arith, ends c.before.before.before.before, c.end_page-end.ensures, c.first_page-first.ensures)

pub returns : goal.returns
unfolding sector_run
returns c = (
  rw (c.lesser-e.ensures, c.lesser-a.ensures, c.end_page-end.ensures, c.first_page-first.ensures),
  omega (arith, ends c.before.before.before.before, c.end_page-end.ensures, c.first_page-first.ensures),
)
