-- `registers::run_named` meets its contract: arm for arm the definition; what the part has ends in it (`runs`).
-- Assumes nothing.
use Rattle.registers.proofs.Operations.{named_sector}
use Rattle.geometry.proofs.Sectors.{sectors_few}
use native.Mathlib.Omega.{arith}
use Rattle.registers.proofs.run_named.Goals as goal

pub sector_run-requires : goal.sector_run-requires
sector_run-requires c =
    let l = named_sector c.args.g c.args.n c.requires.1 c.in-Sector.sector c.in-Sector.is in
    (c.requires.0, omega (arith, l, sectors_few c.args.g _ c.requires.0))
