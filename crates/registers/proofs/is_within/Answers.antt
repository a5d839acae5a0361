-- `registers::is_within` meets its contract: arm for arm the definition; a set of sectors is below 2 to their number.
-- Assumes nothing.
use mathlib.Core.Path.{◌≡◌}
use Prim.Native.Nat.{◌*◌, ◌%◌, ◌^◌}
use Rattle.geometry.proofs.Sectors.{sectors_few}
use native.Mathlib.Omega.{arith}
use lib.Pow.{pow_mono}
use Rattle.registers.proofs.is_within.Goals as goal

pub overflow_cast-result : goal.overflow_cast-result
overflow_cast-result c = omega (arith, sectors_few c.args.g _ c.requires, c.sector_count-in-Sectors.ensures)

pub overflow_shl-result : goal.overflow_shl-result
overflow_shl-result c = omega (arith, sectors_few c.args.g _ c.requires, c.sector_count-in-Sectors.ensures)

pub returns-in-Sectors : goal.returns-in-Sectors
returns-in-Sectors c =
    let n = c.sector_count-in-Sectors in
    let few = sectors_few c.args.g _ c.requires in
    let e : 1 * 2 ^ n.result % 4294967296 ≡ 2 ^ n.result = omega (arith, pow_mono {i = n.result} {j = 17} (omega (arith, few, n.ensures))) in
    rw (c.in-Sectors.is, e, n.ensures)
