-- `geometry::first_page` meets its contract: 0a and 0b are the definition's own lines, and `first-high` is the rest.
-- Assumes nothing.
use Rattle.geometry.proofs.Sectors.{first-high}
use mathlib.Core.Path.{sym}
use Prim.Native.Nat.{◌-◌}
use native.Mathlib.Nat.{mul-le-mul}
use native.Mathlib.Omega.{arith}
use Rattle.geometry.specs.Sectors.{first_page}
use Rattle.geometry.proofs.first_page.Goals as goal

pub overflow_mul-result : goal.overflow_mul-result
overflow_mul-result c =
    let a = c.args in
    omega (arith, mul-le-mul {n₁ = a.g.span} {m₁ = a.sector - 1} {n₂ = 4096} {m₂ = 4096} c.requires.0.narrow (omega (arith, c.requires.1)))

pub returns-in-0 : goal.returns-in-0
unfolding first_page
returns-in-0 c = rw c.in-0.is

pub returns-in-1 : goal.returns-in-1
unfolding first_page
returns-in-1 c = rw c.in-1.is

pub returns-in_default : goal.returns-in_default
returns-in_default c = sym (first-high c.args.g c.args.sector (omega arith))
