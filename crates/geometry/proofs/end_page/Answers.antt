-- `geometry::end_page` meets its contract: 0a is the definition's own line, and `end-high` is the rest.
-- Assumes nothing.
use Rattle.geometry.proofs.Sectors.{end-high}
use mathlib.Core.Path.{sym}
use native.Mathlib.Nat.{mul-le-mul}
use native.Mathlib.Omega.{arith}
use Rattle.geometry.specs.Sectors.{end_page}
use Rattle.geometry.proofs.end_page.Goals as goal

pub overflow_mul-result : goal.overflow_mul-result
overflow_mul-result c =
    let a = c.args in
    omega (arith, mul-le-mul {n₁ = a.g.span} {m₁ = a.sector} {n₂ = 4096} {m₂ = 4096} c.requires.0.narrow (omega (arith, c.requires.1)))

pub returns-in-0 : goal.returns-in-0
unfolding end_page
returns-in-0 c = rw c.in-0.is

pub returns-in_default : goal.returns-in_default
returns-in_default c = sym (end-high c.args.g c.args.sector (omega arith))
