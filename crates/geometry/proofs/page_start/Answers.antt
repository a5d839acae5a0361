-- `geometry::page_start` meets its contract: no page of the part begins after the array's end, whose length fits.
-- Assumes nothing.
use native.Mathlib.Omega.{arith}
use native.Mathlib.Nat.{mul-le-mul_right}
use mathlib.Core.Path.{refl}
use Rattle.geometry.specs.Parts.{page_start}
use Rattle.geometry.proofs.page_start.Goals as goal

pub overflow_mul-result : goal.overflow_mul-result
overflow_mul-result c = omega (arith, mul-le-mul_right c.args.g.size c.requires.0)

pub returns : goal.returns
unfolding page_start
returns c = (refl, mul-le-mul_right c.args.g.size c.requires.0)
