-- `geometry::sector_of` meets its contract: the code's test of the page is the definition's.
-- Assumes nothing.
use mathlib.Core.Path.{◌≡◌}
use Prim.Native.Nat.{◌/◌, ◌<◌, ◌^◌}
use native.Mathlib.Nat.{div-lt_iff_lt-mul}
use native.Mathlib.Omega.{arith}
use borrow.Author.Tests.{lt-ltb, le-ltb}
use Rattle.geometry.specs.Sectors.{sector_of}
use borrow.Author.Rules.{rules}
use Rattle.geometry.proofs.sector_of.Goals as goal

pub quotient-requires : goal.quotient-requires
quotient-requires c = omega (arith, c.requires.wide)

-- a quotient by more than 8 is far from wrapping
pub overflow_add-result : goal.overflow_add-result
overflow_add-result c =
    let a = c.args in
    let e : c.quotient.result ≡ a.page / a.g.span = c.quotient.ensures in
    let w : 8 < a.g.span = c.requires.wide in
    let p : a.page < 2 ^ 64 = search rules in
    let l : a.page / a.g.span < 2 ^ 61 = (div-lt_iff_lt-mul {k = a.g.span} {x = a.page} {y = 2 ^ 61} (omega arith)).1 (omega arith) in
    omega arith

pub returns-then-page-lt8 : goal.returns-then-page-lt8
unfolding sector_of
returns-then-page-lt8 c = rw (lt-ltb c.args.page 8 (omega arith))

pub returns-else-page-lt8 : goal.returns-else-page-lt8
unfolding sector_of
returns-else-page-lt8 c = rw (le-ltb c.args.page 8 (omega arith), c.quotient.ensures)
