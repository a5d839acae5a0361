-- `obeying::next_line` meets its contract: the count goes up by one, and stays at its largest. Assumes nothing.
use native.Mathlib.Omega.{arith}
use Prim.Native.Nat.{◌+◌}
use mathlib.Core.Path.{refl}
use mir.Syntax.{w64}
use mir.Val.{Fits}
use Rattle.obeying.proofs.Laws.{line-counted}
use borrow.Author.Rules.{rules}
use Rattle.obeying.proofs.next_line.Goals as goal

pub returns-then-t-lt18446744073709551615 : goal.returns-then-t-lt18446744073709551615
returns-then-t-lt18446744073709551615 c = (line-counted c.args.s (c.args.s.lines + 1) (omega (arith, c.if-t-lt18446744073709551615.true)), refl)

pub returns-else-t-lt18446744073709551615 : goal.returns-else-t-lt18446744073709551615
returns-else-t-lt18446744073709551615 c =
    let f : Fits w64 (c.args.s.lines) = search rules in
    (line-counted c.args.s (c.args.s.lines) (omega (arith, c.if-t-lt18446744073709551615.false)), refl)
