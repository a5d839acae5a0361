-- `lines::put_decimal` meets its contract: a number below 2^64 has at most 20 digits, and the fewest digits that hold it are its digits.
-- Assumes nothing.
use mir.Syntax.{w64}
use mir.Val.{Fits}
use native.Mathlib.Omega.{arith}
use Prim.Native.Nat.{◌≤◌}
use mathlib.Core.Path.{◌∙◌}
use Rattle.lines.proofs.Laws.{stands_as, digits_all, few_digits}
use borrow.Author.Rules.{rules}
use Rattle.lines.proofs.put_decimal.Goals as goal

pub put-requires : goal.put-requires
put-requires c =
    let h : Fits w64 c.args.n = search rules in
    omega (arith, few_digits c.args.n c.decimal-k.result (omega arith) c.decimal-k.ensures.len, c.decimal-k.ensures.in_bounds.1)

pub returns : goal.returns
returns c =
    let h : Fits w64 c.args.n = search rules in
    let k : c.decimal-k.result ≤ 20 = few_digits c.args.n c.decimal-k.result (omega arith) c.decimal-k.ensures.len in
    (stands_as c.put.ensures (c.decimal-k.ensures.digits ∙ digits_all c.args.n c.decimal-k.result c.decimal-k.ensures.len k), omega (arith, c.put.ensures.end, c.decimal-k.ensures.in_bounds.1))
