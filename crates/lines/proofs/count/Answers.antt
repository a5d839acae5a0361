-- `lines::count` meets its contract: the lesser of the two is within the part. Assumes nothing.
use lib.ListN.{length-take}
use native.Mathlib.Omega.{arith}
use borrow.Author.Rules.{rules}
use Rattle.lines.proofs.count.Goals as goal

pub returns : goal.returns
returns c = ((search rules, simp length-take (omega (arith, c.min.ensures))), c.min.ensures)
