-- `lengths::lending::junk_for` meets its contract: a known part has its page size and its array, and the room is for the largest; an unknown one needs none. Assumes nothing.
use Rattle.lengths.proofs.Needed.{junk-small, junk_known, junk_unknown}
use native.Mathlib.Omega.{arith}
use Rattle.lengths.proofs.lending.junk_for.Goals as goal

pub overflow_mul-result : goal.overflow_mul-result
overflow_mul-result c = omega (arith, junk-small c.args.size c.part_of.ensures c.in-Some.is)

pub overflow_add-result : goal.overflow_add-result
overflow_add-result c = omega (arith, junk-small c.args.size c.part_of.ensures c.in-Some.is)

pub returns-in-Some : goal.returns-in-Some
returns-in-Some c = (junk_known c.args.size c.part_of.ensures c.in-Some.is, junk-small c.args.size c.part_of.ensures c.in-Some.is)

pub returns-in-None : goal.returns-in-None
returns-in-None c = (junk_unknown c.args.size c.part_of.ensures c.in-None.is, omega arith)
