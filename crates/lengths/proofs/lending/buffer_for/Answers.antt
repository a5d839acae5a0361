-- `lengths::lending::buffer_for` meets its contract: a known part has its page size, so eight pages less three bytes; an unknown one needs none. Assumes nothing.
use Rattle.lengths.proofs.Needed.{buffer-small, page_some, buffer_known, buffer_unknown}
use native.Mathlib.Omega.{arith}
use Rattle.lengths.proofs.lending.buffer_for.Goals as goal

pub overflow_mul-result : goal.overflow_mul-result
overflow_mul-result c = omega (arith, buffer-small c.args.size c.part_of.ensures c.in-Some.is, page_some c.args.size c.part_of.ensures c.in-Some.is)

pub overflow_sub-result : goal.overflow_sub-result
overflow_sub-result c = omega (arith, buffer-small c.args.size c.part_of.ensures c.in-Some.is, page_some c.args.size c.part_of.ensures c.in-Some.is)

pub returns-in-Some : goal.returns-in-Some
returns-in-Some c = buffer_known c.args.size c.part_of.ensures c.in-Some.is

pub returns-in-None : goal.returns-in-None
returns-in-None c = buffer_unknown c.args.size c.part_of.ensures c.in-None.is
