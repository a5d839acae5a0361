-- `contents::fill_junk` meets its contract: after i turns the first i bytes are the junk of the seed. Assumes nothing.
use Rattle.slices.proofs.Loops.{stored-none, stored_more, stored-all}
use native.Mathlib.Omega.{arith}
use Rattle.contents.proofs.fill_junk.Goals as goal

pub loop-i-init : goal.loop-i-init
loop-i-init c = stored-none _ _

pub loop-i-preserved : goal.loop-i-preserved
loop-i-preserved c = stored_more (omega arith) c.junk_byte.ensures c.loop-i.invariant

pub returns : goal.returns
returns c = stored-all (omega arith) c.loop-i.invariant
