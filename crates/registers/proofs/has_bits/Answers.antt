-- `registers::has_bits` meets its contract: the test is the definition's.
-- Assumes nothing.
use Rattle.registers.specs.Protection.{has_bits}
use Rattle.registers.proofs.has_bits.Goals as goal

pub returns : goal.returns
unfolding has_bits
returns c = λ g r. rw (c.bits.ensures g r)
