-- `registers::bits` meets its contract: each sector's bits as the definition has them.
-- Assumes nothing.
use Rattle.registers.specs.Protection.{bits_of}
use Rattle.registers.proofs.Protection.{byte_of, bits_high}
use mathlib.Core.Path.{sym}
use native.Mathlib.Omega.{arith}
use Rattle.registers.proofs.bits.Goals as goal

pub returns-in-0 : goal.returns-in-0
unfolding bits_of
returns-in-0 c = λ g r. rw (c.in-0.is, byte_of g c.args.bytes 0 (omega (arith, r)))

pub returns-in-1 : goal.returns-in-1
unfolding bits_of
returns-in-1 c = λ g r. rw (c.in-1.is, byte_of g c.args.bytes 0 (omega (arith, r)))

pub returns-in_default : goal.returns-in_default
returns-in_default c = λ g r. sym (bits_high g c.args.bytes c.args.sector (omega arith) (omega (arith, r)))
