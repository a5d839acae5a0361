-- `registers::mask` meets its contract: each sector's mask as the definition has it.
-- Assumes nothing.
use Rattle.registers.specs.Protection.{mask_of}
use Rattle.registers.proofs.Protection.{mask_high}
use mathlib.Core.Path.{sym}
use native.Mathlib.Omega.{arith}
use Rattle.registers.proofs.mask.Goals as goal

pub returns-in-0 : goal.returns-in-0
unfolding mask_of
returns-in-0 c = rw c.in-0.is

pub returns-in-1 : goal.returns-in-1
unfolding mask_of
returns-in-1 c = rw c.in-1.is

pub returns-in_default : goal.returns-in_default
returns-in_default c = sym (mask_high c.args.sector (omega arith))
