-- `registers::locked_bytes` meets its contract: the one byte that serves the sector is changed, and for 0a and 0b that is byte 0.
-- Assumes nothing.
use Rattle.registers.specs.Protection.{locked_bytes}
use Prim.Native.Nat.{◌-◌}
use native.Mathlib.Omega.{arith}
use borrow.Author.Tests.{lt-ltb}
use Rattle.registers.proofs.locked_bytes.Goals as goal

pub returns : goal.returns
unfolding locked_bytes
returns c = λ g r. rw (c.saturating_sub.ensures, c.mask.ensures, lt-ltb (c.args.sector - 1) g.register (omega (arith, r)))
