-- The busy end of the operation under way, as far as it concerns the registers. Nothing is tested again here: whether a frame
-- is ignored was decided when it ended.
-- Assumes nothing.
use Rattle.std.specs.Prelude.{replicate}
use Rattle.slices.specs.Lists.{over, and_over}
use Rattle.geometry.specs.declared.Geometry.{Geometry}
use Rattle.registers.specs.declared.Operation.{Operation}
use Rattle.registers.specs.declared.Operation.TheVariants.{Idle}
use Rattle.registers.specs.declared.Registers.{Registers}
use Rattle.registers.specs.declared.Update.{Update}
use Rattle.registers.specs.declared.Update.TheVariants.{Keep, FillProtection, MaskProtection, Lock, WriteUser}
use Rattle.registers.specs.Data.{bytes16, bytes64}
use Rattle.registers.specs.Facts.{update_of}
use Rattle.registers.specs.Fields.{with_protection, with_lockdown, with_user, with_operation}
use Rattle.registers.specs.Protection.{locked_bytes}

-- (7.11) CF fills the protection bytes
-- (7.12) FC clears protection bits by the data that it holds
-- (7.13) 30 sets the sector's bits in the lockdown bytes
-- (7.14) 9B makes its data the user bytes
abbrev pub updated : Geometry → Update → Registers → Registers
updated g Keep r = r
updated g FillProtection r = with_protection r (over (replicate g.register 255) r.protection)
updated g (MaskProtection d) r = with_protection r (and_over r.protection (bytes16 d))
updated g (Lock s) r = with_lockdown r (locked_bytes g r.lockdown s)
updated g (WriteUser d) r = with_user r (bytes64 d)

-- (7.2) by the operation alone, whatever marks and WP are by then
unfoldable pub completed_by : Geometry → Operation → Registers → Registers
completed_by g o r = updated g (update_of o) r

-- (7.1) the registers after a busy end: the operation has taken effect, and is none any more
unfoldable pub completed : Geometry → Registers → Registers
completed g r = with_operation (completed_by g r.operation r) Idle
