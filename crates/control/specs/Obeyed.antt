-- Which frames a deep or a busy chip obeys.
-- Assumes nothing.
use Rattle.std.specs.Prelude.{Bool, true, false, cond, not, ◌&&◌}
use Rattle.commands.specs.declared.Buffer.{Buffer}
use Rattle.commands.specs.declared.Buffer.TheVariants.{One, Two}
use Rattle.commands.specs.declared.Effect.{Effect}
use Rattle.commands.specs.declared.Effect.TheVariants as E
use Rattle.control.specs.declared.Class.{Class}
use Rattle.control.specs.declared.Class.TheVariants.{Status, Id, Wake, OfBuffer, Other}
use Rattle.registers.specs.declared.Operation.{Operation}
use Rattle.registers.specs.declared.Registers.{Registers}
use Rattle.registers.specs.declared.Usage.{Usage}
use Rattle.registers.specs.declared.Usage.TheVariants.{Free, NoBuffer, Uses, Exclusive}
use Rattle.registers.specs.Facts.{facts_of}

-- (5.6) what matters of a command for whether it is obeyed
unfoldable pub class_of : Effect → Class
class_of E.ReadPage = Other
class_of E.ReadArray = Other
class_of (E.ReadBuffer b) = OfBuffer b
class_of (E.WriteBuffer b) = OfBuffer b
class_of (E.Program b) = Other
class_of (E.ProgramOver b) = Other
class_of (E.ProgramThrough b) = Other
class_of E.ErasePage = Other
class_of E.EraseBlock = Other
class_of E.EraseSector = Other
class_of E.EraseChip = Other
class_of (E.Transfer b) = Other
class_of (E.Compare b) = Other
class_of (E.Rewrite b) = Other
class_of E.ProtectOn = Other
class_of E.ProtectOff = Other
class_of E.EraseProtection = Other
class_of E.ProgramProtection = Other
class_of E.LockSector = Other
class_of E.ProgramSecurity = Other
class_of E.ReadProtection = Other
class_of E.ReadLockdown = Other
class_of E.ReadSecurity = Other
class_of E.ReadStatus = Status
class_of E.ReadId = Id
class_of E.PowerDown = Other
class_of E.Resume = Wake
class_of E.Unlisted = Other

-- Aid: what matters of the operation under way
abbrev pub usage_of : Operation → Usage
usage_of o = (facts_of o).usage

-- Aid: the buffers are one
abbrev pub same_buffer : Buffer → Buffer → Bool
same_buffer One One = true
same_buffer One Two = false
same_buffer Two One = false
same_buffer Two Two = true

-- (5.2) an idle chip: every command
-- (5.3) a busy one: D7, 9F, and a buffer that is free
-- (5.5) with CF, FC, 30 or 9B: D7
unfoldable pub allowed : Usage → Class → Bool
allowed Free c = true
allowed NoBuffer Status = true
allowed NoBuffer Id = true
allowed NoBuffer Wake = false
allowed NoBuffer (OfBuffer b) = true
allowed NoBuffer Other = false
allowed (Uses u) Status = true
allowed (Uses u) Id = true
allowed (Uses u) Wake = false
allowed (Uses u) (OfBuffer b) = not (same_buffer u b)
allowed (Uses u) Other = false
allowed Exclusive Status = true
allowed Exclusive Id = false
allowed Exclusive Wake = false
allowed Exclusive (OfBuffer b) = false
allowed Exclusive Other = false

-- (5.7) the command is AB
abbrev pub is_wake : Class → Bool
is_wake Status = false
is_wake Id = false
is_wake Wake = true
is_wake (OfBuffer b) = false
is_wake Other = false

-- (5.7) a deep chip obeys AB alone
-- (5.8) that too must be let through by what is under way, and none does
unfoldable pub obeyed : Registers → Effect → Bool
obeyed r e = cond r.deep (is_wake (class_of e)) true && allowed (usage_of r.operation) (class_of e)
