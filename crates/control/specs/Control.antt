-- What a frame does to the registers, and what it asks of the memory: decided by part, registers and frame alone.
-- Nothing here names a buffer's bytes, the array or the compare bit.
-- Assumes nothing.
use Rattle.std.specs.Prelude.{ℕ, ◌+◌, ◌/◌, true, false, cond, List, drop}
use Rattle.geometry.specs.declared.Geometry.{Geometry}
use Rattle.geometry.specs.Parts.{address_at, page_at, byte_at, page_start}
use Rattle.geometry.specs.Sectors.{sector_of}
use Rattle.commands.specs.declared.Buffer.{Buffer}
use Rattle.commands.specs.declared.Decoded.{Decoded}
use Rattle.commands.specs.declared.Effect.{Effect}
use Rattle.commands.specs.declared.Effect.TheVariants as E
use Rattle.commands.specs.Decode.{decode_of}
use Rattle.control.specs.declared.Action.{Action}
use Rattle.control.specs.declared.Action.TheVariants as A
use Rattle.control.specs.declared.Decision.{Decision}
use Rattle.registers.specs.declared.Data16.{Data16}
use Rattle.registers.specs.declared.Data64.{Data64}
use Rattle.registers.specs.declared.Operation.{Operation}
use Rattle.registers.specs.declared.Operation.TheVariants as O
use Rattle.registers.specs.declared.Registers.{Registers}
use Rattle.registers.specs.Data.{padded, pack16, pack64}
use Rattle.registers.specs.Fields.{with_operation, with_protect, with_deep}
use Rattle.control.specs.Obeyed.{obeyed}
use Rattle.registers.specs.Protection.{sealed, unsealed_set}

-- Aid: the frame leaves these registers and asks this of the memory; its data begin after the lead
abbrev pub decided : Registers → Action → ℕ → Decision
decided r a lead = record { registers = r; action = a; lead = lead }

-- (5.1) the registers stay, and nothing is asked of the memory
abbrev pub ignored : Registers → Decision
ignored r = decided r A.Silent 0

-- (6.4) the operation is under way from the frame's end on
abbrev pub started : Registers → Operation → Decision
started r o = decided (with_operation r o) A.Silent 0

-- (5.9) ignored on a page of a sealed sector
unfoldable pub started_on : Geometry → Registers → ℕ → Operation → Decision
started_on g r page o = cond (sealed g r (sector_of g page)) (ignored r) (started r o)

-- (5.10) 82/85 do nothing on a page of a sealed sector, and write no buffer
-- (6.5) else they write the buffer at once, and start what 83/86 start
unfoldable pub programmed_through : Geometry → Registers → Buffer → ℕ → ℕ → ℕ → Decision
programmed_through g r b page start lead =
    cond (sealed g r (sector_of g page)) (ignored r) (decided (with_operation r (O.Program b page)) (A.WriteBuffer b start) lead)

-- (5.11) 9A does nothing with WP low
-- (6.3) else it clears the protect mark at once
unfoldable pub protect_off : Registers → Decision
protect_off r = cond r.wp (decided (with_protect r false) A.Silent 0) (ignored r)

-- (5.12) CF does nothing with WP low
unfoldable pub protection_erased : Registers → Decision
protection_erased r = cond r.wp (started r O.EraseProtection) (ignored r)

-- (6.9) an FC's data
unfoldable pub protection_data : Geometry → List ℕ → Data16
protection_data g f = pack16 (padded g.register (drop 4 f))

-- (5.13) FC does nothing with WP low, to buffer 1 neither
unfoldable pub protection_programmed : Geometry → Registers → List ℕ → Decision
protection_programmed g r f =
    cond r.wp (decided (with_operation r (O.ProgramProtection (protection_data g f))) (A.LoadProtection (protection_data g f)) 0) (ignored r)

-- (6.8) 30 has its address in bytes 4 to 6
unfoldable pub sector_locked : Geometry → Registers → List ℕ → Decision
sector_locked g r f = started r (O.LockSector (sector_of g (page_at g (address_at f 4))))

-- (6.9) a 9B's data
unfoldable pub security_data : List ℕ → Data64
security_data f = pack64 (padded 64 (drop 4 f))

-- (5.14) 9B does nothing with the used mark set, to buffer 1 neither
unfoldable pub security_programmed : Registers → List ℕ → Decision
security_programmed r f =
    cond r.used (ignored r) (decided (with_operation r (O.ProgramSecurity (security_data f))) (A.LoadSecurity (security_data f)) 0)

-- (5.15) a row of the command table, by the page and the byte of the frame's address; most test neither seals nor WP nor used
-- (5.16) nor does a Chip Erase, whatever is sealed
-- (6.3) A9, B9 and AB change their mark at once
-- (6.6) 50 takes the block of the page, 7C its sector
unfoldable pub row_decided : Geometry → Registers → List ℕ → ℕ → ℕ → ℕ → Effect → Decision
row_decided g r f page start lead E.ReadPage = decided r (A.ReadPage page start) lead
row_decided g r f page start lead E.ReadArray = decided r (A.ReadArray (page_start g page + start)) lead
row_decided g r f page start lead (E.ReadBuffer b) = decided r (A.ReadBuffer b start) lead
row_decided g r f page start lead (E.WriteBuffer b) = decided r (A.WriteBuffer b start) lead
row_decided g r f page start lead (E.Program b) = started_on g r page (O.Program b page)
row_decided g r f page start lead (E.ProgramOver b) = started_on g r page (O.ProgramOver b page)
row_decided g r f page start lead (E.ProgramThrough b) = programmed_through g r b page start lead
row_decided g r f page start lead E.ErasePage = started_on g r page (O.ErasePage page)
row_decided g r f page start lead E.EraseBlock = started_on g r page (O.EraseBlock (page / 8))
row_decided g r f page start lead E.EraseSector = started_on g r page (O.EraseSector (sector_of g page))
row_decided g r f page start lead E.EraseChip = started r (O.EraseChip (unsealed_set g r))
row_decided g r f page start lead (E.Transfer b) = started r (O.Transfer b page)
row_decided g r f page start lead (E.Compare b) = started r (O.Compare b page)
row_decided g r f page start lead (E.Rewrite b) = started_on g r page (O.Rewrite b page)
row_decided g r f page start lead E.ProtectOn = decided (with_protect r true) A.Silent 0
row_decided g r f page start lead E.ProtectOff = protect_off r
row_decided g r f page start lead E.EraseProtection = protection_erased r
row_decided g r f page start lead E.ProgramProtection = protection_programmed g r f
row_decided g r f page start lead E.LockSector = sector_locked g r f
row_decided g r f page start lead E.ProgramSecurity = security_programmed r f
row_decided g r f page start lead E.ReadProtection = decided r A.ReadProtection lead
row_decided g r f page start lead E.ReadLockdown = decided r A.ReadLockdown lead
row_decided g r f page start lead E.ReadSecurity = decided r A.ReadSecurity lead
row_decided g r f page start lead E.ReadStatus = decided r A.ReadStatus lead
row_decided g r f page start lead E.ReadId = decided r A.ReadId lead
row_decided g r f page start lead E.PowerDown = decided (with_deep r true) A.Silent 0
row_decided g r f page start lead E.Resume = decided (with_deep r false) A.Silent 0
row_decided g r f page start lead E.Unlisted = ignored r

-- (3.10) the address is in bytes 1 to 3
abbrev pub row_of : Geometry → Registers → List ℕ → ℕ → Effect → Decision
row_of g r f lead e = row_decided g r f (page_at g (address_at f 1)) (byte_at g (address_at f 1)) lead e

-- (6.1) a frame with its row, obeyed or ignored
unfoldable pub decoded_control : Geometry → Registers → List ℕ → Decoded → Decision
decoded_control g r f d = cond (obeyed r d.effect) (row_of g r f d.lead d.effect) (ignored r)

-- (6.1) what a frame does to the registers, and what it asks of the memory
unfoldable pub control : Geometry → Registers → List ℕ → Decision
control g r f = decoded_control g r f (decode_of f)
