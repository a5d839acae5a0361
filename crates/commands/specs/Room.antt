-- Aid: what the table keeps to, so that the code may read a frame: how far in each effect looks for its address, which effects take data, and what holds
-- of every row; no rule of the chip.
-- Assumes nothing.
use Rattle.std.specs.Prelude.{ℕ, ◌≤◌, ◌≡◌, Bool, true, false, List, [], ◌∷◌}
use Rattle.commands.specs.declared.Command.{Command}
use Rattle.commands.specs.declared.Decoded.{Decoded}
use Rattle.commands.specs.declared.Effect.{Effect}
use Rattle.commands.specs.declared.Effect.TheVariants.{ReadPage, ReadArray, ReadBuffer, WriteBuffer, Program, ProgramOver, ProgramThrough, ErasePage, EraseBlock, EraseSector, EraseChip, Transfer, Compare, Rewrite, ProtectOn, ProtectOff, EraseProtection, ProgramProtection, LockSector, ProgramSecurity, ReadProtection, ReadLockdown, ReadSecurity, ReadStatus, ReadId, PowerDown, Resume, Unlisted}
use Rattle.commands.specs.Table.{Sequence}

-- the bytes of a frame up to its address's last; 0 where the effect reads no address
unfoldable pub room : Effect → ℕ
room ReadPage = 4
room ReadArray = 4
room (ReadBuffer b) = 4
room (WriteBuffer b) = 4
room (Program b) = 4
room (ProgramOver b) = 4
room (ProgramThrough b) = 4
room ErasePage = 4
room EraseBlock = 4
room EraseSector = 4
room EraseChip = 0
room (Transfer b) = 4
room (Compare b) = 4
room (Rewrite b) = 4
room ProtectOn = 0
room ProtectOff = 0
room EraseProtection = 0
room ProgramProtection = 0
room LockSector = 7
room ProgramSecurity = 0
room ReadProtection = 0
room ReadLockdown = 0
room ReadSecurity = 0
room ReadStatus = 0
room ReadId = 0
room PowerDown = 0
room Resume = 0
room Unlisted = 0

-- the effects that take data
unfoldable pub takes : Effect → Bool
takes ReadPage = false
takes ReadArray = false
takes (ReadBuffer b) = false
takes (WriteBuffer b) = true
takes (Program b) = false
takes (ProgramOver b) = false
takes (ProgramThrough b) = true
takes ErasePage = false
takes EraseBlock = false
takes EraseSector = false
takes EraseChip = false
takes (Transfer b) = false
takes (Compare b) = false
takes (Rewrite b) = false
takes ProtectOn = false
takes ProtectOff = false
takes EraseProtection = false
takes ProgramProtection = true
takes LockSector = false
takes ProgramSecurity = true
takes ReadProtection = false
takes ReadLockdown = false
takes ReadSecurity = false
takes ReadStatus = false
takes ReadId = false
takes PowerDown = false
takes Resume = false
takes Unlisted = false

-- the rule of a row: its lead is 1 to 8 bytes and holds the address; data begin at byte 4
pub record Ruled (d : Decoded) : Type 0 where
  pub least : 1 ≤ d.lead
  pub most : d.lead ≤ 8
  pub address : room d.effect ≤ d.lead
  pub start : takes d.effect ≡ true → d.lead ≡ 4

-- a row's lead and effect, without its opening
abbrev pub of_command : Command → Decoded
of_command c = record { lead = c.1; effect = c.2 }

abbrev pub of_sequence : Sequence → Decoded
of_sequence s = record { lead = s.lead; effect = s.effect }

-- what holds of each
abbrev pub Each : {A : Type 0} → (A → Type 0) → List A → Type 0
Each P [] = Unit {0}
Each P (x ∷ xs) = P x × Each P xs
