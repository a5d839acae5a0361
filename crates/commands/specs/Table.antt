-- The command table, row by row: the opcode or the four bytes that open a frame, the lead, the effect.
-- Assumes nothing.
use Rattle.std.specs.Prelude.{ℕ, List, [], ◌∷◌, get_or}
use Rattle.commands.specs.declared.Buffer.TheVariants.{One, Two}
use Rattle.commands.specs.declared.Command.{Command}
use Rattle.commands.specs.declared.Effect.{Effect}
use Rattle.commands.specs.declared.Effect.TheVariants.{ReadPage, ReadArray, ReadBuffer, WriteBuffer, Program, ProgramOver, ProgramThrough, ErasePage, EraseBlock, EraseSector, EraseChip, Transfer, Compare, Rewrite, ProtectOn, ProtectOff, EraseProtection, ProgramProtection, LockSector, ProgramSecurity, ReadProtection, ReadLockdown, ReadSecurity, ReadStatus, ReadId, PowerDown, Resume, Unlisted}

-- (4.1) a row whose opening is one byte
abbrev pub row : ℕ → ℕ → Effect → Command
row opcode lead effect = (opcode, lead, effect)

-- (4.2) the rows that open with one byte
unfoldable pub commands : List Command
commands =
    row 0xD2 8 ReadPage ∷
    row 0x03 4 ReadArray ∷
    row 0x0B 5 ReadArray ∷
    row 0xD1 4 (ReadBuffer One) ∷
    row 0xD3 4 (ReadBuffer Two) ∷
    row 0xD4 5 (ReadBuffer One) ∷
    row 0xD6 5 (ReadBuffer Two) ∷
    row 0x84 4 (WriteBuffer One) ∷
    row 0x87 4 (WriteBuffer Two) ∷
    row 0x83 4 (Program One) ∷
    row 0x86 4 (Program Two) ∷
    row 0x88 4 (ProgramOver One) ∷
    row 0x89 4 (ProgramOver Two) ∷
    row 0x82 4 (ProgramThrough One) ∷
    row 0x85 4 (ProgramThrough Two) ∷
    row 0x81 4 ErasePage ∷
    row 0x50 4 EraseBlock ∷
    row 0x7C 4 EraseSector ∷
    row 0x53 4 (Transfer One) ∷
    row 0x55 4 (Transfer Two) ∷
    row 0x60 4 (Compare One) ∷
    row 0x61 4 (Compare Two) ∷
    row 0x58 4 (Rewrite One) ∷
    row 0x59 4 (Rewrite Two) ∷
    row 0x32 4 ReadProtection ∷
    row 0x35 4 ReadLockdown ∷
    row 0x77 4 ReadSecurity ∷
    row 0xD7 1 ReadStatus ∷
    row 0x9F 1 ReadId ∷
    row 0xB9 1 PowerDown ∷
    row 0xAB 1 Resume ∷
    []

-- (4.1) a row whose opening is four bytes
pub record Sequence : Type 0 where
  pub opening : List ℕ
  pub lead : ℕ
  pub effect : Effect

-- (4.3) the rows that open with four bytes
unfoldable pub sequences : List Sequence
sequences =
    record { opening = 0xC7 ∷ 0x94 ∷ 0x80 ∷ 0x9A ∷ []; lead = 4; effect = EraseChip } ∷
    record { opening = 0x3D ∷ 0x2A ∷ 0x7F ∷ 0xA9 ∷ []; lead = 4; effect = ProtectOn } ∷
    record { opening = 0x3D ∷ 0x2A ∷ 0x7F ∷ 0x9A ∷ []; lead = 4; effect = ProtectOff } ∷
    record { opening = 0x3D ∷ 0x2A ∷ 0x7F ∷ 0xCF ∷ []; lead = 4; effect = EraseProtection } ∷
    record { opening = 0x3D ∷ 0x2A ∷ 0x7F ∷ 0xFC ∷ []; lead = 4; effect = ProgramProtection } ∷
    record { opening = 0x3D ∷ 0x2A ∷ 0x7F ∷ 0x30 ∷ []; lead = 7; effect = LockSector } ∷
    record { opening = 0x9B ∷ 0x00 ∷ 0x00 ∷ 0x00 ∷ []; lead = 4; effect = ProgramSecurity } ∷
    []

-- ---- Aid: a row by its place, as the code reads it

unfoldable pub row_at : ℕ → Command
row_at i = get_or commands i (row 0 0 ReadPage)

unfoldable pub sequence_at : ℕ → Sequence
sequence_at k = get_or sequences k (record { opening = []; lead = 0; effect = Unlisted })
