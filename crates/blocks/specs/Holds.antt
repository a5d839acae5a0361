-- Aid: the chip records that a block can hold: registers and buffers of their lengths, and an operation whose numbers fit their bytes. No rule of the chip:
-- every block holds such a one, and the entry points leave such a one.
-- Assumes nothing.
use Rattle.std.specs.Prelude.{◌^◌, ◌<◌}
use Rattle.registers.specs.declared.Data16.{Data16}
use Rattle.registers.specs.declared.Data64.{Data64}
use Rattle.registers.specs.declared.Named.{Named}
use Rattle.registers.specs.declared.Named.TheVariants.{Nothing, Page, Block, Sector, Sectors}
use Rattle.registers.specs.declared.Operation.{Operation}
use Rattle.registers.specs.declared.Update.{Update}
use Rattle.registers.specs.declared.Update.TheVariants.{Keep, FillProtection, MaskProtection, Lock, WriteUser}
use Rattle.registers.specs.Facts.{facts_of, update_of}
use Rattle.state.specs.declared.Chip.{Chip}
use Rattle.state.specs.Whole.{Whole}

-- two words of an FC's data, eight of a 9B's
pub record Words16 (x : Data16) : Type 0 where
  pub a : x.a < 2 ^ 64
  pub b : x.b < 2 ^ 64

pub record Words64 (x : Data64) : Type 0 where
  pub a : x.a < 2 ^ 64
  pub b : x.b < 2 ^ 64
  pub c : x.c < 2 ^ 64
  pub d : x.d < 2 ^ 64
  pub e : x.e < 2 ^ 64
  pub f : x.f < 2 ^ 64
  pub g : x.g < 2 ^ 64
  pub h : x.h < 2 ^ 64

-- a page, block or sector in two bytes, a set of sectors in four
abbrev pub Numbered : Named → Type 0
Numbered Nothing = Unit
Numbered (Page page) = page < 65536
Numbered (Block block) = block < 65536
Numbered (Sector s) = s < 65536
Numbered (Sectors sectors) = sectors < 2 ^ 32

-- data in words of eight bytes
abbrev pub Worded : Update → Type 0
Worded Keep = Unit
Worded FillProtection = Unit
Worded (MaskProtection d) = Words16 d
Worded (Lock s) = Unit
Worded (WriteUser d) = Words64 d

abbrev pub Fitting : Operation → Type 0
Fitting o = Numbered (facts_of o).names × Worded (update_of o)

pub record Holds (c : Chip) : Type 0 where
  pub whole : Whole c
  pub operation : Fitting c.registers.operation
