-- Aid: a chip whose registers and buffers have their lengths, as every chip record has by its type. No rule of the chip: the entry points keep it.
-- Assumes nothing.
use Rattle.std.specs.Prelude.{◌≡◌, length}
use Rattle.control.specs.Starts.{Lengths}
use Rattle.state.specs.declared.Chip.{Chip}
use Rattle.state.specs.Memory.{buffer_size}

-- (14.8) the lengths that a chip's registers and buffers have
pub record Whole (c : Chip) : Type 0 where
  pub registers : Lengths c.registers
  pub buffer1 : length c.buffer1 ≡ buffer_size
  pub buffer2 : length c.buffer2 ≡ buffer_size
