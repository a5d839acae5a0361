-- The chip and its array in two halves: the registers, and the memory, which is the lent array, the two buffers and the compare bit.
-- Assumes nothing.
use Rattle.std.specs.Prelude.{ℕ, Bool, List}
use Rattle.geometry.specs.Parts.{page_room}
use Rattle.commands.specs.declared.Buffer.{Buffer}
use Rattle.commands.specs.declared.Buffer.TheVariants.{One, Two}
use Rattle.registers.specs.declared.Registers.{Registers}
use Rattle.state.specs.declared.Chip.{Chip}

-- (2.2) the bytes of a buffer in the record: as many as the largest page has
abbrev pub buffer_size : ℕ
buffer_size = page_room

-- (2.1) what is no register
pub record Memory : Type 0 where
  pub array : List ℕ
  pub buffer1 : List ℕ
  pub buffer2 : List ℕ
  pub compare : Bool

-- (2.1) the two halves
pub record State : Type 0 where
  pub registers : Registers
  pub memory : Memory

-- ---- Aid: a chip record and its array, taken apart and put together

abbrev pub memory_of : Chip → List ℕ → Memory
memory_of c xs = record { array = xs; buffer1 = c.buffer1; buffer2 = c.buffer2; compare = c.compare }

abbrev pub state_of : Chip → List ℕ → State
state_of c xs = record { registers = c.registers; memory = memory_of c xs }

abbrev pub chip_of : Registers → Memory → Chip
chip_of r m = record { registers = r; buffer1 = m.buffer1; buffer2 = m.buffer2; compare = m.compare }

abbrev pub chip_in : State → Chip
chip_in s = chip_of s.registers s.memory

-- the chip with other registers
abbrev pub with_registers : Chip → Registers → Chip
with_registers c r = record { registers = r; buffer1 = c.buffer1; buffer2 = c.buffer2; compare = c.compare }

-- ---- Aid: the memory with one of its parts changed

abbrev pub with_array : Memory → List ℕ → Memory
with_array m xs = record { array = xs; buffer1 = m.buffer1; buffer2 = m.buffer2; compare = m.compare }

abbrev pub with_compare : Memory → Bool → Memory
with_compare m bit = record { array = m.array; buffer1 = m.buffer1; buffer2 = m.buffer2; compare = bit }

-- the first for buffer 1, the second for buffer 2
abbrev pub either : Buffer → List ℕ → List ℕ → List ℕ
either One l k = l
either Two l k = k

-- a buffer's bytes
abbrev pub buffer_in : Buffer → Memory → List ℕ
buffer_in b m = either b m.buffer1 m.buffer2

abbrev pub put_buffer : Buffer → List ℕ → Memory → Memory
put_buffer b l m = record { array = m.array; buffer1 = either b l m.buffer1; buffer2 = either b m.buffer2 l; compare = m.compare }
