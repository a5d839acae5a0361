-- Aid: the two buffers as one list, as the code lends them; no rule of the chip.
-- Assumes nothing.
use Rattle.std.specs.Prelude.{ℕ, Bool, List, take, drop}
use Rattle.slices.specs.Lists.{splice}
use Rattle.geometry.specs.declared.Geometry.{Geometry}
use Rattle.commands.specs.declared.Buffer.{Buffer}
use Rattle.commands.specs.declared.Buffer.TheVariants.{One, Two}
use Rattle.control.specs.declared.Action.{Action}
use Rattle.state.specs.Memory.{Memory, buffer_size}
use Rattle.state.specs.Frames.{buffer_written, written}

-- where a buffer begins
abbrev pub buffer_start : Buffer → ℕ
buffer_start One = 0
buffer_start Two = buffer_size

abbrev pub lent : Buffer → List ℕ → List ℕ
lent b bs = take buffer_size (drop (buffer_start b) bs)

-- array, buffers and compare bit, put together
abbrev pub memory_in : List ℕ → List ℕ → Bool → Memory
memory_in xs bs bit = record { array = xs; buffer1 = lent One bs; buffer2 = lent Two bs; compare = bit }

-- what an action makes of them
unfoldable pub acted_on : Geometry → Action → List ℕ → List ℕ → List ℕ
acted_on g a bytes bs = splice (buffer_start (buffer_written a)) (written g a bytes (lent (buffer_written a) bs)) bs
