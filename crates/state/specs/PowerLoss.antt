-- A cut, as far as it concerns the memory.
-- Assumes nothing.
use Rattle.std.specs.Prelude.{ℕ, false, List}
use Rattle.geometry.specs.declared.Geometry.{Geometry}
use Rattle.registers.specs.declared.Operation.{Operation}
use Rattle.memory.specs.Pages.{junked, junk_buffer}
use Rattle.state.specs.Memory.{Memory}
use Rattle.state.specs.Completion.{in_target}

-- (8.5) the array after a cut: what the operation writes is junk, all else as it was
unfoldable pub array_lost : Geometry → Operation → List ℕ → List ℕ → List ℕ
array_lost g o junk xs = in_target (junked g junk) g o xs

-- (8.4) the buffers are junk, idle or not
-- (8.10) the compare bit is cleared
unfoldable pub lost_memory : Geometry → Operation → List ℕ → Memory → Memory
lost_memory g o junk m =
    record {
      array = array_lost g o junk m.array;
      buffer1 = junk_buffer g junk 0 m.buffer1;
      buffer2 = junk_buffer g junk g.size m.buffer2;
      compare = false;
    }
