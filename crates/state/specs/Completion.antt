-- The busy end of the operation under way, as far as it concerns the memory.
-- Assumes nothing.
use Rattle.std.specs.Prelude.{ℕ, List}
use Rattle.geometry.specs.declared.Geometry.{Geometry}
use Rattle.geometry.specs.declared.Run.{Run}
use Rattle.registers.specs.declared.Operation.{Operation}
use Rattle.registers.specs.declared.Work.{Work}
use Rattle.registers.specs.declared.Work.TheVariants.{Rest, Program, ProgramOver, Transfer, Compare, Erase}
use Rattle.registers.specs.Facts.{facts_of}
use Rattle.registers.specs.Operations.{page_named, run_of, sectors_of, buffer_used}
use Rattle.memory.specs.Pages.{programmed, programmed_over, transferred, differing, erased, in_sectors}
use Rattle.state.specs.Memory.{Memory, buffer_in, put_buffer, with_array, with_compare}

-- (7.9) f done to what the operation writes: to its run of pages, and to each sector of its set
unfoldable pub in_target : (Run → List ℕ → List ℕ) → Geometry → Operation → List ℕ → List ℕ
in_target f g o xs = in_sectors f g (sectors_of o) (f (run_of g o) xs)

-- Aid: the page that the operation names
abbrev pub page_in : Operation → ℕ
page_in o = page_named (facts_of o).names

-- Aid: the bytes of the buffer that it uses
abbrev pub bytes_used : Operation → Memory → List ℕ
bytes_used o m = buffer_in (buffer_used o) m

-- (7.1) what each kind of work makes of the memory
abbrev pub worked : Geometry → Operation → Memory → Work → Memory
worked g o m Rest = m
worked g o m Program = with_array m (programmed g (page_in o) (bytes_used o m) m.array)
worked g o m ProgramOver = with_array m (programmed_over g (page_in o) (bytes_used o m) m.array)
worked g o m Transfer = put_buffer (buffer_used o) (transferred g (page_in o) m.array (bytes_used o m)) m
worked g o m Compare = with_compare m (differing g (page_in o) m.array (bytes_used o m))
worked g o m Erase = with_array m (in_target (erased g) g o m.array)

-- (7.1) the memory after a busy end
unfoldable pub completed_memory : Geometry → Operation → Memory → Memory
completed_memory g o m = worked g o m (facts_of o).work
