-- Aid: what a work on a page makes of the array, of the buffer that it uses and of the compare bit, one by one as the code lends them; no rule of the
-- chip. An erase is not among them: it is done apart.
-- Assumes nothing.
use Rattle.std.specs.Prelude.{ℕ, Bool, List}
use Rattle.geometry.specs.declared.Geometry.{Geometry}
use Rattle.registers.specs.declared.Work.{Work}
use Rattle.registers.specs.declared.Work.TheVariants.{Rest, Program, ProgramOver, Transfer, Compare, Erase}
use Rattle.memory.specs.Pages.{programmed, programmed_over, transferred, differing}

abbrev pub array_by : Geometry → ℕ → List ℕ → List ℕ → Work → List ℕ
array_by g page buffer xs Rest = xs
array_by g page buffer xs Program = programmed g page buffer xs
array_by g page buffer xs ProgramOver = programmed_over g page buffer xs
array_by g page buffer xs Transfer = xs
array_by g page buffer xs Compare = xs
array_by g page buffer xs Erase = xs

abbrev pub buffer_by : Geometry → ℕ → List ℕ → List ℕ → Work → List ℕ
buffer_by g page xs buffer Rest = buffer
buffer_by g page xs buffer Program = buffer
buffer_by g page xs buffer ProgramOver = buffer
buffer_by g page xs buffer Transfer = transferred g page xs buffer
buffer_by g page xs buffer Compare = buffer
buffer_by g page xs buffer Erase = buffer

abbrev pub bit_by : Geometry → ℕ → List ℕ → List ℕ → Bool → Work → Bool
bit_by g page xs buffer bit Rest = bit
bit_by g page xs buffer bit Program = bit
bit_by g page xs buffer bit ProgramOver = bit
bit_by g page xs buffer bit Transfer = bit
bit_by g page xs buffer bit Compare = differing g page xs buffer
bit_by g page xs buffer bit Erase = bit
