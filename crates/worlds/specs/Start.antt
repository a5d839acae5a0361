-- How a call starts: with the refusals 1, 3, 4, 5 and 14. 6 and 7 concern the log and the script, which the driver has none of.
-- Assumes nothing.
use Rattle.geometry.specs.declared.Geometry.{Geometry}
use Rattle.std.specs.Prelude.{ℕ, None, Option, Some}
use Rattle.geometry.specs.Parts.{part_of}
use Rattle.state.specs.declared.Answer.{Answer}
use Rattle.state.specs.declared.Answer.TheVariants as Answers
use Rattle.slots.specs.declared.Detail.{Detail}
use Rattle.slots.specs.declared.Driver.{Driver}
use Rattle.slots.specs.declared.Verdict.TheVariants.{Good}
use Rattle.slots.specs.Plans.{Asked}
use Rattle.slots.specs.Details.{aim_of}
use Rattle.slots.specs.Refusals.{flaws_in, early_refusal}
use Rattle.slots.specs.Calls.{first_course}

-- (10.23) what is asked, what the call is told, and the lengths of recipe or patch and of the get buffer; Done where none applies
unfoldable pub start_refusal : Option Geometry → Asked → Detail → (payload lent : ℕ) → Answer
start_refusal (Some g) a d payload lent = early_refusal g a (flaws_in a.kind g d payload lent)
start_refusal None a d payload lent = Answers.Part

-- (10.23) the first state, for a chip whose array has `array` bytes. A refused call has already ended
unfoldable pub start_driver : ℕ → Asked → Detail → (payload lent : ℕ) → Driver
start_driver array a d payload lent =
    record {
      array = array;
      slot = a.slot;
      limit = a.limit;
      aim = aim_of d;
      kind = a.kind;
      verdict = Good;
      course = first_course (start_refusal (part_of array) a d payload lent) a.limit;
    }
