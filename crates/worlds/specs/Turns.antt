-- Aid: the driver's state as the definitions of crate slots have it, and one reply taken in.
-- Assumes nothing.
use Rattle.std.specs.Prelude.{ℕ, ◌/◌, ◌<◌, ◌≡◌, false, List, Some}
use Rattle.geometry.specs.declared.Geometry.{Geometry}
use Rattle.geometry.specs.Parts.{part_of}
use Rattle.slots.specs.declared.Course.{Course}
use Rattle.slots.specs.declared.Driver.{Driver}
use Rattle.slots.specs.declared.Step.{Step}
use Rattle.slots.specs.declared.Verdict.{Verdict}
use Rattle.slots.specs.Plans.{Asked, sector_for, is_end}
use Rattle.slots.specs.Driver.{Holding, heard, after, taken_by, step_of}

-- what the call is asked
abbrev pub asked_of : Driver → Asked
asked_of d = record { kind = d.kind; slot = d.slot; limit = d.limit }

-- its data: those in the state, and those lent beside it
abbrev pub holding_of : Driver → List ℕ → List ℕ → Holding
holding_of d payload staged = record { payload = payload; aim = d.aim; staged = staged; verdict = d.verdict }

abbrev pub with : Driver → Verdict → Course → Driver
with d v c =
    record { array = d.array; slot = d.slot; limit = d.limit; aim = d.aim; kind = d.kind; verdict = v; course = c }

-- the step at the state's place
abbrev pub step_in : Geometry → Driver → Step
step_in g d = step_of g (asked_of d) d.course

-- ---- a reply taken in

abbrev pub data_after : Geometry → Driver → (payload staged reply : List ℕ) → Holding
data_after g d payload staged reply = taken_by (step_in g d) g d.kind (holding_of d payload staged) reply

abbrev pub course_after : Geometry → Driver → List ℕ → Course
course_after g d reply = after g (asked_of d) d.course (heard g (step_in g d) (sector_for g (asked_of d)) reply)

abbrev pub took_on : Geometry → Driver → (payload staged reply : List ℕ) → Driver
took_on g d payload staged reply = with d (data_after g d payload staged reply).verdict (course_after g d reply)

-- ---- Aid: what a turn's code goes by: the array's length is the part's, the slot is one of its, and the plan has a step at the place
pub record Sound (g : Geometry) (d : Driver) : Type 0 where
  pub part : part_of d.array ≡ Some g
  pub slot : d.slot < g.pages / 8
  pub step : is_end (step_in g d) ≡ false
