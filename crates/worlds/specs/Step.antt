-- The slot driver apart from any chip, for any state at all. A state that no call comes to, made up or damaged, counts as ended; every other goes by the
-- plan of its call (crate slots).
-- Assumes nothing.
use Rattle.std.specs.Prelude.{ℕ, Bool, false, cond, not, ◌&&◌, List, [], eqb, leb, None, Option, Some}
use Rattle.geometry.specs.declared.Geometry.{Geometry}
use Rattle.geometry.specs.Parts.{part_of}
use Rattle.state.specs.declared.Answer.{Answer}
use Rattle.state.specs.declared.Answer.TheVariants as Answers
use Rattle.state.specs.Answers.{number_of}
use Rattle.slots.specs.declared.Course.{Course}
use Rattle.slots.specs.declared.Driver.{Driver}
use Rattle.slots.specs.declared.Flaws.{Flaws}
use Rattle.slots.specs.declared.Kind.{Kind}
use Rattle.slots.specs.Records.{is_record}
use Rattle.slots.specs.Plans.{is_end, is_wait}
use Rattle.slots.specs.Refusals.{early_refusal, or_else}
use Rattle.slots.specs.Driver.{frame_of, ended, is_ended, told_by}
use Rattle.slots.specs.Calls.{count_of}
use Rattle.worlds.specs.Turns.{asked_of, holding_of, with, step_in, data_after, course_after}

-- ---- states that no call comes to

-- (10.25) 4: the polls left are not 1 to B; 3: the plan has no step at the place
unfoldable pub stray_refusal : Geometry → Driver → Answer
stray_refusal g d =
    cond (not (leb 1 d.course.left && leb d.course.left d.limit)) Answers.Limit
    (cond (is_end (step_in g d)) Answers.Slot Answers.Done)

-- Aid: neither 5 nor 14 is met
abbrev pub flawless : Flaws
flawless = record { size = false; dates = false }

-- (10.25) 1, or 3 and 4 as at the start, or those; Done where none applies
unfoldable pub fault_by : Option Geometry → Driver → Answer
fault_by (Some g) d = or_else (early_refusal g (asked_of d) flawless) (stray_refusal g d)
fault_by None d = Answers.Part

-- (10.25) the stage as it counts
unfoldable pub stage_by : Option Geometry → Driver → Option Answer
stage_by p d =
    cond (is_ended d.course.stage) d.course.stage (cond (eqb (number_of (fault_by p d)) 0) None (Some (fault_by p d)))

-- (10.25) the part looked up
unfoldable pub stage_in : Driver → Option Answer
stage_in d = stage_by (part_of d.array) d

-- ---- the next frame; none at the end

-- (10.24) the frame that is to be sent
unfoldable pub frame_by : Option Geometry → Driver → List ℕ → List ℕ → List ℕ
frame_by (Some g) d payload staged =
    cond (is_ended (stage_by (Some g) d)) [] (frame_of g d.kind (holding_of d payload staged) (step_in g d))
frame_by None d payload staged = []

-- (10.24) the part looked up
unfoldable pub frame_in : Driver → List ℕ → List ℕ → List ℕ
frame_in d payload staged = frame_by (part_of d.array) d payload staged

-- Aid: whether it is a poll
unfoldable pub poll_by : Option Geometry → Driver → Bool
poll_by (Some g) d = not (is_ended (stage_by (Some g) d)) && is_wait (step_in g d)
poll_by None d = false

-- Aid: the part looked up
unfoldable pub poll_in : Driver → Bool
poll_in d = poll_by (part_of d.array) d

-- ---- a reply taken in; after the end nothing is

-- Aid: the course with this stage
abbrev pub staged_at : Option Answer → Course → Course
staged_at s c = record { place = c.place; left = c.left; stage = s; listed = c.listed; guarded = c.guarded }

-- (10.24) the state after a reply
unfoldable pub took_by : Option Geometry → Driver → (payload staged reply : List ℕ) → Driver
took_by (Some g) d payload staged reply =
    cond (is_ended (stage_by (Some g) d)) (with d d.verdict (staged_at (stage_by (Some g) d) d.course))
    (with d (data_after g d payload staged reply).verdict (course_after g d reply))
took_by None d payload staged reply = with d d.verdict (staged_at (stage_by None d) d.course)

-- (10.24) the part looked up
unfoldable pub took_in : Driver → (payload staged reply : List ℕ) → Driver
took_in d payload staged reply = took_by (part_of d.array) d payload staged reply

-- (10.24) the bytes read so far
unfoldable pub staged_by : Option Geometry → Driver → (payload staged reply : List ℕ) → List ℕ
staged_by (Some g) d payload staged reply = cond (is_ended (stage_by (Some g) d)) staged (data_after g d payload staged reply).staged
staged_by None d payload staged reply = staged

-- (10.24) the part looked up
unfoldable pub staged_in : Driver → (payload staged reply : List ℕ) → List ℕ
staged_in d payload staged reply = staged_by (part_of d.array) d payload staged reply

-- (10.24) the frame after a reply
unfoldable pub next_in : Driver → (payload staged reply : List ℕ) → List ℕ
next_in d payload staged reply = frame_in (took_in d payload staged reply) payload (staged_in d payload staged reply)

-- ---- the end

-- (10.26) something outside the driver ends the call
abbrev pub halted : Driver → Answer → Driver
halted d a = with d d.verdict (ended a d.course)

-- (10.22) what the driver tells
unfoldable pub told_in : Driver → Option Answer
told_in d = told_by (stage_in d) d.verdict

-- (10.27) n: of a get that has ended with 0 the length in the record that it read, else 0
unfoldable pub count_told : Option Answer → Kind → List ℕ → ℕ
count_told None k staged = 0
count_told (Some a) k staged = count_of k a staged

-- (10.27) bytes that are no record have none
unfoldable pub count_by : Option Geometry → Driver → List ℕ → ℕ
count_by (Some g) d staged = cond (is_record g staged) (count_told (told_in d) d.kind staged) 0
count_by None d staged = 0

-- (10.27) the part looked up
unfoldable pub count_in : Driver → List ℕ → ℕ
count_in d staged = count_by (part_of d.array) d staged
