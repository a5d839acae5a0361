-- Aid: a call under way as the code holds it, and what its parts promise: each turn of the loop is one step of the run that defines the call, and the
-- loop is the whole run. The state is the one that block and array hold.
-- Assumes nothing.
use Rattle.std.specs.Prelude.{ℕ, ◌+◌, ◌*◌, ◌/◌, ◌≤◌, ◌<◌, ◌≡◌, true, false, cond, List, length, take, drop, eqb, Some}
use Rattle.geometry.specs.declared.Geometry.{Geometry}
use Rattle.state.specs.declared.Answer.{Answer}
use Rattle.state.specs.declared.Answer.TheVariants as Answers
use Rattle.state.specs.Answers.{number_of}
use Rattle.state.specs.Memory.{State}
use Rattle.state.specs.Outcomes.{part_in, cut_state}
use Rattle.slots.specs.declared.Driver.{Driver}
use Rattle.slots.specs.declared.Verdict.TheVariants.{Good}
use Rattle.slots.specs.Plans.{stated}
use Rattle.slots.specs.Driver.{is_ended, told_by}
use Rattle.slots.specs.Refusals.{has_cut}
use Rattle.slots.specs.Calls.{Request, Secret, Open, Closed, scripted, step_open, step_closed, run, first_course, refusal_of, answer_in, call_out, call_next}
use Rattle.slots.specs.Lists.{request}
use Rattle.worlds.specs.Turns.{asked_of, holding_of, Sound}
use Rattle.worlds.specs.Step.{flawless}
use Rattle.blocks.specs.Promises.{held_in}
use Rattle.runs.specs.declared.Done.{Done}
use Rattle.runs.specs.declared.Session.{Session}
use Rattle.runs.specs.Promises.{Leaves}

-- ---- the state of the definition's run: the lines are what the log has so far

abbrev pub open_of : State → Session → List ℕ → Open
open_of t s log =
    record { registers = t.registers; course = s.driver.course; lines = take (6 * s.frames) log; frames = s.frames; polls = s.polls; cut = s.cut }

abbrev pub closed_of : State → Session → List ℕ → List ℕ → Closed
closed_of t s payload staged = record { memory = t.memory; holding = holding_of s.driver payload staged }

-- what a run goes by: the call, slot, B and the script
abbrev pub request_of : Session → List ℕ → Request
request_of s script = record { asked = asked_of s.driver; script = script; log = 0; junk = 0; flaws = flawless }

abbrev pub bound_by : Session → ℕ
bound_by s = stated s.driver.kind s.driver.limit

-- ---- one turn

pub record Going (g : Geometry) (t : State) (s : Session) (log : List ℕ) : Type 0 where
  pub part : part_in t ≡ Some g
  pub sound : Sound g s.driver
  pub going : is_ended s.driver.course.stage ≡ false
  pub room : 6 * s.frames + 6 ≤ length log
  pub frames : s.frames ≤ 20000
  pub polls : s.polls ≤ 20000

pub record Turned (g : Geometry) (t : State) (s : Session) (payload staged script log : List ℕ) (u : State) (r : Session) (bytes lines : List ℕ) : Type 0 where
  pub shown : step_open g (request_of s script) (open_of t s log) (closed_of t s payload staged) ≡ open_of u r lines
  pub kept : step_closed g (request_of s script) (open_of t s log) (closed_of t s payload staged) ≡ closed_of u r payload bytes
  pub asks : request_of r script ≡ request_of s script
  pub array : r.driver.array ≡ s.driver.array
  pub frames : r.frames ≡ s.frames + 1
  pub polls : r.polls ≤ s.polls + 1
  pub cut : r.cut ≡ eqb (scripted script s.frames) 2
  pub rest : drop (6 * r.frames) lines ≡ drop (6 * r.frames) log
  pub room : length lines ≡ length log
  pub part : part_in u ≡ Some g
  pub long : length u.memory.array ≡ length t.memory.array

-- ---- the loop

pub record Starts (g : Geometry) (t : State) (s : Session) (log : List ℕ) : Type 0 where
  pub part : part_in t ≡ Some g
  pub array : s.driver.array ≡ length t.memory.array
  pub slot : s.driver.slot < g.pages / 8
  pub least : 1 ≤ s.driver.limit
  pub most : s.driver.limit ≤ 1000
  pub course : s.driver.course ≡ first_course Answers.Done s.driver.limit
  pub frames : s.frames ≡ 0
  pub polls : s.polls ≡ 0
  pub cut : s.cut ≡ false
  pub room : 6 * bound_by s ≤ length log

pub record Driven (g : Geometry) (t : State) (s : Session) (payload staged script log : List ℕ) (u : State) (r : Session) (bytes lines : List ℕ) : Type 0 where
  pub whole : run (bound_by s) g (request_of s script) (open_of t s log) (closed_of t s payload staged) ≡ (open_of u r lines, closed_of u r payload bytes)
  pub rest : drop (6 * r.frames) lines ≡ drop (6 * r.frames) log
  pub room : 6 * r.frames ≤ length lines
  pub same : length lines ≡ length log
  pub part : part_in u ≡ Some g
  pub long : length u.memory.array ≡ length t.memory.array
  pub cuts : r.cut ≡ true → has_cut script ≡ true

-- ---- before it

-- what is asked of a driver at its start, where neither 5 nor 14 is met
abbrev pub asked_in : Driver → (script junk log : List ℕ) → Request
asked_in d script junk log = request (asked_of d) script (length log) (length junk) flawless

-- and the rest that its call is given
abbrev pub secret_in : Driver → (payload junk buffer : List ℕ) → Secret
secret_in d payload junk buffer = record { payload = payload; aim = d.aim; junk = junk; lent = buffer }

-- nothing of 3 to 7 and 14 is met, and the driver is at its start
pub record Started (g : Geometry) (d : Driver) (xs script junk log : List ℕ) : Type 0 where
  pub array : d.array ≡ length xs
  pub verdict : d.verdict ≡ Good
  pub course : d.course ≡ first_course Answers.Done d.limit
  pub accepted : number_of (refusal_of g (length xs) (asked_in d script junk log)) ≡ 0

-- what its call leaves: that of the call's definition
abbrev pub RunBy : Geometry → Driver → (payload buffer script junk log held xs : List ℕ) → Done → (kept ys l b : List ℕ) → Type 0
RunBy g d payload buffer script junk log held xs r kept ys l b =
    Leaves (call_out g (asked_in d script junk log) (secret_in d payload junk buffer) (held_in held xs))
    (call_next g (asked_in d script junk log) (secret_in d payload junk buffer) (held_in held xs)) held log r kept ys l b

-- ---- after it: the cut, if there is one, as the last act

unfoldable pub last_of : Geometry → Session → List ℕ → State → State
last_of g s junk t = cond s.cut (cut_state g junk t) t

-- the answer, by the stage and the verdict
abbrev pub answer_of : Session → Answer
answer_of s = answer_in (told_by s.driver.course.stage s.driver.verdict)
