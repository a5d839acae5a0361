-- What demand 2 says of a recipe that a put stored: it comes back from every later get, until a frame programs or erases in its slot. Said of any run
-- of pages: those from page `first` up to page `end`.
-- Assumes nothing.
use Rattle.std.specs.Prelude.{ℕ, zero, suc, ◌+◌, ◌*◌, ◌%◌, ◌≤◌, ◌<◌, ◌≡◌, Bool, true, false, cond, List, [], ◌∷◌, ◌⊎◌, length, take, eqb, None, Option, Some}
use Rattle.slices.specs.Lists.{tabulate}
use Rattle.geometry.specs.declared.Geometry.{Geometry}
use Rattle.geometry.specs.Parts.{page_of}
use Rattle.registers.specs.declared.Operation.{Operation}
use Rattle.registers.specs.declared.Operation.TheVariants.{Idle}
use Rattle.registers.specs.declared.Registers.{Registers}
use Rattle.registers.specs.Operations.{placed, writes}
use Rattle.control.specs.Control.{control}
use Rattle.state.specs.declared.Answer.{Answer}
use Rattle.state.specs.declared.Answer.TheVariants as Answers
use Rattle.state.specs.Answers.{number_of}
use Rattle.state.specs.Frames.{is_idle}
use Rattle.state.specs.Memory.{Memory, State}
use Rattle.state.specs.Outcomes.{framed, part_in}
use Rattle.slots.specs.declared.Period.{Period}
use Rattle.slots.specs.declared.Period.TheVariants.{Always, Days}
use Rattle.slots.specs.Plans.{bound}
use Rattle.slots.specs.Driver.{is_ended}
use Rattle.slots.specs.Records.{limit_of, version_of, image, is_within}
use Rattle.slots.specs.Refusals.{raw_refusal}
use Rattle.slots.specs.Calls.{Out, Request, Secret, Open, Closed, sends, step_open, step_closed, start_open, start_closed}
use Rattle.slots.specs.Lists.{Op, call, raw, straight, pin, busy_end, cut, asks, secret, next_of}

-- (14.5) the operation writes none of the pages
abbrev pub Spares : Geometry → ℕ → ℕ → Operation → Type 0
Spares g first end o = (p : ℕ) → first ≤ p → p < end → writes g o p ≡ false

-- (14.5) the part has the pages, page p holds b p, and what is under way writes none of them
pub record Kept (g : Geometry) (first end : ℕ) (b : ℕ → List ℕ) (r : Registers) (m : Memory) : Type 0 where
  pub part : placed (length m.array) r.operation ≡ Some g
  pub fits : end ≤ g.pages
  pub spares : Spares g first end r.operation
  pub bytes : (p : ℕ) → first ≤ p → p < end → page_of g p m.array ≡ b p

-- (14.5) page p where the bytes of its slot are b's: page p is page p mod 8 of the slot
abbrev pub page_in : Geometry → (ℕ → ℕ) → ℕ → List ℕ
page_in g b p = tabulate g.size (λ i. b (g.size * (p % 8) + i))

-- (14.5) the slot's bytes are b's
abbrev pub KeptSlot : Geometry → ℕ → (ℕ → ℕ) → State → Type 0
KeptSlot g slot b s = Kept g (8 * slot) (8 * slot + 8) (page_in g b) s.registers s.memory

-- (14.5) a term whose days fit four bytes
abbrev pub Small : Period → Type 0
Small Always = Unit {0}
Small (Days first last) = (first < 4294967296) × (last < 4294967296)

-- (14.5) the slot holds a recipe with its term
-- (14.9) as it must for a patch
pub record Holds (slot : ℕ) (period : Period) (recipe : List ℕ) (s : State) : Type 0 where
  pub geometry : Geometry
  pub limit : length recipe ≤ limit_of geometry (version_of period)
  pub small : Small period
  pub kept : KeptSlot geometry slot (image period recipe) s

-- ---- what starts nothing there

-- (14.6) the operation that a frame starts, Idle for none: what is under way after it in a chip that was idle before it
unfoldable pub started_by : Geometry → Registers → List ℕ → Operation
started_by g r f = cond (is_idle r.operation) (control g r f).registers.operation Idle

-- (14.6) the next n frames of a call start nothing in the pages
abbrev pub QuietFrames : ℕ → ℕ → ℕ → Geometry → Request → Open → Closed → Type 0
QuietFrames first end zero g v p q = Unit {0}
QuietFrames first end (suc n) g v p q =
    (is_ended p.course.stage ≡ false → Spares g first end (started_by g p.registers (sends g v p q)))
    × QuietFrames first end n g v (step_open g v p q) (step_closed g v p q)

-- (14.6) all frames of a call
abbrev pub QuietCall : ℕ → ℕ → Geometry → Request → Secret → State → Type 0
QuietCall first end g v x s =
    QuietFrames first end (bound g v.asked) g v (start_open g (length s.memory.array) v s.registers) (start_closed x s.memory)

-- (14.6) no obeyed frame of this call, if it is not refused, starts an operation that writes one of the pages; an event sends none
abbrev pub QuietBy : ℕ → ℕ → Option Geometry → Op → State → Type 0
QuietBy first end (Some g) (call a d script payload junk log lent) s =
    QuietCall first end g (asks g a d script payload junk log lent) (secret payload d junk lent) s
QuietBy first end (Some g) (raw frame script junk log reply) s =
    eqb (number_of (raw_refusal g (length s.memory.array) frame (length reply) (length log) script (length junk))) 0 ≡ true
    → Spares g first end (started_by g s.registers frame)
QuietBy first end (Some g) (straight frame reply) s = framed (length frame) (length reply) ≡ true → Spares g first end (started_by g s.registers frame)
QuietBy first end (Some g) (pin high) s = Unit {0}
QuietBy first end (Some g) busy_end s = Unit {0}
QuietBy first end (Some g) (cut junk) s = Unit {0}
QuietBy first end None o s = Unit {0}

-- (14.6) nor does any of a list
abbrev pub Quiet : ℕ → ℕ → List Op → State → Type 0
Quiet first end [] s = Unit {0}
Quiet first end (o ∷ os) s = QuietBy first end (part_in s) o s × Quiet first end os (next_of o s)

-- (14.6) in a slot
abbrev pub QuietIn : ℕ → List Op → State → Type 0
QuietIn slot os s = Quiet (8 * slot) (8 * slot + 8) os s

-- ---- what a get returns

-- (14.7) the get is refused (1 to 9, 14) or cut (11)
pub data Refuses : Answer → Type 0 where
  part : Refuses Answers.Part
  frame : Refuses Answers.Frame
  slot : Refuses Answers.Slot
  limit : Refuses Answers.Limit
  size : Refuses Answers.Size
  log : Refuses Answers.Log
  script : Refuses Answers.Script
  device : Refuses Answers.Device
  busy : Refuses Answers.Busy
  lost : Refuses Answers.Cut
  dates : Refuses Answers.Dates

-- (14.7) on a day outside the term it answers 15, n 0, and inside it 0 with exactly the recipe
abbrev pub Delivers : Bool → List ℕ → (buffer : List ℕ) → Out → Type 0
Delivers true recipe buffer o = (o.answer ≡ Answers.Done) × (o.count ≡ length recipe) × (take o.count o.lent ≡ recipe)
Delivers false recipe buffer o = (o.answer ≡ Answers.Term) × (o.count ≡ 0) × (o.lent ≡ buffer)

-- (14.7) the one, or the other by the day
-- (14.8) which is what demand 2 says of every later get
abbrev pub Returns : Period → ℕ → List ℕ → (buffer : List ℕ) → Out → Type 0
Returns period today recipe buffer o = Refuses o.answer ⊎ Delivers (is_within period today) recipe buffer o
