-- The calls run on the chip, one frame after another, each with its script byte. A run's state has a half that the wire may show (`Open`) and one that it
-- may not (`Closed`).
-- Assumes nothing.
use Rattle.std.specs.Prelude.{ℕ, zero, suc, ◌+◌, ◌/◌, ◌%◌, Bool, false, cond, List, [], ◌∷◌, ◌++◌, length, get_or, take, drop, replicate, eqb, None, Option, Some}
use Rattle.geometry.specs.Parts.{slot_room}
use Rattle.slices.specs.Lists.{over}
use Rattle.geometry.specs.declared.Geometry.{Geometry}
use Rattle.registers.specs.declared.Registers.{Registers}
use Rattle.control.specs.Control.{control}
use Rattle.control.specs.Completion.{completed}
use Rattle.state.specs.declared.Answer.{Answer}
use Rattle.state.specs.declared.Answer.TheVariants as Answers
use Rattle.state.specs.Answers.{number_of}
use Rattle.state.specs.Memory.{Memory, State}
use Rattle.state.specs.Frames.{reply_of, sent_memory}
use Rattle.state.specs.Completion.{completed_memory}
use Rattle.slots.specs.declared.Aim.{Aim}
use Rattle.slots.specs.declared.Course.{Course}
use Rattle.slots.specs.declared.Flaws.{Flaws}
use Rattle.slots.specs.declared.Kind.{Kind}
use Rattle.slots.specs.declared.Kind.TheVariants.{Put, Patch, Get, Wipe}
use Rattle.slots.specs.declared.Verdict.TheVariants.{Good}
use Rattle.state.specs.Outcomes.{sent_state, cut_state}
use Rattle.slots.specs.Plans.{Asked, bound, is_wait, sector_for}
use Rattle.slots.specs.Records.{head_size, version_in, length_in}
use Rattle.slots.specs.Driver.{Heard, Holding, frame_of, heard, ended, after, taken_by, step_of, is_ended, told_by}
use Rattle.slots.specs.Refusals.{call_refusal, raw_refusal}

-- (11.7) what a call hands back: its answer, the log lines that it wrote, frames and polls, of a get n, and the lent get buffer or reply
pub record Out : Type 0 where
  pub answer : Answer
  pub lines : List ℕ
  pub frames : ℕ
  pub polls : ℕ
  pub count : ℕ
  pub lent : List ℕ

-- (12.2) no frame, no line, all counts 0, what was lent as it was
abbrev pub refused : Answer → List ℕ → Out
refused a lent = record { answer = a; lines = []; frames = 0; polls = 0; count = 0; lent = lent }

-- (11.5) a frame's six bytes in the log: its length, high byte first, and its first four bytes, FFh for those that it has not
unfoldable pub outline : List ℕ → List ℕ
outline f = length f / 256 ∷ length f % 256 ∷ get_or f 0 255 ∷ get_or f 1 255 ∷ get_or f 2 255 ∷ get_or f 3 255 ∷ []

-- (11.2) the script's byte for frame i, 0 where there is none
abbrev pub scripted : List ℕ → ℕ → ℕ
scripted script i = get_or script i 0

-- ---- one frame, with its script byte; a cut is left to the call's end

-- (11.3) the registers after a frame's script byte: 0 is a busy end
unfoldable pub registers_after : Geometry → ℕ → Registers → Registers
registers_after g b r = cond (eqb b 0) (completed g r) r

-- (11.3) the memory
unfoldable pub memory_after : Geometry → ℕ → Registers → Memory → Memory
memory_after g b r m = cond (eqb b 0) (completed_memory g r.operation m) m

-- (11.3) both
unfoldable pub state_after : Geometry → ℕ → State → State
state_after g b s = record { registers = registers_after g b s.registers; memory = memory_after g b s.registers s.memory }

-- ---- put, patch, get, wipe

-- Aid: what is asked, as far as the wire may depend on it: the call, slot, B, script, the lengths of log and J, what is met of 5 and 14
pub record Request : Type 0 where
  pub asked : Asked
  pub script : List ℕ
  pub log : ℕ
  pub junk : ℕ
  pub flaws : Flaws

-- Aid: and the rest: recipe or patch, what the call aims at, J, and what the lent get buffer held
pub record Secret : Type 0 where
  pub payload : List ℕ
  pub aim : Aim
  pub junk : List ℕ
  pub lent : List ℕ

-- Aid: what the wire may show of a run
pub record Open : Type 0 where
  pub registers : Registers
  pub course : Course
  pub lines : List ℕ
  pub frames : ℕ
  pub polls : ℕ
  pub cut : Bool

-- Aid: and what it may not
pub record Closed : Type 0 where
  pub memory : Memory
  pub holding : Holding

-- Aid: the frame that is sent
abbrev pub sends : Geometry → Request → Open → Closed → List ℕ
sends g v p q = frame_of g v.asked.kind q.holding (step_of g v.asked p.course)

-- Aid: the registers that the frame leaves, before its script byte
abbrev pub leaves : Geometry → Request → Open → Closed → Registers
leaves g v p q = (control g p.registers (sends g v p q)).registers

-- Aid: its reply
abbrev pub replies : Geometry → Request → Open → Closed → List ℕ
replies g v p q = reply_of g p.registers q.memory (sends g v p q)

-- Aid: what is heard of it
abbrev pub hears : Geometry → Request → Open → Closed → Heard
hears g v p q = heard g (step_of g v.asked p.course) (sector_for g v.asked) (replies g v p q)

-- (11.1) the open half after a frame: from the open half, the frame's outline, the registers after it and what was heard
-- (11.4) a cut ends the call with 11, whatever was heard
-- (11.7) each frame counts, and is a poll if its step is a wait
unfoldable pub open_after : Geometry → Request → Open → List ℕ → Registers → Heard → Open
open_after g v p line r o =
    record {
      registers = registers_after g (scripted v.script p.frames) r;
      course = cond (eqb (scripted v.script p.frames) 2) (ended Answers.Cut p.course) (after g v.asked p.course o);
      lines = p.lines ++ line;
      frames = p.frames + 1;
      polls = p.polls + cond (is_wait (step_of g v.asked p.course)) 1 0;
      cut = eqb (scripted v.script p.frames) 2;
    }

-- (11.1) the closed half after a frame
unfoldable pub closed_after : Geometry → Request → Open → Closed → Registers → Memory → List ℕ → Closed
closed_after g v p q r m reply =
    record {
      memory = memory_after g (scripted v.script p.frames) r m;
      holding = taken_by (step_of g v.asked p.course) g v.asked.kind q.holding reply;
    }

-- (11.1) one frame sent, its script byte acted on, its reply looked at; after the end nothing
unfoldable pub step_open : Geometry → Request → Open → Closed → Open
step_open g v p q =
    cond (is_ended p.course.stage) p
    (open_after g v p (outline (sends g v p q)) (leaves g v p q) (hears g v p q))

-- (11.1) the same of the closed half
unfoldable pub step_closed : Geometry → Request → Open → Closed → Closed
step_closed g v p q =
    cond (is_ended p.course.stage) q
    (closed_after g v p q (leaves g v p q) (sent_memory g p.registers (sends g v p q) q.memory) (replies g v p q))

-- (11.11) n frames, or as many as there are
unfoldable pub run : ℕ → Geometry → Request → Open → Closed → Open × Closed
run zero g v p q = (p, q)
run (suc n) g v p q = run n g v (step_open g v p q) (step_closed g v p q)

-- (11.10) where a call starts: its first wait, or already ended if it is refused
unfoldable pub first_course : Answer → ℕ → Course
first_course refusal limit =
    record { place = 0; left = limit; stage = cond (eqb (number_of refusal) 0) None (Some refusal); listed = false; guarded = false }

-- Aid: the refusal of what is asked; Done where there is none
abbrev pub refusal_of : Geometry → ℕ → Request → Answer
refusal_of g array v =
    call_refusal g array v.asked v.flaws v.log v.script v.junk

-- (11.10) nothing is sent yet
unfoldable pub start_open : Geometry → ℕ → Request → Registers → Open
start_open g array v r =
    record { registers = r; course = first_course (refusal_of g array v) v.asked.limit; lines = []; frames = 0; polls = 0; cut = false }

-- (11.10) nothing is read yet; there is room for the largest slot
unfoldable pub start_closed : Secret → Memory → Closed
start_closed x m =
    record { memory = m; holding = record { payload = x.payload; aim = x.aim; staged = replicate slot_room 0; verdict = Good } }

-- (11.11) the run up to its end or its cut
unfoldable pub ran : Geometry → Request → Secret → State → Open × Closed
ran g v x s =
    run (bound g v.asked) g v (start_open g (length s.memory.array) v s.registers) (start_closed x s.memory)

-- Aid: the chip as the run leaves it
abbrev pub reached : Open × Closed → State
reached z = record { registers = z.0.registers; memory = z.1.memory }

-- (11.8) n: a get's, by the bytes that it read
unfoldable pub count_by : Kind → List ℕ → ℕ
count_by Put staged = 0
count_by Patch staged = 0
count_by Get staged = length_in staged
count_by Wipe staged = 0

-- (11.8) with the answer 0 alone
unfoldable pub count_of : Kind → Answer → List ℕ → ℕ
count_of k a staged = cond (eqb (number_of a) 0) (count_by k staged) 0

-- (11.9) the get buffer with the first n bytes behind the head of the record that was read, all else as it was
abbrev pub delivered : ℕ → List ℕ → List ℕ → List ℕ
delivered n staged buffer = over (take n (drop (head_size (version_in staged)) staged)) buffer

-- (11.9) what a run hands back: the get buffer by its answer
unfoldable pub out_from : Request → Secret → Open × Closed → Answer → Out
out_from v x z a =
    record {
      answer = a;
      lines = z.0.lines;
      frames = z.0.frames;
      polls = z.0.polls;
      count = count_of v.asked.kind a z.1.holding.staged;
      lent = delivered (count_of v.asked.kind a z.1.holding.staged) z.1.holding.staged x.lent;
    }

-- Aid: a call's answer. A run always comes to an end, so that the first row is never met (`call_ends`)
unfoldable pub answer_in : Option Answer → Answer
answer_in None = Answers.Busy
answer_in (Some a) = a

-- (11.11) the answer of a run
abbrev pub answer_at : Open × Closed → Answer
answer_at z = answer_in (told_by z.0.course.stage z.1.holding.verdict)

-- (11.11) what a call hands back
unfoldable pub call_out : Geometry → Request → Secret → State → Out
call_out g v x s = out_from v x (ran g v x s) (answer_at (ran g v x s))

-- (11.4) a cut is the call's last act
-- (12.16) what was done before stays
unfoldable pub call_next : Geometry → Request → Secret → State → State
call_next g v x s = cond (ran g v x s).0.cut (cut_state g x.junk (reached (ran g v x s))) (reached (ran g v x s))

-- ---- raw

-- (11.13) one frame of the caller's, its reply in the lent buffer
unfoldable pub raw_sent : Geometry → List ℕ → List ℕ → State → Out
raw_sent g script f s =
    record {
      answer = cond (eqb (scripted script 0) 2) Answers.Cut Answers.Done;
      lines = outline f;
      frames = 1;
      polls = 0;
      count = 0;
      lent = reply_of g s.registers s.memory f;
    }

-- (11.12) what raw hands back, refused or not
unfoldable pub raw_out : Geometry → List ℕ → List ℕ → ℕ → ℕ → List ℕ → State → Out
raw_out g f script log junk reply s =
    cond (eqb (number_of (raw_refusal g (length s.memory.array) f (length reply) log script junk)) 0) (raw_sent g script f s)
    (refused (raw_refusal g (length s.memory.array) f (length reply) log script junk) reply)

-- (11.12) and what it leaves
unfoldable pub raw_next : Geometry → List ℕ → List ℕ → ℕ → List ℕ → ℕ → State → State
raw_next g f script log junk reply s =
    cond (eqb (number_of (raw_refusal g (length s.memory.array) f reply log script (length junk))) 0)
    (cond (eqb (scripted script 0) 2) (cut_state g junk (sent_state g f s)) (state_after g (scripted script 0) (sent_state g f s)))
    s
