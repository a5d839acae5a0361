-- The slot driver: a reply goes in, the next frame or the end comes out. Its control state (`Course`) is a place in the call's plan and goes by `Heard`
-- alone; its data (`Holding`) take the whole reply and reach a frame only as the data of an 84.
-- Assumes nothing.
use Rattle.std.specs.Prelude.{ℕ, suc, ◌+◌, ◌-◌, ◌*◌, ◌/◌, ◌%◌, Bool, true, false, cond, not, ◌&&◌, ◌||◌, List, length, get_or, eqb, leb, None, Option, Some}
use Rattle.geometry.specs.Parts.{page_room}
use Rattle.slices.specs.Lists.{tabulate, splice}
use Rattle.geometry.specs.declared.Geometry.{Geometry}
use Rattle.registers.specs.Protection.{has_bits}
use Rattle.state.specs.declared.Answer.{Answer}
use Rattle.state.specs.declared.Answer.TheVariants as Answers
use Rattle.state.specs.Answers.{number_of}
use Rattle.slots.specs.declared.Aim.{Aim}
use Rattle.slots.specs.declared.Course.{Course}
use Rattle.slots.specs.declared.Kind.{Kind}
use Rattle.slots.specs.declared.Kind.TheVariants.{Put, Patch, Get, Wipe}
use Rattle.slots.specs.declared.Command.{Command}
use Rattle.slots.specs.declared.Command.TheVariants.{Program, Erase, Compare}
use Rattle.slots.specs.declared.Step.{Step}
use Rattle.slots.specs.declared.Step.TheVariants.{Wait, Protection, Lockdown, Read, Load, Send, End}
use Rattle.slots.specs.declared.Verdict.{Verdict}
use Rattle.slots.specs.declared.Verdict.TheVariants.{Good, Blank, Beyond, Outside, Miscompared}
use Rattle.slots.specs.Records.{head_size, version_in, image, changed, get_verdict, patch_verdict}
use Rattle.slots.specs.Plans.{Asked, plan_of, step_at, is_end}

-- Aid: the data: the recipe or the patch's bytes, what the call aims at, the slot's bytes read so far, and the verdict so far
pub record Holding : Type 0 where
  pub payload : List ℕ
  pub aim : Aim
  pub staged : List ℕ
  pub verdict : Verdict

-- ---- frames

-- (10.7) all of a frame but its data: opcode, address bytes, length, and whether data follow the first four bytes
pub record Shape : Type 0 where
  pub opcode : ℕ
  pub high : ℕ
  pub middle : ℕ
  pub low : ℕ
  pub length : ℕ
  pub loads : Bool

-- (10.8) with the address n in three bytes, the most significant first
abbrev pub addressed : ℕ → ℕ → ℕ → Bool → Shape
addressed opcode n length loads =
    record { opcode = opcode; high = n / 65536 % 256; middle = n / 256 % 256; low = n % 256; length = length; loads = loads }

-- (10.7) the opcode of a command that names a page
unfoldable pub opcode_of : Command → ℕ
opcode_of Program = 0x83
opcode_of Erase = 0x50
opcode_of Compare = 0x60

-- (10.7) a step's frame but for its data
unfoldable pub shape_of : Geometry → Step → Shape
shape_of g (Wait c) = addressed 0xD7 0 2 false
shape_of g Protection = addressed 0x32 0 (4 + g.register) false
shape_of g Lockdown = addressed 0x35 0 (4 + g.register) false
shape_of g (Read p) = addressed 0xD2 (g.field * p) (8 + g.size) false
shape_of g (Load p) = addressed 0x84 0 (4 + g.size) true
shape_of g (Send c p) = addressed (opcode_of c) (g.field * p) 4 false
shape_of g End = addressed 0 0 0 false

-- Aid: the room that the longest of them takes: a D2 over the largest page
abbrev pub frame_room : ℕ
frame_room = 8 + page_room

-- (10.9) byte i of a frame: opcode, address, then the data or 00
unfoldable pub frame_byte : Shape → (ℕ → ℕ) → ℕ → ℕ
frame_byte s bytes i =
    cond (eqb i 0) s.opcode (cond (eqb i 1) s.high (cond (eqb i 2) s.middle (cond (eqb i 3) s.low (cond s.loads (bytes (i - 4)) 0))))

-- (10.10) byte i of the slot as the call is to leave it: a put the recipe's record; a patch what it read, with its bytes in their place behind the head that
-- it read
unfoldable pub stored_by : Kind → Holding → ℕ → ℕ
stored_by Put h i = image h.aim.period h.payload i
stored_by Patch h i = changed h.verdict (head_size (version_in h.staged)) h.aim.place h.payload (get_or h.staged i 0) i
stored_by Get h i = 0
stored_by Wipe h i = 0

-- (10.10) the data of an 84: page p is page p mod 8 of its slot
unfoldable pub loaded : Geometry → Kind → Holding → Step → ℕ → ℕ
loaded g k h (Wait c) i = 0
loaded g k h Protection i = 0
loaded g k h Lockdown i = 0
loaded g k h (Read p) i = 0
loaded g k h (Load p) i = stored_by k h (g.size * (p % 8) + i)
loaded g k h (Send c p) i = 0
loaded g k h End i = 0

-- (10.9) a step's frame
abbrev pub frame_of : Geometry → Kind → Holding → Step → List ℕ
frame_of g k h x = tabulate (shape_of g x).length (frame_byte (shape_of g x) (loaded g k h x))

-- ---- what is heard of a reply

-- (10.12) all that control goes by: of a status, whether bits 5-2 are 1001, bit 7, bit 1; of a register, whether a bit of the sector is 1
pub record Heard : Type 0 where
  pub density : Bool
  pub ready : Bool
  pub guarded : Bool
  pub held : Bool

-- (10.12) of a status
abbrev pub status_heard : ℕ → Heard
status_heard x = record { density = eqb (x / 4 % 16) 9; ready = eqb (x / 128 % 2) 1; guarded = eqb (x / 2 % 2) 1; held = false }

-- (10.12) of a register, or of nothing
abbrev pub register_heard : Bool → Heard
register_heard b = record { density = true; ready = true; guarded = false; held = b }

-- (10.11) what is missing of them counts as FFh
-- (10.13) a register's bytes in a reply to 32 or 35
unfoldable pub register_in : Geometry → List ℕ → List ℕ
register_in g reply = tabulate g.register (λ j. get_or reply (4 + j) 255)

-- (10.11) what is heard of the reply to a step: a status that is missing counts as FFh
unfoldable pub heard : Geometry → Step → ℕ → List ℕ → Heard
heard g (Wait c) sector reply = status_heard (get_or reply 1 255)
heard g Protection sector reply = register_heard (has_bits g (register_in g reply) sector)
heard g Lockdown sector reply = register_heard (has_bits g (register_in g reply) sector)
heard g (Read p) sector reply = register_heard false
heard g (Load p) sector reply = register_heard false
heard g (Send c p) sector reply = register_heard false
heard g End sector reply = register_heard false

-- ---- control

-- (12.16) the call ends here
abbrev pub ended : Answer → Course → Course
ended n c = record { place = c.place; left = c.left; stage = Some n; listed = c.listed; guarded = c.guarded }

-- (10.15) the next step has all B polls
-- (10.18) the plan's end is the call's
abbrev pub moved : Step → ℕ → Course → Course
moved next limit c =
    record { place = suc c.place; left = limit; stage = cond (is_end next) (Some Answers.Done) None; listed = c.listed; guarded = c.guarded }

-- (10.16) whether the sector is listed, by the reply to 32
abbrev pub noted : Bool → Course → Course
noted b c = record { place = c.place; left = c.left; stage = c.stage; listed = b; guarded = c.guarded }

-- (10.16) bit 1 of the status that ends a wait
abbrev pub marking : Bool → Course → Course
marking b c = record { place = c.place; left = c.left; stage = c.stage; listed = c.listed; guarded = b }

-- (10.15) one poll less is left
abbrev pub fewer : Course → Course
fewer c = record { place = c.place; left = c.left - 1; stage = c.stage; listed = c.listed; guarded = c.guarded }

-- (10.14) a poll: 8, looked at before ready
-- (10.15) a busy chip: 9 at the last of the B polls, else once more
-- (10.16) 32 notes, 35 tests: 10 where the sector is sealed by both replies and the status before them
-- (10.17) all else goes on
unfoldable pub course_by : Step → Step → ℕ → Course → Heard → Course
course_by (Wait x) next limit c o =
    cond (not o.density) (ended Answers.Device c)
    (cond o.ready (moved next limit (marking o.guarded c)) (cond (leb c.left 1) (ended Answers.Busy c) (fewer c)))
course_by Protection next limit c o = moved next limit (noted o.held c)
course_by Lockdown next limit c o = cond (o.held || (c.listed && c.guarded)) (ended Answers.Sealed c) (moved next limit c)
course_by (Read p) next limit c o = moved next limit c
course_by (Load p) next limit c o = moved next limit c
course_by (Send x p) next limit c o = moved next limit c
course_by End next limit c o = c

-- Aid: the step at a course's place
abbrev pub step_of : Geometry → Asked → Course → Step
step_of g a c = step_at (plan_of g a) c.place

-- (10.18) the control state after a reply
abbrev pub after : Geometry → Asked → Course → Heard → Course
after g a c o = course_by (step_of g a c) (step_at (plan_of g a) (suc c.place)) a.limit c o

-- ---- data

-- (10.20) the verdict on a slot's first page
unfoldable pub judged : Geometry → Kind → Holding → List ℕ → Verdict
judged g Put h bytes = Good
judged g Patch h bytes = patch_verdict g (h.aim.place + length h.payload) bytes
judged g Get h bytes = get_verdict g h.aim.today bytes
judged g Wipe h bytes = Good

-- (10.19) page p's bytes go to their place among the slot's
-- (10.20) the slot's first page is judged
unfoldable pub read_in : Geometry → Kind → ℕ → Holding → List ℕ → Holding
read_in g k p h bytes =
    record {
      payload = h.payload;
      aim = h.aim;
      staged = splice (g.size * (p % 8)) bytes h.staged;
      verdict = cond (eqb (p % 8) 0) (judged g k h bytes) h.verdict;
    }

-- (10.31) the compare bit that a wait hands up: bit 6 of its last status, the one that tells ready
unfoldable pub compare_in : List ℕ → Bool
compare_in reply = eqb (get_or reply 1 255 / 128 % 2) 1 && eqb (get_or reply 1 255 / 64 % 2) 1

-- (10.32) a page that differs is 16, but 12 and 13 come before it
unfoldable pub miscomparing : Verdict → Verdict
miscomparing Good = Miscompared
miscomparing Blank = Blank
miscomparing Beyond = Beyond
miscomparing Outside = Outside
miscomparing Miscompared = Miscompared

-- (10.32) the data with it
abbrev pub marred : Holding → Holding
marred h = record { payload = h.payload; aim = h.aim; staged = h.staged; verdict = miscomparing h.verdict }

-- (10.11) what is missing of a page counts as FFh
-- (10.19) the data after a step's reply: those of a page read follow its eight bytes of lead
-- (10.32) of a wait they take the compare bit, if it is checked
unfoldable pub taken_by : Step → Geometry → Kind → Holding → List ℕ → Holding
taken_by (Wait c) g k h reply = cond (c && compare_in reply) (marred h) h
taken_by Protection g k h reply = h
taken_by Lockdown g k h reply = h
taken_by (Read p) g k h reply = read_in g k p h (tabulate g.size (λ i. get_or reply (8 + i) 255))
taken_by (Load p) g k h reply = h
taken_by (Send c p) g k h reply = h
taken_by End g k h reply = h

-- ---- the end

-- Aid: it is at its end
unfoldable pub is_ended : Option Answer → Bool
is_ended None = false
is_ended (Some n) = true

-- (10.21) the answer of a verdict
unfoldable pub verdict_answer : Verdict → Answer
verdict_answer Good = Answers.Done
verdict_answer Blank = Answers.Blank
verdict_answer Beyond = Answers.End
verdict_answer Outside = Answers.Term
verdict_answer Miscompared = Answers.Miscompare

-- (10.21) the answer 0 is weighed by the verdict, any other stands
unfoldable pub weighed : Answer → Verdict → Answer
weighed n v = cond (eqb (number_of n) 0) (verdict_answer v) n

-- (10.22) what a driver tells: one that has not ended has no answer
unfoldable pub told_by : Option Answer → Verdict → Option Answer
told_by None v = None
told_by (Some n) v = Some (weighed n v)
