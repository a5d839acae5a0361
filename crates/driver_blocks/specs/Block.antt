-- The slot driver's state in the C interface: a block of 72 bytes. `decode_driver` reads a block of any content, `encode_driver` writes one.
-- Offsets: call 0, verdict 1, stage 2, answer 3, place in the plan 4, listed 5, guarded 6, dated 7, then numbers of eight bytes, high byte first:
-- array's length 8, slot 16, poll limit 24, patch's place 32, polls left 40, first day 48, last day 56, today 64.
-- Assumes nothing.
use Rattle.std.specs.Prelude.{ℕ, ◌%◌, ◌^◌, ◌<◌, Bool, cond, not, ◌&&◌, ◌||◌, List, [], ◌∷◌, ◌++◌, get_or, eqb, leb, None, Option, Some}
use Rattle.slices.specs.Words.{word_at, word_bytes}
use Rattle.state.specs.declared.Answer.{Answer}
use Rattle.state.specs.declared.Answer.TheVariants as Answers
use Rattle.state.specs.Answers.{number_of}
use Rattle.slots.specs.declared.Aim.{Aim}
use Rattle.slots.specs.declared.Course.{Course}
use Rattle.slots.specs.declared.Driver.{Driver}
use Rattle.slots.specs.declared.Kind.{Kind}
use Rattle.slots.specs.declared.Kind.TheVariants.{Put, Patch, Get, Wipe}
use Rattle.slots.specs.declared.Period.{Period}
use Rattle.slots.specs.declared.Period.TheVariants.{Always, Days}
use Rattle.slots.specs.declared.Verdict.{Verdict}
use Rattle.slots.specs.declared.Verdict.TheVariants.{Good, Blank, Beyond, Outside, Miscompared}

-- ---- what is written

-- (13.13) the calls' bytes lie four bits apart, so that no flipped bit makes one call another
unfoldable pub kind_number : Kind → ℕ
kind_number Put = 0x0F
kind_number Patch = 0x33
kind_number Get = 0x55
kind_number Wipe = 0xF0

-- (13.14) the verdict
unfoldable pub verdict_number : Verdict → ℕ
verdict_number Good = 0
verdict_number Blank = 1
verdict_number Beyond = 2
verdict_number Outside = 3
verdict_number Miscompared = 4

-- (13.14) going, or ended
unfoldable pub stage_number : Option Answer → ℕ
stage_number None = 0
stage_number (Some a) = 1

-- (13.14) the answer's number at the end, 0 before it
unfoldable pub end_number : Option Answer → ℕ
end_number None = 0
end_number (Some a) = number_of a

-- (13.15) 0 or 1
abbrev pub flag_byte : Bool → ℕ
flag_byte b = cond b 1 0

-- (13.15) 1 with a term, 0 without
unfoldable pub dated_number : Period → ℕ
dated_number Always = 0
dated_number (Days first last) = 1

-- (13.15) the first day's number; 0 without a term
unfoldable pub first_of : Period → ℕ
first_of Always = 0
first_of (Days first last) = first

-- (13.15) the last day's number
unfoldable pub last_of : Period → ℕ
last_of Always = 0
last_of (Days first last) = last

-- (13.17) what is told of a driver: the answer's number; 255 while it is running
unfoldable pub told_number : Option Answer → ℕ
told_number None = 255
told_number (Some a) = number_of a

-- ---- what a byte reads as

-- (13.13) a byte that is no call's reads as a get, which changes nothing
unfoldable pub kind_of : ℕ → Kind
kind_of n = cond (eqb n 0x0F) Put (cond (eqb n 0x33) Patch (cond (eqb n 0xF0) Wipe Get))

-- (13.14) the verdict that a byte reads as; every byte over 3 as a page that differs
unfoldable pub verdict_of : ℕ → Verdict
verdict_of n = cond (eqb n 0) Good (cond (eqb n 1) Blank (cond (eqb n 2) Beyond (cond (eqb n 3) Outside Miscompared)))

-- (13.14) the answer of a number of the table
unfoldable pub answer_at : ℕ → Answer
answer_at n =
    cond (eqb n 0) Answers.Done
    (cond (eqb n 1) Answers.Part
    (cond (eqb n 2) Answers.Frame
    (cond (eqb n 3) Answers.Slot
    (cond (eqb n 4) Answers.Limit
    (cond (eqb n 5) Answers.Size
    (cond (eqb n 6) Answers.Log
    (cond (eqb n 7) Answers.Script
    (cond (eqb n 8) Answers.Device
    (cond (eqb n 9) Answers.Busy
    (cond (eqb n 10) Answers.Sealed
    (cond (eqb n 11) Answers.Cut
    (cond (eqb n 12) Answers.Blank
    (cond (eqb n 13) Answers.End
    (cond (eqb n 14) Answers.Dates
    (cond (eqb n 15) Answers.Term
    Answers.Miscompare)))))))))))))))

-- (13.15) 0 is off, any other byte on
abbrev pub flag : ℕ → Bool
flag x = not (eqb x 0)

-- (13.15) the term that a byte and two numbers read as: under 0 there is none, whatever the numbers
unfoldable pub period_at : ℕ → (first last : ℕ) → Period
period_at n first last = cond (eqb n 0) Always (Days first last)

-- ---- the block

-- (13.16) the byte is a call's
unfoldable pub is_kind : ℕ → Bool
is_kind n = (eqb n 0x0F || eqb n 0x33) || (eqb n 0x55 || eqb n 0xF0)

-- (13.16) a block's first four bytes are such as a state is written with: a call, a verdict, a stage and an answer
unfoldable pub is_ours : List ℕ → Bool
is_ours block = (is_kind (get_or block 0 0) && leb (get_or block 1 0) 4) && (leb (get_or block 2 0) 1 && leb (get_or block 3 0) 16)

-- (13.16) going, or ended with an answer; a block that is not ours has ended with 1
unfoldable pub stage_of : Bool → ℕ → ℕ → Option Answer
stage_of ours n a = cond ours (cond (eqb n 0) None (Some (answer_at a))) (Some Answers.Part)

-- (13.12) the course that a block holds
unfoldable pub decode_course : List ℕ → Course
decode_course block =
    record {
      place = get_or block 4 0;
      left = word_at block 40;
      stage = stage_of (is_ours block) (get_or block 2 0) (get_or block 3 0);
      listed = flag (get_or block 5 0);
      guarded = flag (get_or block 6 0);
    }

-- (13.12) what the call that a block holds aims at
unfoldable pub decode_aim : List ℕ → Aim
decode_aim block =
    record {
      place = word_at block 32;
      period = period_at (get_or block 7 0) (word_at block 48) (word_at block 56);
      today = word_at block 64;
    }

-- (13.12) the state that a block holds
unfoldable pub decode_driver : List ℕ → Driver
decode_driver block =
    record {
      array = word_at block 8;
      slot = word_at block 16;
      limit = word_at block 24;
      aim = decode_aim block;
      kind = kind_of (get_or block 0 0);
      verdict = verdict_of (get_or block 1 0);
      course = decode_course block;
    }

-- (13.12) the first eight bytes; the place modulo 256
unfoldable pub head_bytes : Kind → Verdict → Course → Period → List ℕ
head_bytes k v c p =
    kind_number k ∷ verdict_number v ∷ stage_number c.stage ∷ end_number c.stage ∷
    c.place % 256 ∷ flag_byte c.listed ∷ flag_byte c.guarded ∷ dated_number p ∷ []

-- (13.12) the last three numbers
unfoldable pub day_words : Aim → List ℕ
day_words a = word_bytes (first_of a.period) ++ (word_bytes (last_of a.period) ++ word_bytes a.today)

-- (13.12) the whole block
unfoldable pub encode_driver : Driver → List ℕ
encode_driver d =
    head_bytes d.kind d.verdict d.course d.aim.period
    ++ (word_bytes d.array ++ (word_bytes d.slot ++ (word_bytes d.limit ++ (word_bytes d.aim.place
    ++ (word_bytes d.course.left ++ day_words d.aim)))))

-- ---- Aid: the states that a block can hold: the place in the plan in one byte, the numbers in eight

pub record Fits (d : Driver) : Type 0 where
  pub array : d.array < 2 ^ 64
  pub slot : d.slot < 2 ^ 64
  pub limit : d.limit < 2 ^ 64
  pub place : d.aim.place < 2 ^ 64
  pub left : d.course.left < 2 ^ 64
  pub first : first_of d.aim.period < 2 ^ 64
  pub last : last_of d.aim.period < 2 ^ 64
  pub today : d.aim.today < 2 ^ 64
  pub step : d.course.place < 256
