-- What is stored is read back: each byte and each word of the block lies where its offset says, a place below 256 is its byte, and a
-- number below 2 ^ 64 is the number that its eight bytes make.
-- Assumes nothing.
use Rattle.std.specs.Prelude.{None, Option, Some}
use Prim.Native.Nat.{ℕ}
use mathlib.Core.Path.{◌≡◌, refl, ap, ◌∙◌}
use mathlib.Core.Bool.{Bool, true, false, ◌&&◌}
use native.Mathlib.Nat.{mod-eq_of_lt}
use lib.Dec.{leb}
use borrow.Author.Tests.{le-leb}
use Rattle.slices.specs.Words.{word_at, word_bytes}
use Rattle.slices.proofs.Words.{word_at-word_bytes}
use Rattle.state.specs.declared.Answer.{Answer}
use Rattle.state.specs.declared.Answer.TheVariants as Answers
use Rattle.state.specs.Answers.{number_of}
use Rattle.slots.specs.declared.Kind.{Kind}
use Rattle.slots.specs.declared.Kind.TheVariants.{Put, Patch, Get, Wipe}
use Rattle.slots.specs.declared.Period.{Period}
use Rattle.slots.specs.declared.Period.TheVariants.{Always, Days}
use Rattle.slots.specs.declared.Verdict.{Verdict}
use Rattle.slots.specs.declared.Verdict.TheVariants.{Good, Blank, Beyond, Outside, Miscompared}
use Rattle.slots.specs.declared.Driver.{Driver}
use Rattle.slots.proofs.Refused.{in_table}
use Rattle.driver_blocks.specs.Block.{kind_of, verdict_of, answer_at, is_kind, is_ours, stage_of, flag, period_at, kind_number, verdict_number, stage_number, end_number, flag_byte, dated_number, first_of, last_of, decode_course, decode_aim, decode_driver, head_bytes, day_words, encode_driver, Fits}

-- ---- bytes
kind_back : (k : Kind) → kind_of (kind_number k) ≡ k
unfolding kind_of kind_number
kind_back Put = refl
kind_back Patch = refl
kind_back Get = refl
kind_back Wipe = refl

verdict_back : (v : Verdict) → verdict_of (verdict_number v) ≡ v
unfolding verdict_of verdict_number
verdict_back Good = refl
verdict_back Blank = refl
verdict_back Beyond = refl
verdict_back Outside = refl
verdict_back Miscompared = refl

pub answer_back : (a : Answer) → answer_at (number_of a) ≡ a
unfolding answer_at number_of
answer_back Answers.Done = refl
answer_back Answers.Part = refl
answer_back Answers.Frame = refl
answer_back Answers.Slot = refl
answer_back Answers.Limit = refl
answer_back Answers.Size = refl
answer_back Answers.Log = refl
answer_back Answers.Script = refl
answer_back Answers.Device = refl
answer_back Answers.Busy = refl
answer_back Answers.Sealed = refl
answer_back Answers.Cut = refl
answer_back Answers.Blank = refl
answer_back Answers.End = refl
answer_back Answers.Dates = refl
answer_back Answers.Term = refl
answer_back Answers.Miscompare = refl

-- what is written is ours
stage_ours : (st : Option Answer) → (leb (stage_number st) 1 && leb (end_number st) 16) ≡ true
unfolding stage_number end_number
stage_ours None = refl
stage_ours (Some a) = le-leb (number_of a) 16 (in_table a)

kind_ours : (k : Kind) → is_kind (kind_number k) ≡ true
unfolding is_kind kind_number
kind_ours Put = refl
kind_ours Patch = refl
kind_ours Get = refl
kind_ours Wipe = refl

verdict_ours : (v : Verdict) → leb (verdict_number v) 4 ≡ true
unfolding verdict_number
verdict_ours Good = refl
verdict_ours Blank = refl
verdict_ours Beyond = refl
verdict_ours Outside = refl
verdict_ours Miscompared = refl

stage_back : (st : Option Answer) → stage_of true (stage_number st) (end_number st) ≡ st
unfolding stage_of stage_number end_number
stage_back None = refl
stage_back (Some a) = ap Some (answer_back a)

flag_back : (b : Bool) → flag (flag_byte b) ≡ b
flag_back true = refl
flag_back false = refl

-- the term, whatever numbers are read for days that are none
period_back : (p : Period) (first last : ℕ) → first ≡ first_of p → last ≡ last_of p → period_at (dated_number p) first last ≡ p
unfolding period_at dated_number first_of last_of
period_back Always first last e f = refl
period_back (Days m n) first last e f = λ i. Days (e i) (f i)

-- ---- the state
ours : (d : Driver) → is_ours (encode_driver d) ≡ true
unfolding is_ours encode_driver head_bytes
ours d = λ i. (kind_ours d.kind i && verdict_ours d.verdict i) && stage_ours d.course.stage i

pub decode_encode : (d : Driver) → Fits d → decode_driver (encode_driver d) ≡ d
unfolding decode_driver decode_course decode_aim encode_driver head_bytes day_words word_at word_bytes
decode_encode d h = λ i.
    record {
      array = word_at-word_bytes d.array h.array i;
      kind = kind_back d.kind i;
      slot = word_at-word_bytes d.slot h.slot i;
      limit = word_at-word_bytes d.limit h.limit i;
      aim =
          record {
            place = word_at-word_bytes d.aim.place h.place i;
            period =
                period_back d.aim.period _ _ (word_at-word_bytes (first_of d.aim.period) h.first)
                (word_at-word_bytes (last_of d.aim.period) h.last) i;
            today = word_at-word_bytes d.aim.today h.today i;
          };
      verdict = verdict_back d.verdict i;
      course =
          record {
            place = mod-eq_of_lt h.step i;
            left = word_at-word_bytes d.course.left h.left i;
            stage = ((λ j. stage_of (ours d j) (stage_number d.course.stage) (end_number d.course.stage)) ∙ stage_back d.course.stage) i;
            listed = flag_back d.course.listed i;
            guarded = flag_back d.course.guarded i;
          };
    }
