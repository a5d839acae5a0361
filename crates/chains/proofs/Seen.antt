-- What a caller has after a C function is the outcome of its definition: each field of the promise is one of it.
-- Assumes nothing.
use Prim.Native.Nat.{ℕ, ◌*◌}
use native.Mathlib.Omega.{arith}
use mathlib.Core.Path.{◌≡◌, sym, ap, ◌∙◌}
use mathlib.Core.List.{List, []}
use lib.ListN.{length, get_or, take, drop}
use lib.Seq.{take_at, take-nil}
use Rattle.slices.specs.Lists.{over}
use Rattle.slices.proofs.Laws.{over_append}
use Rattle.state.specs.Answers.{number_of}
use Rattle.state.specs.Memory.{State, state_of}
use Rattle.state.specs.Outcomes.{Left, pin_outcome, send_outcome, end_outcome, cut_outcome}
use Rattle.blocks.specs.Block.{decode_chip}
use Rattle.blocks.specs.Promises.{held_in}
use Rattle.slots.specs.Calls.{Out}
use Rattle.slots.specs.Lists.{Op, call, raw, straight, pin, busy_end, cut, met, out_of, next_of, log_of}
use Rattle.runs.specs.Promises.{Called}
use Rattle.chains.specs.Chains.{Seen, Bare, Does, frames_in, polls_in, count_in, written_in}
use Rattle.chains.proofs.Lines.{Fits, lines_fit}

-- a caller has the outcome o, whose lines went over the log l₀, and block and array hold the state t
pub record Shows (o : Out) (t : State) (l₀ : List ℕ) (z : Seen) : Type 0 where
  pub number : z.number ≡ number_of o.answer
  pub frames : frames_in z ≡ o.frames
  pub polls : polls_in z ≡ o.polls
  pub count : count_in z ≡ o.count
  pub written : written_in z ≡ o.lines
  pub log : z.log ≡ over o.lines l₀
  pub lent : z.lent ≡ o.lent
  pub holds : held_in z.block z.array ≡ t

-- the lines stand at the beginning of the log
lines_front : (o : Out) (log l : List ℕ) (n : ℕ) → Fits (length log) o → n ≡ o.frames → l ≡ over o.lines log → take (6 * n) l ≡ o.lines
lines_front o log l n w e f =
    let m : 6 * n ≡ length o.lines = omega (arith, w.six) in
    ap (take (6 * n)) (f ∙ over_append o.lines log (omega (arith, w.six, w.room))) ∙ take_at o.lines (drop (length o.lines) log) (6 * n) (sym m)

called_shows : (o : Op) (held xs : List ℕ) (z : Seen) → Called o held xs z.number z.block z.array z.log z.counts z.lent
    → Shows (out_of o (held_in held xs)) (next_of o (held_in held xs)) (log_of o) z
called_shows o held xs z w =
    let x = out_of o (held_in held xs) in
    record {
      number = w.answer;
      frames = ap (λ (l : List ℕ). get_or l 0 0) w.counts;
      polls = ap (λ (l : List ℕ). get_or l 1 0) w.counts;
      count = ap (λ (l : List ℕ). get_or l 2 0) w.counts;
      written = lines_front x (log_of o) z.log (frames_in z) (lines_fit o held xs) (ap (λ (l : List ℕ). get_or l 0 0) w.counts) w.log;
      log = w.log;
      lent = w.lent;
      holds = w.holds;
    }

-- an event: nothing is counted
event_shows : (o : Left) (z : Seen) → z.number ≡ number_of o.answer → held_in z.block z.array ≡ o.state → Bare z → z.lent ≡ o.reply → Shows (met o) o.state [] z
unfolding over
event_shows o z e f b l =
    record {
      number = e;
      frames = ap (λ (l : List ℕ). get_or l 0 0) b.1;
      polls = ap (λ (l : List ℕ). get_or l 1 0) b.1;
      count = ap (λ (l : List ℕ). get_or l 2 0) b.1;
      written = ap (take (6 * frames_in z)) b.0 ∙ take-nil (6 * frames_in z);
      log = b.0;
      lent = l;
      holds = f;
    }

pub shows : (o : Op) (held xs : List ℕ) (z : Seen) → Does o held xs z → Shows (out_of o (held_in held xs)) (next_of o (held_in held xs)) (log_of o) z
unfolding out_of next_of pin_outcome number_of log_of
shows (call a detail script payload junk log lent) held xs z w = called_shows (call a detail script payload junk log lent) held xs z w
shows (raw frame script junk log reply) held xs z w = called_shows (raw frame script junk log reply) held xs z w
shows (straight frame reply) held xs z w = event_shows (send_outcome (held_in held xs) frame reply) z w.0.answer w.0.holds w.1 w.0.reply
shows (pin high) held xs z w =
    event_shows (pin_outcome high (held_in held xs)) z w.0.answer
    (ap (λ (l : List ℕ). state_of (decode_chip z.block) l) w.1 ∙ w.0.holds xs) w.2 w.3
shows busy_end held xs z w = event_shows (end_outcome (held_in held xs)) z w.0.answer w.0.holds w.1 w.0.reply
shows (cut junk) held xs z w = event_shows (cut_outcome junk (held_in held xs)) z w.0.answer w.0.holds w.1 w.0.reply
