-- DEMAND 1 over lists: every outcome's answer is a number of the table, and one of 1 to 7, or 14, means that nothing was sent and nothing changed. A refused
-- call starts at its end, and a run never leaves its end; an accepted one can only end with 0, 8 to 13, 15 or 16.
-- Assumes nothing.
use Rattle.std.specs.Prelude.{None, Option, Some}
use Prim.Native.Nat.{ℕ, zero, suc, ◌<◌, ◌≤◌}
use mathlib.Core.Path.{◌≡◌, refl, sym, ap, subst, ◌∙◌}
use mathlib.Core.Bool.{Bool, true, false, cond, ◌&&◌, ◌||◌}
use mathlib.Core.List.{List, []}
use lib.ListN.{length}
use lib.Dec.{eqb, leb, lit≤}
use borrow.Author.Tests.{lt-leb, ne_eqb}
use Rattle.slices.specs.Lists.{over}
use Rattle.geometry.specs.declared.Geometry.{Geometry}
use Rattle.state.specs.declared.Answer.{Answer}
use Rattle.state.specs.declared.Answer.TheVariants as Answers
use Rattle.state.specs.Answers.{number_of}
use Rattle.state.specs.Outcomes.{framed, part_in, cut_state, sent_by, ended_by, pin_outcome, cut_fits, cut_by, left}
use Rattle.slots.specs.declared.Course.{Course}
use Rattle.slots.specs.declared.Kind.{Kind}
use Rattle.slots.specs.declared.Verdict.{Verdict}
use Rattle.slots.specs.declared.Verdict.TheVariants.{Good, Blank, Beyond, Outside, Miscompared}
use Rattle.state.specs.Memory.{State}
use Rattle.slots.specs.Plans.{plan_of, step_at, is_end, bound}
use Rattle.slots.specs.Driver.{is_ended, verdict_answer, weighed, told_by}
use Rattle.slots.specs.Refusals.{raw_refusal}
use Rattle.slots.specs.Calls.{Out, Request, Secret, Open, Closed, refused, scripted, hears, open_after, step_open, step_closed, run, first_course, refusal_of, start_open, start_closed, ran, reached, count_by, count_of, delivered, out_from, answer_in, answer_at, call_out, call_next, raw_sent, raw_out, raw_next}
use Rattle.slots.specs.Lists.{Op, call, raw, straight, pin, busy_end, cut, asks, secret, met, call_by, raw_by, out_of, called_by, raw_left, next_of, is_refusal, lent_to, Untouched}
use Rattle.slots.proofs.Parts.{cases, out_at, out_at_lem, next_at, next_at_lem}
use Rattle.slots.proofs.Places.{never, Stops, course_ways}
use Rattle.slots.proofs.Accepted.{run-ended}
use native.Mathlib.Omega.{arith}

-- every answer is a number of the table
pub in_table : (a : Answer) → number_of a ≤ 16
unfolding number_of
in_table Answers.Done = lit≤ tt
in_table Answers.Part = lit≤ tt
in_table Answers.Frame = lit≤ tt
in_table Answers.Slot = lit≤ tt
in_table Answers.Limit = lit≤ tt
in_table Answers.Size = lit≤ tt
in_table Answers.Log = lit≤ tt
in_table Answers.Script = lit≤ tt
in_table Answers.Device = lit≤ tt
in_table Answers.Busy = lit≤ tt
in_table Answers.Sealed = lit≤ tt
in_table Answers.Cut = lit≤ tt
in_table Answers.Blank = lit≤ tt
in_table Answers.End = lit≤ tt
in_table Answers.Dates = lit≤ tt
in_table Answers.Term = lit≤ tt
in_table Answers.Miscompare = lit≤ tt

-- ---- a refused call

-- an answer but 0 stands
pub weighed_other : (n : Answer) (v : Verdict) → eqb (number_of n) 0 ≡ false → weighed n v ≡ n
unfolding weighed
weighed_other n v e = ap (λ (b : Bool). cond b (verdict_answer v) n) e

pub count_none : (k : Kind) (a : Answer) (staged : List ℕ) → eqb (number_of a) 0 ≡ false → count_of k a staged ≡ 0
unfolding count_of
count_none k a staged e = ap (λ (b : Bool). cond b (count_by k staged) 0) e

-- the open half of a call that starts at its end
abbrev ended_open : Answer → Request → State → Open
ended_open a v s =
    record { registers = s.registers; course = record { place = 0; left = v.asked.limit; stage = Some a; listed = false; guarded = false }; lines = []; frames = 0; polls = 0; cut = false }

start-refused : (g : Geometry) (v : Request) (s : State) → eqb (number_of (refusal_of g (length s.memory.array) v)) 0 ≡ false
    → start_open g (length s.memory.array) v s.registers ≡ ended_open (refusal_of g (length s.memory.array) v) v s
unfolding start_open first_course
start-refused g v s e = λ i.
    record {
      registers = s.registers;
      course = record { place = 0; left = v.asked.limit; stage = cond (e i) None (Some (refusal_of g (length s.memory.array) v)); listed = false; guarded = false };
      lines = [];
      frames = 0;
      polls = 0;
      cut = false;
    }

-- what the run of a refused call leaves
pub ran-refused : (g : Geometry) (v : Request) (x : Secret) (s : State) → eqb (number_of (refusal_of g (length s.memory.array) v)) 0 ≡ false
    → ((ran g v x s).0 ≡ ended_open (refusal_of g (length s.memory.array) v) v s) × ((ran g v x s).1 ≡ start_closed x s.memory)
unfolding ran is_ended
ran-refused g v x s e =
    let z = start-refused g v s e in
    let r = run-ended (bound g v.asked) g v (start_open g (length s.memory.array) v s.registers) (start_closed x s.memory)
    (ap (λ (o : Open). is_ended o.course.stage) z) in
    (r.0 ∙ z, r.1)

out-refused : (g : Geometry) (v : Request) (x : Secret) (s : State) (a : Answer) → eqb (number_of a) 0 ≡ false
    → out_from v x (ended_open a v s, start_closed x s.memory) a ≡ refused a x.lent
unfolding out_from over
out-refused g v x s a e =
    let staged = (start_closed x s.memory).holding.staged in
    let c = count_none v.asked.kind a staged e in
    λ i. record { answer = a; lines = []; frames = 0; polls = 0; count = c i; lent = delivered (c i) staged x.lent }

-- it sends nothing and changes nothing
pub record Refused (g : Geometry) (v : Request) (x : Secret) (s : State) (a : Answer) : Type 0 where
  pub out : call_out g v x s ≡ refused a x.lent
  pub next : call_next g v x s ≡ s

pub refused-call : (g : Geometry) (v : Request) (x : Secret) (s : State) → eqb (number_of (refusal_of g (length s.memory.array) v)) 0 ≡ false
    → Refused g v x s (refusal_of g (length s.memory.array) v)
unfolding call_out call_next told_by answer_in start_closed
refused-call g v x s e =
    let a = refusal_of g (length s.memory.array) v in
    let r = ran-refused g v x s e in
    record {
      out =
          (λ i. out_from v x (r.0 i, r.1 i) (answer_at (r.0 i, r.1 i)))
          ∙ ap (λ (z : Answer). out_from v x (ended_open a v s, start_closed x s.memory) z) (weighed_other a Good e)
          ∙ out-refused g v x s a e;
      next = λ i. cond (r.0 i).cut (cut_state g x.junk (reached (r.0 i, r.1 i))) (reached (r.0 i, r.1 i));
    }

-- ---- an accepted call ends with 0, 8 to 13, 15 or 16

late_is : (a : Answer) → Stops a → is_refusal a ≡ false
late_is a h = (λ i. (leb 1 (number_of a) && lt-leb (number_of a) 7 h.0 i) || ne_eqb (number_of a) 14 (λ e. absurd (omega (arith, h.1, e))) i) ∙ go (leb 1 (number_of a))
  where
    go : (b : Bool) → ((b && false) || false) ≡ false
    go true = refl
    go false = refl

-- a course that has not ended, or ended with none of 1 to 7 and 14
abbrev Late : Option Answer → Type 0
Late None = Unit {0}
Late (Some a) = is_refusal a ≡ false

abbrev LateCourse : Course → Type 0
LateCourse c = Late c.stage

step_late : (g : Geometry) (v : Request) (p : Open) (q : Closed) → LateCourse p.course → LateCourse (step_open g v p q).course
unfolding step_open open_after number_of
step_late g v p q u =
    let plan = plan_of g v.asked in
    let c = p.course in
    cases (λ (z : Open). LateCourse z.course) (is_ended c.stage) u
    (cases LateCourse (eqb (scripted v.script p.frames) 2) refl
    (course_ways LateCourse (step_at plan c.place) (step_at plan (suc c.place)) v.asked.limit c (hears g v p q) (λ _. u) late_is (λ _ _. u)
    (λ _ _. cases Late (is_end (step_at plan (suc c.place))) refl tt)))

run_late : (n : ℕ) (g : Geometry) (v : Request) (p : Open) (q : Closed) → LateCourse p.course → LateCourse (run n g v p q).0.course
unfolding run
run_late zero g v p q u = u
run_late (suc n) g v p q u = run_late n g v (step_open g v p q) (step_closed g v p q) (step_late g v p q u)

verdict_late : (v : Verdict) → is_refusal (verdict_answer v) ≡ false
unfolding verdict_answer number_of
verdict_late Good = refl
verdict_late Blank = refl
verdict_late Beyond = refl
verdict_late Outside = refl
verdict_late Miscompared = refl

answer_late : (t : Option Answer) (v : Verdict) → Late t → is_refusal (answer_in (told_by t v)) ≡ false
unfolding answer_in told_by weighed number_of
answer_late None v u = refl
answer_late (Some n) v u = cases (λ (a : Answer). is_refusal a ≡ false) (eqb (number_of n) 0) (verdict_late v) u

-- a call that is not refused answers none of 1 to 7 and 14
pub accepted_late : (g : Geometry) (v : Request) (x : Secret) (s : State) → eqb (number_of (refusal_of g (length s.memory.array) v)) 0 ≡ true
    → is_refusal (call_out g v x s).answer ≡ false
unfolding call_out out_from ran start_open first_course
accepted_late g v x s e =
    answer_late (ran g v x s).0.course.stage (ran g v x s).1.holding.verdict
    (run_late (bound g v.asked) g v (start_open g (length s.memory.array) v s.registers) (start_closed x s.memory)
    (subst (λ (b : Bool). Late (cond b None (Some (refusal_of g (length s.memory.array) v)))) (sym e) tt))

-- ---- any call or event

call_untouched : (g : Geometry) (v : Request) (x : Secret) (s : State) → is_refusal (call_out g v x s).answer ≡ true
    → Untouched x.lent s (call_out g v x s) (call_next g v x s)
call_untouched g v x s h = go (eqb (number_of (refusal_of g (length s.memory.array) v)) 0) refl
  where
    go : (b : Bool) → eqb (number_of (refusal_of g (length s.memory.array) v)) 0 ≡ b → Untouched x.lent s (call_out g v x s) (call_next g v x s)
    go true e = never (sym (accepted_late g v x s e) ∙ h)
    go false e =
        let r = refused-call g v x s e in
        record { out = r.out ∙ ap (λ (a : Answer). refused a x.lent) (sym (ap (λ (o : Out). o.answer) r.out)); next = r.next }

-- one frame, sent or refused
pick_untouched : (b : Bool) (lent : List ℕ) (s t : State) (x : Out) (a : Answer) → is_refusal x.answer ≡ false
    → is_refusal (cond b x (refused a lent)).answer ≡ true → Untouched lent s (cond b x (refused a lent)) (cond b t s)
pick_untouched true lent s t x a e h = never (sym e ∙ h)
pick_untouched false lent s t x a e h = record { out = refl; next = refl }

raw_late : (b : Bool) → is_refusal (cond b Answers.Cut Answers.Done) ≡ false
unfolding number_of
raw_late true = refl
raw_late false = refl

-- an event, by whether it is refused
pick_met : (b : Bool) (lent reply : List ℕ) (s t : State) (a : Answer) → is_refusal (cond b (left Answers.Done t reply) (left a s lent)).answer ≡ true
    → Untouched lent s (met (cond b (left Answers.Done t reply) (left a s lent))) (cond b (left Answers.Done t reply) (left a s lent)).state
unfolding number_of
pick_met true lent reply s t a h = never h
pick_met false lent reply s t a h = record { out = refl; next = refl }

at_untouched : (p : Option Geometry) (o : Op) (s : State) → is_refusal (out_at p o s).answer ≡ true → Untouched (lent_to o) s (out_at p o s) (next_at p o s)
unfolding out_at next_at lent_to call_by raw_by called_by raw_left raw_out raw_next raw_sent sent_by ended_by pin_outcome cut_by number_of
at_untouched (Some g) (call a detail script payload junk log lent) s h = call_untouched g (asks g a detail script payload junk log lent) (secret payload detail junk lent) s h
at_untouched (Some g) (raw frame script junk log reply) s h =
    pick_untouched (eqb (number_of (raw_refusal g (length s.memory.array) frame (length reply) (length log) script (length junk))) 0) reply s _ _ _ (raw_late (eqb (scripted script 0) 2)) h
at_untouched (Some g) (straight frame reply) s h = pick_met (framed (length frame) (length reply)) reply _ s _ Answers.Frame h
at_untouched (Some g) (pin high) s h = never h
at_untouched (Some g) busy_end s h = never h
at_untouched (Some g) (cut junk) s h = pick_met (cut_fits g (length s.memory.array) (length junk)) [] [] s _ Answers.Script h
at_untouched None (call a detail script payload junk log lent) s h = record { out = refl; next = refl }
at_untouched None (raw frame script junk log reply) s h = record { out = refl; next = refl }
at_untouched None (straight frame reply) s h = record { out = refl; next = refl }
at_untouched None (pin high) s h = never h
at_untouched None busy_end s h = record { out = refl; next = refl }
at_untouched None (cut junk) s h = record { out = refl; next = refl }

-- DEMAND 1: 1 to 7 and 14 send nothing and change nothing
pub refusals : (o : Op) (s : State) → is_refusal (out_of o s).answer ≡ true → Untouched (lent_to o) s (out_of o s) (next_of o s)
refusals o s h =
    subst (λ (x : Out). Untouched (lent_to o) s x (next_of o s)) (sym (out_at_lem o s))
    (subst (Untouched (lent_to o) s (out_at (part_in s) o s)) (sym (next_at_lem o s))
    (at_untouched (part_in s) o s (ap (λ (x : Out). is_refusal x.answer) (sym (out_at_lem o s)) ∙ h)))
