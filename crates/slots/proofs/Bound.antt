-- A call ends within its bound: from every place on at most the plan's rest is sent, each wait up to its polls, and each frame makes
-- that less.
-- Assumes nothing.
use Rattle.std.specs.Prelude.{None, Option, Some}
use Prim.Native.Nat.{ℕ, zero, suc, ◌+◌, ◌-◌, ◌<◌, ◌≤◌}
use mathlib.Core.Path.{◌≡◌, refl, sym, ap, subst, ◌∙◌}
use mathlib.Core.Bool.{Bool, true, false, cond}
use mathlib.Core.List.{List, [], ◌∷◌}
use native.Mathlib.Omega.{arith}
use lib.ListN.{length}
use lib.Dec.{eqb}
use Rattle.geometry.specs.declared.Geometry.{Geometry}
use Rattle.state.specs.declared.Answer.{Answer}
use Rattle.state.specs.declared.Answer.TheVariants as Answers
use Rattle.state.specs.Answers.{number_of}
use Rattle.slots.specs.declared.Course.{Course}
use Rattle.slots.specs.declared.Step.{Step}
use Rattle.slots.specs.Plans.{plan_of, step_at, is_end, is_wait, frames_most, bound, stated}
use Rattle.slots.specs.Driver.{Heard, ended, fewer, course_by, step_of, is_ended}
use Rattle.slots.specs.Refusals.{raw_refusal}
use Rattle.slots.specs.Calls.{Out, Request, Secret, Open, Closed, refused, scripted, open_after, step_open, step_closed, run, first_course, refusal_of, start_open, start_closed, ran, out_from, call_out, raw_sent, raw_out}
use Rattle.state.specs.Memory.{State}
use Rattle.state.specs.Outcomes.{part_in, sent_by, ended_by, pin_outcome, cut_by}
use Rattle.slots.specs.Lists.{Op, call, raw, straight, pin, busy_end, cut, asks, secret, call_by, raw_by, out_of, bound_of}
use Rattle.slots.proofs.Parts.{cases, out_at, out_at_lem}
use Rattle.slots.proofs.Places.{never, known, rest_at, rest-step, rest-zero, onward, course_cases, onward_some}
use Rattle.slots.proofs.Counts.{bounds}
use Rattle.slots.proofs.Accepted.{first_some, run-ended, accepted}

-- ---- how many frames are left

-- of a step, with so many polls
abbrev most : ℕ → Step → ℕ
most n x = cond (is_wait x) n 1

-- at the first of these steps, with so many polls left
abbrev pub cost_of : ℕ → ℕ → List Step → ℕ
cost_of n left [] = 0
cost_of n left (x ∷ xs) = most left x + frames_most n xs

cost_whole : (n : ℕ) (xs : List Step) → cost_of n n xs ≡ frames_most n xs
unfolding frames_most
cost_whole n [] = refl
cost_whole n (x ∷ xs) = refl

-- a course in order: at most n frames are left
pub record Ok (plan : List Step) (limit n : ℕ) (c : Course) : Type 0 where
  pub wait : 1 ≤ limit
  pub left : 1 ≤ c.left
  pub step : is_ended c.stage ≡ false → is_end (step_at plan c.place) ≡ false
  pub few : is_ended c.stage ≡ false → cost_of limit c.left (rest_at plan c.place) ≤ n

most-some : (b : Bool) (l : ℕ) → 1 ≤ l → 1 ≤ cond b l 1
most-some true l h = h
most-some false l h = omega arith

-- ---- one reply

pub stop_ok : {plan : List Step} {limit n m : ℕ} (a : Answer) (c : Course) → Ok plan limit m c → Ok plan limit n (ended a c)
unfolding is_ended
stop_ok a c w = record { wait = w.wait; left = w.left; step = λ e. never (sym e); few = λ e. never (sym e) }

module _ (plan : List Step) (limit n : ℕ) (c : Course) (w : Ok plan limit (suc n) c) (e : is_ended c.stage ≡ false) where
  split : most c.left (step_at plan c.place) + frames_most limit (rest_at plan (suc c.place)) ≤ suc n
  split = subst (λ (xs : List Step). cost_of limit c.left xs ≤ suc n) (rest-step plan c.place (w.step e)) (w.few e)

  -- the next step
  onward_ok : (l d : Bool) → Ok plan limit n (onward (step_at plan (suc c.place)) limit l d c)
  onward_ok l d =
      record {
        wait = w.wait;
        left = w.wait;
        step = onward_some (step_at plan (suc c.place));
        few = λ _. subst (λ (z : ℕ). z ≤ n) (sym (cost_whole limit (rest_at plan (suc c.place))))
            (omega (arith, split, most-some (is_wait (step_at plan c.place)) c.left w.left));
      }

  -- once more
  again_ok : is_wait (step_at plan c.place) ≡ true → 1 < c.left → Ok plan limit n (fewer c)
  again_ok b l =
      let s : c.left + frames_most limit (rest_at plan (suc c.place)) ≤ suc n =
      subst (λ (z : Bool). cond z c.left 1 + frames_most limit (rest_at plan (suc c.place)) ≤ suc n) b split in
      let t : c.left - 1 + frames_most limit (rest_at plan (suc c.place)) ≤ n = omega arith in
      record {
        wait = w.wait;
        left = omega arith;
        step = w.step;
        few = λ _. subst (λ (xs : List Step). cost_of limit (c.left - 1) xs ≤ n) (sym (rest-step plan c.place (w.step e)))
            (subst (λ (z : Bool). cond z (c.left - 1) 1 + frames_most limit (rest_at plan (suc c.place)) ≤ n) (sym b) t);
      }

  pub after_ok : (o : Heard) → Ok plan limit n (course_by (step_at plan c.place) (step_at plan (suc c.place)) limit c o)
  after_ok o =
      course_cases (Ok plan limit n) (step_at plan c.place) (step_at plan (suc c.place)) limit c o (w.step e) (λ a _. stop_ok a c w) again_ok onward_ok

-- a course that has not ended has a frame left
pub some_left : {plan : List Step} {limit n : ℕ} (c : Course) → Ok plan limit n c → is_ended c.stage ≡ false → 1 ≤ n
some_left {plan} {limit} {n} c w e =
    let s : most c.left (step_at plan c.place) + frames_most limit (rest_at plan (suc c.place)) ≤ n =
    subst (λ (xs : List Step). cost_of limit c.left xs ≤ n) (rest-step plan c.place (w.step e)) (w.few e) in
    omega (arith, s, most-some (is_wait (step_at plan c.place)) c.left w.left)

-- where a call starts
pub start_ok : (plan : List Step) (limit : ℕ) → is_end (step_at plan 0) ≡ false → 1 ≤ limit → Ok plan limit (frames_most limit plan) (first_course Answers.Done limit)
unfolding first_course number_of
start_ok plan limit s h =
    record {
      wait = h;
      left = h;
      step = λ _. s;
      few = λ _. subst (λ (z : ℕ). z ≤ frames_most limit plan) (sym (ap (cost_of limit limit) (rest-zero plan) ∙ cost_whole limit plan)) (omega arith);
    }

-- ---- a run

pub step_ok : (g : Geometry) (v : Request) (p : Open) (q : Closed) (n : ℕ) → Ok (plan_of g v.asked) v.asked.limit (suc n) p.course
    → Ok (plan_of g v.asked) v.asked.limit n (step_open g v p q).course
unfolding step_open open_after
step_ok g v p q n w =
    known (λ (o : Open). Ok (plan_of g v.asked) v.asked.limit n o.course) (is_ended p.course.stage)
    (λ e. record { wait = w.wait; left = w.left; step = w.step; few = λ h. never (sym h ∙ e) })
    (λ e. cases (Ok (plan_of g v.asked) v.asked.limit n) (eqb (scripted v.script p.frames) 2) (stop_ok Answers.Cut p.course w)
    (after_ok (plan_of g v.asked) v.asked.limit n p.course w e _))

-- with as many steps as frames may be left, the run ends
pub run_ends : (n : ℕ) (g : Geometry) (v : Request) (p : Open) (q : Closed) → Ok (plan_of g v.asked) v.asked.limit n p.course
    → is_ended (run n g v p q).0.course.stage ≡ true
unfolding run
run_ends zero g v p q w = go (is_ended p.course.stage) refl
  where
    go : (b : Bool) → is_ended p.course.stage ≡ b → b ≡ true
    go true e = refl
    go false e = let z : 1 ≤ 0 = some_left p.course w e in absurd (omega arith)
run_ends (suc n) g v p q w = run_ends n g v (step_open g v p q) (step_closed g v p q) (step_ok g v p q n w)

-- a step is a frame at most, and a poll is a frame
record Counted (n : ℕ) (p o : Open) : Type 0 where
  frames : o.frames ≤ p.frames + n
  polls : o.polls + p.frames ≤ p.polls + o.frames

one : (b : Bool) → cond b 1 0 ≤ 1
one true = omega arith
one false = omega arith

step-counted : (g : Geometry) (v : Request) (p : Open) (q : Closed) → Counted 1 p (step_open g v p q)
unfolding step_open open_after
step-counted g v p q =
    cases (Counted 1 p) (is_ended p.course.stage) (record { frames = omega arith; polls = omega arith })
    (record { frames = omega arith; polls = omega (arith, one (is_wait (step_of g v.asked p.course))) })

run-counted : (n : ℕ) (g : Geometry) (v : Request) (p : Open) (q : Closed) → Counted n p (run n g v p q).0
unfolding run
run-counted zero g v p q = record { frames = omega arith; polls = omega arith }
run-counted (suc n) g v p q =
    let s = step-counted g v p q in
    let r = run-counted n g v (step_open g v p q) (step_closed g v p q) in
    record { frames = omega (arith, s.frames, r.frames); polls = omega (arith, s.polls, r.polls) }

-- ---- a call

pub start_at : (g : Geometry) (array : ℕ) (v : Request) → eqb (number_of (refusal_of g array v)) 0 ≡ true
    → first_course Answers.Done v.asked.limit ≡ first_course (refusal_of g array v) v.asked.limit
unfolding first_course number_of
start_at g array v e = λ i.
    record { place = 0; left = v.asked.limit; stage = cond (sym e i) None (Some (refusal_of g array v)); listed = false; guarded = false }

pub start-ended : (g : Geometry) (array : ℕ) (v : Request) → eqb (number_of (refusal_of g array v)) 0 ≡ false
    → is_ended (first_course (refusal_of g array v) v.asked.limit).stage ≡ true
unfolding first_course is_ended
start-ended g array v e = ap (λ (b : Bool). is_ended (cond b None (Some (refusal_of g array v)))) e

-- an accepted call's first course is in order
pub begin_ok : (g : Geometry) (array : ℕ) (v : Request) → eqb (number_of (refusal_of g array v)) 0 ≡ true
    → Ok (plan_of g v.asked) v.asked.limit (bound g v.asked) (first_course (refusal_of g array v) v.asked.limit)
begin_ok g array v e =
    subst (Ok (plan_of g v.asked) v.asked.limit (bound g v.asked)) (start_at g array v e)
    (start_ok (plan_of g v.asked) v.asked.limit (first_some v.asked.kind g v.asked.slot) (accepted g array v e).asked.some)

-- every call ends: an accepted one within the bound, a refused one before its first frame
pub call_ends : (g : Geometry) (v : Request) (x : Secret) (s : State) → is_ended (ran g v x s).0.course.stage ≡ true
unfolding ran start_open
call_ends g v x s = go (eqb (number_of (refusal_of g (length s.memory.array) v)) 0) refl
  where
    p : Open
    p = start_open g (length s.memory.array) v s.registers

    q : Closed
    q = start_closed x s.memory

    go : (b : Bool) → eqb (number_of (refusal_of g (length s.memory.array) v)) 0 ≡ b → is_ended (ran g v x s).0.course.stage ≡ true
    go true e = run_ends (bound g v.asked) g v p q (begin_ok g (length s.memory.array) v e)
    go false e =
        let z = start-ended g (length s.memory.array) v e in
        ap (λ (o : Open). is_ended o.course.stage) (run-ended (bound g v.asked) g v p q z).0 ∙ z

-- ---- every call and event

pub record Within (n : ℕ) (o : Out) : Type 0 where
  pub frames : o.frames ≤ n
  pub polls : o.polls ≤ o.frames

call-within : (g : Geometry) (v : Request) (x : Secret) (s : State) → Within (bound g v.asked) (call_out g v x s)
unfolding call_out out_from ran start_open
call-within g v x s =
    let c = run-counted (bound g v.asked) g v (start_open g (length s.memory.array) v s.registers) (start_closed x s.memory) in
    record { frames = omega (arith, c.frames); polls = omega (arith, c.polls) }

none : (n : ℕ) (a : Answer) (lent : List ℕ) → Within n (refused a lent)
none n a lent = record { frames = omega arith; polls = omega arith }

raw-within : (g : Geometry) (f script : List ℕ) (log junk : ℕ) (reply : List ℕ) (s : State) → Within 1 (raw_out g f script log junk reply s)
unfolding raw_out raw_sent
raw-within g f script log junk reply s =
    cases (Within 1) (eqb (number_of (raw_refusal g (length s.memory.array) f (length reply) log script junk)) 0)
    (record { frames = omega arith; polls = omega arith }) (none 1 (raw_refusal g (length s.memory.array) f (length reply) log script junk) reply)

-- any call or event, on any chip, sends at most the frames that are stated; polls are among them
at_within : (p : Option Geometry) (o : Op) (s : State) → Within (bound_of o) (out_at p o s)
unfolding out_at bound_of call_by raw_by
at_within (Some g) (call a detail script payload junk log lent) s =
    subst (λ (n : ℕ). Within n (call_out g (asks g a detail script payload junk log lent) (secret payload detail junk lent) s)) (bounds a.kind g a.slot a.limit)
    (call-within g (asks g a detail script payload junk log lent) (secret payload detail junk lent) s)
at_within None (call a detail script payload junk log lent) s = none (stated a.kind a.limit) Answers.Part lent
at_within (Some g) (raw frame script junk log reply) s = raw-within g frame script (length log) (length junk) reply s
at_within None (raw frame script junk log reply) s = none 1 Answers.Part reply
at_within p (straight frame reply) s = none 0 (sent_by p s frame reply).answer (sent_by p s frame reply).reply
at_within p (pin high) s = none 0 (pin_outcome high s).answer (pin_outcome high s).reply
at_within p busy_end s = none 0 (ended_by p s).answer (ended_by p s).reply
at_within p (cut junk) s = none 0 (cut_by p junk s).answer (cut_by p junk s).reply

pub within-bound : (o : Op) (s : State) → Within (bound_of o) (out_of o s)
within-bound o s = subst (Within (bound_of o)) (sym (out_at_lem o s)) (at_within (part_in s) o s)
