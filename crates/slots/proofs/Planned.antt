-- FRAMES: a call's run on the chip is a machine that drives its plan, so its frames follow the plan in any state and under any script.
-- Assumes nothing.
use Rattle.std.specs.Prelude.{None, Option, Some}
use Prim.Native.Nat.{ℕ, zero, suc, ◌+◌}
use native.Mathlib.Omega.{arith}
use mathlib.Core.Path.{◌≡◌, refl, sym, ap, subst, ◌∙◌}
use mathlib.Core.Bool.{Bool, true, false, cond}
use mathlib.Core.List.{List, [], ◌∷◌, ◌++◌, append_assoc, append-nil}
use mathlib.Core.Logic.{inl}
use lib.ListN.{length}
use lib.Dec.{eqb}
use Rattle.geometry.specs.declared.Geometry.{Geometry}
use Rattle.state.specs.declared.Answer.{Answer}
use Rattle.state.specs.declared.Answer.TheVariants as Answers
use Rattle.state.specs.Answers.{number_of}
use Rattle.slots.specs.declared.Course.{Course}
use Rattle.slots.specs.declared.Step.{Step}
use Rattle.state.specs.Memory.{State}
use Rattle.slots.specs.Plans.{Asked, plan_of, sector_for, bound, step_at, is_wait}
use Rattle.slots.specs.Driver.{Holding, heard, ended, course_by, taken_by, step_of, is_ended, weighed, told_by}
use Rattle.slots.specs.Calls.{Request, Secret, Open, Closed, scripted, sends, leaves, replies, hears, outline, open_after, closed_after, step_open, step_closed, run, first_course, refusal_of, start_open, start_closed, ran, out_from, answer_in, answer_at, call_out}
use Rattle.slots.specs.declared.Step.TheVariants.{Wait, Protection, Lockdown, Read, Load, Send, End}
use Rattle.slots.specs.Exchanges as P
use Rattle.slots.specs.Exchanges.{Exchange, exchanges_of, exchanges, outlines, Turn, goes, stops, Polls, Result, finished, stopped, answer_for, Follows, done, waited, halted, cut, listed, shut, free, plain, AsPlanned}
use Rattle.slots.proofs.Places.{never, second, every, rest-zero}
use Rattle.slots.proofs.Accepted.{run-ended, step-ended, picked}
use Rattle.slots.proofs.Bound.{begin_ok}
use Rattle.slots.proofs.Refused.{weighed_other}
use Rattle.slots.proofs.Driven.{other, Machine, run_on, exchanges_on, Ends, run_led, Late, follows_late}

-- ---- the call on the chip

module _ (g : Geometry) (v : Request) where
  pub ended-none : (n : ℕ) (p : Open) (q : Closed) → is_ended p.course.stage ≡ true → exchanges_of n g v p q ≡ []
  unfolding exchanges_of
  ended-none zero p q e = refl
  ended-none (suc n) p q e = picked (is_ended p.course.stage) [] _ e

  module _ (n : ℕ) (p : Open) (q : Closed) (live : is_ended p.course.stage ≡ false) where
    abbrev pub c : Course
    c = p.course

    abbrev pub e : Exchange
    e = record { frame = sends g v p q; reply = replies g v p q; byte = scripted v.script p.frames }

    abbrev pub p₁ : Open
    p₁ = step_open g v p q

    abbrev pub q₁ : Closed
    q₁ = step_closed g v p q

    abbrev pub next : Open
    next = open_after g v p (outline (sends g v p q)) (leaves g v p q) (hears g v p q)

    pub open_is : p₁ ≡ next
    unfolding step_open
    open_is = other (is_ended p.course.stage) p next live

    -- the first exchange, then the others
    pub first : exchanges_of (suc n) g v p q ≡ e ∷ exchanges_of n g v p₁ q₁
    unfolding exchanges_of
    first = other (is_ended p.course.stage) [] (e ∷ exchanges_of n g v p₁ q₁) live

    pub polls_is : p₁.polls ≡ p.polls + cond (is_wait (step_of g v.asked c)) 1 0
    unfolding open_after
    polls_is = ap (λ (o : Open). o.polls) open_is

    pub data_is : q₁.holding ≡ taken_by (step_of g v.asked c) g v.asked.kind q.holding e.reply
    unfolding step_closed closed_after
    data_is = ap (λ (z : Closed). z.holding) (other (is_ended p.course.stage) q _ live)

    pub cut_is : eqb e.byte 2 ≡ true → p₁.course ≡ ended Answers.Cut c
    unfolding open_after
    cut_is b = ap (λ (o : Open). o.course) open_is ∙ picked (eqb e.byte 2) (ended Answers.Cut c) _ b

    pub after_is : eqb e.byte 2 ≡ false
        → p₁.course ≡ course_by (step_of g v.asked c) (step_at (plan_of g v.asked) (suc c.place)) v.asked.limit c
        (heard g (step_of g v.asked c) (sector_for g v.asked) e.reply)
    unfolding open_after
    after_is b = ap (λ (o : Open). o.course) open_is ∙ other (eqb e.byte 2) (ended Answers.Cut c) _ b

  abbrev pub on_chip : Machine g v.asked
  on_chip =
      record {
        State = Open × Closed;
        course = λ s. s.0.course;
        holding = λ s. s.1.holding;
        polls = λ s. s.0.polls;
        exchange = λ s. record { frame = sends g v s.0 s.1; reply = replies g v s.0 s.1; byte = scripted v.script s.0.frames };
        step = λ s. (step_open g v s.0 s.1, step_closed g v s.0 s.1);
        sent = λ s. refl;
        stands = λ s e. let z = step-ended g v s.0 s.1 e in λ i. (z.0 i, z.1 i);
        counts = λ s e. polls_is 0 s.0 s.1 e;
        takes = λ s e. data_is 0 s.0 s.1 e;
        cuts = λ s e. cut_is 0 s.0 s.1 e;
        goes = λ s e. after_is 0 s.0 s.1 e;
      }

  run_is : (n : ℕ) (p : Open) (q : Closed) → run_on on_chip n (p, q) ≡ run n g v p q
  unfolding run_on run
  run_is zero p q = refl
  run_is (suc n) p q = run_is n (step_open g v p q) (step_closed g v p q)

  exchanges_is : (n : ℕ) (p : Open) (q : Closed) → exchanges_on on_chip n (p, q) ≡ exchanges_of n g v p q
  unfolding exchanges_on exchanges_of
  exchanges_is zero p q = refl
  exchanges_is (suc n) p q =
      ap (λ (es : List Exchange). cond (is_ended p.course.stage) [] (record { frame = sends g v p q; reply = replies g v p q; byte = scripted v.script p.frames } ∷ es))
      (exchanges_is n (step_open g v p q) (step_closed g v p q))

-- ---- the log

pub record Logged (p o : Open) (es : List Exchange) : Type 0 where
  pub lines : o.lines ≡ p.lines ++ outlines es
  pub frames : o.frames ≡ p.frames + length es

pub run_logged : (n : ℕ) (g : Geometry) (v : Request) (p : Open) (q : Closed) → Logged p (run n g v p q).0 (exchanges_of n g v p q)
unfolding run exchanges_of outlines open_after
run_logged zero g v p q = record { lines = sym (append-nil p.lines); frames = omega arith }
run_logged (suc n) g v p q = go (is_ended p.course.stage) refl (run_logged n g v (step_open g v p q) (step_closed g v p q))
  where
    count : (a b : ℕ) → a + 1 + b ≡ a + suc b
    count a b = omega arith

    go : (b : Bool) → is_ended p.course.stage ≡ b
        → Logged (step_open g v p q) (run (suc n) g v p q).0 (exchanges_of n g v (step_open g v p q) (step_closed g v p q))
        → Logged p (run (suc n) g v p q).0 (exchanges_of (suc n) g v p q)
    go true e r =
        subst (Logged p (run (suc n) g v p q).0) (sym (ended-none g v (suc n) p q e))
        (subst (λ (o : Open). Logged p o []) (sym (run-ended (suc n) g v p q e).0) (record { lines = sym (append-nil p.lines); frames = omega arith }))
    go false e r = subst (Logged p (run (suc n) g v p q).0) (sym (first g v n p q e)) (said (open_is g v n p q e))
      where
        rest : List Exchange
        rest = exchanges_of n g v (step_open g v p q) (step_closed g v p q)

        said : step_open g v p q ≡ next g v n p q e
            → Logged p (run (suc n) g v p q).0 (record { frame = sends g v p q; reply = replies g v p q; byte = scripted v.script p.frames } ∷ exchanges_of n g v (step_open g v p q) (step_closed g v p q))
        said s =
            record {
              lines = r.lines ∙ ap (λ (z : Open). z.lines ++ outlines (exchanges_of n g v (step_open g v p q) (step_closed g v p q))) s
                  ∙ append_assoc p.lines (outline (sends g v p q)) (outlines (exchanges_of n g v (step_open g v p q) (step_closed g v p q)));
              frames = r.frames ∙ ap (λ (z : Open). z.frames + length (exchanges_of n g v (step_open g v p q) (step_closed g v p q))) s
                  ∙ count p.frames (length (exchanges_of n g v (step_open g v p q) (step_closed g v p q)));
            }

-- ---- a call

-- how an accepted call comes to its end: by its plan, and the run with it
pub record Came (g : Geometry) (v : Request) (x : Secret) (s : State) : Type 0 where
  pub planned : AsPlanned g v (start_closed x s.memory).holding (exchanges g v x s) (call_out g v x s)
  pub ends : Ends (on_chip g v) planned.result (ran g v x s)

pub comes : (g : Geometry) (v : Request) (x : Secret) (s : State) → eqb (number_of (refusal_of g (length s.memory.array) v)) 0 ≡ true → Came g v x s
unfolding exchanges call_out out_from ran start_open answer_in told_by number_of weighed first_course is_ended
comes g v x s ok =
    let p = start_open g (length s.memory.array) v s.registers in
    let q = start_closed x s.memory in
    let n = bound g v.asked in
    let go : is_ended p.course.stage ≡ false = ap (λ (b : Bool). is_ended (cond b None (Some (refusal_of g (length s.memory.array) v)))) ok in
    let z = run_led g v.asked (on_chip g v) n (p, q) (begin_ok g (length s.memory.array) v ok) (inl go) in
    let l = run_logged n g v p q in
    let r = run_is g v n p q in
    let e : Ends (on_chip g v) z.result (run n g v p q) = subst (Ends (on_chip g v) z.result) r z.ends in
    record {
      planned =
          record {
            result = z.result;
            follows =
                subst (λ (k : ℕ). Follows g v.asked v.asked.limit (plan_of g v.asked) false false q.holding (exchanges_of n g v p q) k z.result)
                (sym (sym (ap (λ (o : Open × Closed). o.0.polls) r) ∙ z.counted ∙ omega arith))
                (subst (λ (es : List Exchange). Follows g v.asked v.asked.limit (plan_of g v.asked) false false q.holding es z.polls z.result) (exchanges_is g v n p q)
                (subst (λ (xs : List Step). Follows g v.asked v.asked.limit xs false false q.holding (exchanges_on (on_chip g v) n (p, q)) z.polls z.result) (rest-zero (plan_of g v.asked)) z.follows));
            frames = l.frames ∙ omega arith;
            lines = l.lines;
            answer = answered z.result e (follows_late z.follows);
          };
      ends = e;
    }
  where
    answered : (t : Result) → Ends (on_chip g v) t (ran g v x s) → Late t → answer_at (ran g v x s) ≡ answer_for t
    answered (finished h) u l = λ i. answer_in (told_by (u.0 i) (u.1 i).verdict)
    answered (stopped n) u l = ap (λ (t : Option Answer). answer_in (told_by t (ran g v x s).1.holding.verdict)) u ∙ weighed_other n (ran g v x s).1.holding.verdict l

-- FRAMES: an accepted call's frames, in any state and under any script, follow its plan, and so do polls, log and answer
pub frames_as_planned : (g : Geometry) (v : Request) (x : Secret) (s : State) → eqb (number_of (refusal_of g (length s.memory.array) v)) 0 ≡ true
    → AsPlanned g v (start_closed x s.memory).holding (exchanges g v x s) (call_out g v x s)
frames_as_planned g v x s ok = (comes g v x s ok).planned

-- ---- where a call that was stopped was stopped

-- without a test of the seal: not with 10
pub data Halts : Answer → Type 0 where
  device : Halts Answers.Device
  busy : Halts Answers.Busy
  lost : Halts Answers.Cut

abbrev TurnHalts : Turn → Type 0
TurnHalts (goes e) = Unit {0}
TurnHalts (stops n) = Halts n

polls_halts : {b : ℕ} {es : List Exchange} {t : Turn} → Polls b es t → TurnHalts t
polls_halts (P.lost f c) = lost
polls_halts (P.foreign f d) = device
polls_halts (P.ready f d r) = tt
polls_halts (P.busy f l) = busy
polls_halts (P.again f l w) = polls_halts w

-- a step after which 10 is not tested
unfoldable pub is_free : Step → Bool
is_free (Wait c) = true
is_free Protection = true
is_free Lockdown = false
is_free (Read p) = true
is_free (Load p) = true
is_free (Send c p) = true
is_free End = true

abbrev pub ResultHalts : Result → Type 0
ResultHalts (finished h) = Unit {0}
ResultHalts (stopped n) = Halts n

pub free_halts : {g : Geometry} {a : Asked} {b k : ℕ} {xs : List Step} {l d : Bool} {h : Holding} {es : List Exchange} {t : Result}
    → Follows g a b xs l d h es k t → every is_free xs ≡ true → ResultHalts t
unfolding every is_free
free_halts done e = tt
free_halts (waited w u m) e = free_halts u e
free_halts (halted w) e = polls_halts w
free_halts (cut w f c) e = lost
free_halts (listed f u) e = free_halts u e
free_halts (shut f z) e = never e
free_halts (free f z u) e = never e
free_halts (plain {x = x} {xs = xs} y f u) e = free_halts u (second (is_free x) (every is_free xs) e)
