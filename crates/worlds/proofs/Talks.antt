-- THE DRIVER IN FRONT OF ANY CHIP: control goes by what is heard alone, and a frame shows nothing of the data, so two worlds that agree in what is heard
-- see the same outlines; and whatever comes back, the frames follow the plan to an end within the bound.
-- Assumes nothing.
use Rattle.std.specs.Prelude.{Some, None, Option}
use Prim.Native.Nat.{ℕ, zero, suc, ◌+◌, ◌/◌, ◌≤◌}
use native.Mathlib.Omega.{arith}
use mathlib.Core.Path.{◌≡◌, refl, sym, ap, subst, ◌∙◌}
use mathlib.Core.Bool.{Bool, true, false, cond, not, ◌&&◌}
use mathlib.Core.List.{List, [], ◌∷◌, ◌++◌}
use mathlib.Core.Logic.{inl}
use lib.Dec.{eqb, leb}
use Rattle.geometry.specs.declared.Geometry.{Geometry}
use Rattle.state.specs.declared.Answer.{Answer}
use Rattle.state.specs.declared.Answer.TheVariants as Answers
use Rattle.state.specs.Answers.{number_of}
use Rattle.slots.specs.declared.Course.{Course}
use Rattle.slots.specs.declared.Verdict.{Verdict}
use Rattle.slots.specs.declared.Verdict.TheVariants.{Good}
use Rattle.slots.specs.Plans.{Asked, plan_of, sector_for, bound, is_wait}
use Rattle.slots.specs.Driver.{Holding, shape_of, loaded, frame_of, heard, after, taken_by, step_of, is_ended, verdict_answer, weighed, told_by}
use Rattle.slots.specs.Refusals.{early_refusal}
use Rattle.slots.specs.Calls.{outline, first_course}
use Rattle.slots.specs.Exchanges.{Exchange, Result, finished, stopped, answer_for, Follows, miscompared, MiscompareExactly}
use Rattle.worlds.specs.Talks.{Talk, opened, hearing, talked, talk, exchanges_in, HeardAlike, SameTalk}
use Rattle.slots.specs.declared.Step.{Step}
use Rattle.slots.proofs.Places.{never, rest-zero}
use Rattle.slots.proofs.Accepted.{first_some, picked, early}
use Rattle.slots.proofs.Bound.{Ok, start_ok, after_ok, some_left}
use Rattle.slots.proofs.Blind.{outline-same}
use Rattle.slots.proofs.TwoRuns.{Agree, weighed_agree}
use Rattle.slots.proofs.Driven.{other, Machine, Ends, Late, Led, run_on, exchanges_on, follows_late, run_led}
use Rattle.slots.proofs.Parts.{cases}
use Rattle.slots.proofs.Miscompare.{miscompares_exactly}
use Rattle.slots.proofs.Never.{No16, by_number}
use Rattle.slots.specs.declared.Flaws.{Flaws}

-- ---- two worlds

-- all but the data is the same
record Open (t u : Talk) : Type 0 where
  course : t.course ≡ u.course
  lines : t.lines ≡ u.lines
  frames : t.frames ≡ u.frames
  polls : t.polls ≡ u.polls

module _ (g : Geometry) (a : Asked) where
  talked_open : (replies others : ℕ → List ℕ) (t u : Talk) → Open t u → (is_ended t.course.stage ≡ false → hearing g a replies t ≡ hearing g a others t)
      → Open (talked g a replies t) (talked g a others u)
  unfolding talked
  talked_open replies others t u e h = go (is_ended t.course.stage) refl (sym (ap (λ (c : Course). is_ended c.stage) e.course))
    where
      line : outline (frame_of g a.kind t.holding (step_of g a t.course)) ≡ outline (frame_of g a.kind u.holding (step_of g a u.course))
      line =
          outline-same (shape_of g (step_of g a t.course)) (loaded g a.kind t.holding (step_of g a t.course)) (loaded g a.kind u.holding (step_of g a t.course))
          ∙ ap (λ (c : Course). outline (frame_of g a.kind u.holding (step_of g a c))) e.course

      go : (b : Bool) → is_ended t.course.stage ≡ b → is_ended u.course.stage ≡ is_ended t.course.stage → Open (talked g a replies t) (talked g a others u)
      go true z y =
          subst (λ (x : Talk). Open x (talked g a others u)) (sym (picked (is_ended t.course.stage) t _ z))
          (subst (Open t) (sym (picked (is_ended u.course.stage) u _ (y ∙ z))) e)
      go false z y =
          let w : hearing g a replies t ≡ hearing g a others u = h z ∙ λ i. heard g (step_of g a (e.course i)) (sector_for g a) (others (e.frames i)) in
          subst (λ (x : Talk). Open x (talked g a others u)) (sym (other (is_ended t.course.stage) t _ z))
          (subst (Open (record { course = after g a t.course (hearing g a replies t); holding = taken_by (step_of g a t.course) g a.kind t.holding (replies t.frames); lines = t.lines ++ outline (frame_of g a.kind t.holding (step_of g a t.course)); frames = t.frames + 1; polls = t.polls + cond (is_wait (step_of g a t.course)) 1 0 }))
          (sym (other (is_ended u.course.stage) u _ (y ∙ z)))
          (record {
            course = λ i. after g a (e.course i) (w i);
            lines = λ i. e.lines i ++ line i;
            frames = λ i. e.frames i + 1;
            polls = λ i. e.polls i + cond (is_wait (step_of g a (e.course i))) 1 0;
          }))

  talk_open : (n : ℕ) (replies others : ℕ → List ℕ) (t u : Talk) → Open t u → HeardAlike n g a replies others t → Open (talk n g a replies t) (talk n g a others u)
  unfolding talk
  talk_open zero replies others t u e h = e
  talk_open (suc n) replies others t u e h = talk_open n replies others (talked g a replies t) (talked g a others u) (talked_open replies others t u e h.0) h.1

told_agree : (s : Option Answer) (v w : Verdict) (a b : Answer) → told_by s v ≡ Some a → told_by s w ≡ Some b → Agree a b
unfolding told_by
told_agree None v w a b e f = let z : ◌≡◌ {A = ℕ} 0 1 = cc in absurd (omega arith)
told_agree (Some n) v w a b e f =
    let x : weighed n v ≡ a = cc in
    let y : weighed n w ≡ b = cc in
    subst (λ (z : Answer). Agree z b) x (subst (Agree (weighed n v)) y (weighed_agree n v w))

open_same : (t u : Talk) → Open t u → SameTalk t u
open_same t u e =
    record {
      lines = e.lines;
      frames = e.frames;
      polls = e.polls;
      stage = ap (λ (c : Course). is_ended c.stage) e.course;
      answer = λ a b x y. told_agree t.course.stage t.holding.verdict u.holding.verdict a b x (ap (λ (c : Course). told_by c.stage u.holding.verdict) e.course ∙ y);
    }

-- ANY WORLD: one call in front of two worlds that agree in what is heard, with any two recipes or patches of which 5 is alike
pub any_world : (n : ℕ) (g : Geometry) (a : Asked) (flaws : Flaws) (h k : Holding) (replies others : ℕ → List ℕ)
    → HeardAlike n g a replies others (opened g a flaws h) → SameTalk (talk n g a replies (opened g a flaws h)) (talk n g a others (opened g a flaws k))
unfolding opened
any_world n g a flaws h k replies others w =
    open_same (talk n g a replies (opened g a flaws h)) (talk n g a others (opened g a flaws k))
    (talk_open g a n replies others (opened g a flaws h) (opened g a flaws k) (record { course = refl; lines = refl; frames = refl; polls = refl }) w)

-- ---- any replies

module _ (g : Geometry) (a : Asked) (replies : ℕ → List ℕ) where
  pub stands : (t : Talk) → is_ended t.course.stage ≡ true → talked g a replies t ≡ t
  unfolding talked
  stands t e = picked (is_ended t.course.stage) t _ e

  pub counts : (t : Talk) → is_ended t.course.stage ≡ false → (talked g a replies t).polls ≡ t.polls + cond (is_wait (step_of g a t.course)) 1 0
  unfolding talked
  counts t e = ap (λ (u : Talk). u.polls) (other (is_ended t.course.stage) t _ e)

  pub takes : (t : Talk) → is_ended t.course.stage ≡ false
      → (talked g a replies t).holding ≡ taken_by (step_of g a t.course) g a.kind t.holding (replies t.frames)
  unfolding talked
  takes t e = ap (λ (u : Talk). u.holding) (other (is_ended t.course.stage) t _ e)

  pub goes_on : (t : Talk) → is_ended t.course.stage ≡ false → (talked g a replies t).course ≡ after g a t.course (hearing g a replies t)
  unfolding talked
  goes_on t e = ap (λ (u : Talk). u.course) (other (is_ended t.course.stage) t _ e)

  -- the driver alone drives its plan; nothing cuts it
  abbrev pub alone : Machine g a
  alone =
      record {
        State = Talk;
        course = λ t. t.course;
        holding = λ t. t.holding;
        polls = λ t. t.polls;
        exchange = λ t. record { frame = frame_of g a.kind t.holding (step_of g a t.course); reply = replies t.frames; byte = 1 };
        step = talked g a replies;
        sent = λ t. refl;
        stands = stands;
        counts = counts;
        takes = takes;
        cuts = λ t e z. never z;
        goes = λ t e z. goes_on t e;
      }

  -- whatever comes back, a course in order comes to an end
  pub talk-ends : (n : ℕ) (t : Talk) → Ok (plan_of g a) a.limit n t.course → is_ended (talk n g a replies t).course.stage ≡ true
  unfolding talk
  talk-ends zero t w = go (is_ended t.course.stage) refl
    where
      go : (b : Bool) → is_ended t.course.stage ≡ b → b ≡ true
      go true e = refl
      go false e = let z : 1 ≤ 0 = some_left t.course w e in absurd (omega arith)
  talk-ends (suc n) t w = talk-ends n (talked g a replies t) (go (is_ended t.course.stage) refl)
    where
      go : (b : Bool) → is_ended t.course.stage ≡ b → Ok (plan_of g a) a.limit n (talked g a replies t).course
      go true e = subst (λ (u : Talk). Ok (plan_of g a) a.limit n u.course) (sym (stands t e)) (record { wait = w.wait; left = w.left; step = w.step; few = λ h. never (sym h ∙ e) })
      go false e = subst (Ok (plan_of g a) a.limit n) (sym (goes_on t e)) (after_ok (plan_of g a) a.limit n t.course w e (hearing g a replies t))

-- after the end nothing more comes
pub stays_ended : (g : Geometry) (a : Asked) (replies : ℕ → List ℕ) (n : ℕ) (t : Talk) → is_ended t.course.stage ≡ true → is_ended (talk n g a replies t).course.stage ≡ true
unfolding talk
stays_ended g a replies zero t e = e
stays_ended g a replies (suc n) t e =
    stays_ended g a replies n (talked g a replies t) (ap (λ (u : Talk). is_ended u.course.stage) (stands g a replies t e) ∙ e)

-- how an accepted call starts
accepted-course : (g : Geometry) (a : Asked) (flaws : Flaws) → eqb (number_of (early_refusal g a flaws)) 0 ≡ true
    → first_course Answers.Done a.limit ≡ first_course (early_refusal g a flaws) a.limit
unfolding first_course number_of
accepted-course g a flaws e = λ i.
    record { place = 0; left = a.limit; stage = cond (sym e i) None (Some (early_refusal g a flaws)); listed = false; guarded = false }

module _ (g : Geometry) (a : Asked) (flaws : Flaws) (h : Holding) (replies : ℕ → List ℕ) where
  opened_ok : eqb (number_of (early_refusal g a flaws)) 0 ≡ true → Ok (plan_of g a) a.limit (bound g a) (opened g a flaws h).course
  unfolding opened
  opened_ok e =
      subst (Ok (plan_of g a) a.limit (bound g a)) (accepted-course g a flaws e)
      (start_ok (plan_of g a) a.limit (first_some a.kind g a.slot) (early g a flaws e).some)

  -- a call ends within its bound for every sequence of replies
  pub any_ends : is_ended (talk (bound g a) g a replies (opened g a flaws h)).course.stage ≡ true
  unfolding opened first_course is_ended
  any_ends = go (eqb (number_of (early_refusal g a flaws)) 0) refl
    where
      go : (b : Bool) → eqb (number_of (early_refusal g a flaws)) 0 ≡ b → is_ended (talk (bound g a) g a replies (opened g a flaws h)).course.stage ≡ true
      go true e = talk-ends g a replies (bound g a) (opened g a flaws h) (opened_ok e)
      go false e = stays_ended g a replies (bound g a) (opened g a flaws h) (ap (λ (b : Bool). is_ended (cond b None (Some (early_refusal g a flaws)))) e)

  -- ANY REPLIES: its frames follow its plan
  pub any_replies : eqb (number_of (early_refusal g a flaws)) 0 ≡ true → Led g a (alone g a replies) (bound g a) (opened g a flaws h) (opened g a flaws h).course h
  unfolding opened first_course is_ended
  any_replies e =
      run_led g a (alone g a replies) (bound g a) (opened g a flaws h) (opened_ok e) (inl (ap (λ (b : Bool). is_ended (cond b None (Some (early_refusal g a flaws)))) e))

-- ---- 16

module _ (g : Geometry) (a : Asked) (replies : ℕ → List ℕ) where
  -- the machine's steps and exchanges are the talk's
  run-talk : (n : ℕ) (t : Talk) → (run_on (alone g a replies) n t ≡ talk n g a replies t) × (exchanges_on (alone g a replies) n t ≡ exchanges_in n g a replies t)
  unfolding run_on exchanges_on talk exchanges_in
  run-talk zero t = (refl, refl)
  run-talk (suc n) t =
      let r = run-talk n (talked g a replies t) in
      (r.0, λ i. cond (is_ended t.course.stage) [] (record { frame = frame_of g a.kind t.holding (step_of g a t.course); reply = replies t.frames; byte = 1 } ∷ r.1 i))

  -- after the end there are none
  ended-none : (n : ℕ) (t : Talk) → is_ended t.course.stage ≡ true → (talk n g a replies t ≡ t) × (exchanges_in n g a replies t ≡ [])
  unfolding talk exchanges_in
  ended-none zero t e = (refl, refl)
  ended-none (suc n) t e = (ap (talk n g a replies) (stands g a replies t e) ∙ (ended-none n t e).0, picked (is_ended t.course.stage) [] _ e)

early_other : (g : Geometry) (a : Asked) (flaws : Flaws) → No16 (early_refusal g a flaws)
unfolding early_refusal number_of
early_other g a flaws =
    cases No16 (leb (g.pages / 8) a.slot) (by_number Answers.Slot refl)
    (cases No16 (not (leb 1 a.limit && leb a.limit 1000)) (by_number Answers.Limit refl)
    (cases No16 flaws.size (by_number Answers.Size refl) (cases No16 flaws.dates (by_number Answers.Dates refl) (by_number Answers.Done refl))))

-- EXACTLY 16: for any sequence of replies, the answer is 16 exactly if none of 8 to 13 is due and a wait after a 60 ended on a status with bit 6 set
pub any_miscompares : (g : Geometry) (a : Asked) (flaws : Flaws) (h : Holding) (replies : ℕ → List ℕ) → h.verdict ≡ Good → (x : Answer)
    → told_by (talk (bound g a) g a replies (opened g a flaws h)).course.stage (talk (bound g a) g a replies (opened g a flaws h)).holding.verdict ≡ Some x
    → MiscompareExactly (exchanges_in (bound g a) g a replies (opened g a flaws h)) x
unfolding told_by opened first_course is_ended weighed number_of miscompared
any_miscompares g a flaws h replies good x e = go (eqb (number_of (early_refusal g a flaws)) 0) refl
  where
    t : Talk
    t = opened g a flaws h

    z : Talk
    z = talk (bound g a) g a replies t

    told_of_lem : (y : Answer) → told_by z.course.stage z.holding.verdict ≡ Some y → y ≡ x
    told_of_lem y f = let w : Some y ≡ Some x = sym f ∙ e in cc

    finish : (r : Result) → Ends (alone g a replies) r z → Late r → answer_for r ≡ x
    finish (finished k) w l = told_of_lem (verdict_answer k.verdict) (λ i. told_by (w.0 i) (w.1 i).verdict)
    finish (stopped n) w l = told_of_lem n (ap (λ (s : Option Answer). told_by s z.holding.verdict) w ∙ ap (λ (b : Bool). Some (cond b (verdict_answer z.holding.verdict) n)) l)

    go : (b : Bool) → eqb (number_of (early_refusal g a flaws)) 0 ≡ b → MiscompareExactly (exchanges_in (bound g a) g a replies t) x
    go true f =
        let l = any_replies g a flaws h replies f in
        let k = run-talk g a replies (bound g a) t in
        subst (λ (es : List Exchange). MiscompareExactly es x) k.1
        (subst (MiscompareExactly (exchanges_on (alone g a replies) (bound g a) t))
        (finish l.result (subst (Ends (alone g a replies) l.result) k.0 l.ends) (follows_late l.follows))
        (miscompares_exactly g a
        (subst (λ (xs : List Step). Follows g a t.course.left xs t.course.listed t.course.guarded h (exchanges_on (alone g a replies) (bound g a) t) l.polls l.result) (rest-zero (plan_of g a)) l.follows) good))
    go false f =
        let over : is_ended t.course.stage ≡ true = ap (λ (b : Bool). is_ended (cond b None (Some (early_refusal g a flaws)))) f in
        let n = ended-none g a replies (bound g a) t over in
        let refusal : early_refusal g a flaws ≡ x = told_of_lem (early_refusal g a flaws)
        (ap (λ (y : Talk). told_by y.course.stage y.holding.verdict) n.0
        ∙ (λ i. told_by (cond (f i) None (Some (early_refusal g a flaws))) h.verdict) ∙ ap (λ (b : Bool). Some (cond b (verdict_answer h.verdict) (early_refusal g a flaws))) f) in
        subst (λ (es : List Exchange). MiscompareExactly es x) (sym n.1)
        (record { only = λ y. absurd (early_other g a flaws (refusal ∙ y)); due = λ y. never y })
