-- How to follow a call on the chip step by step: what is known between two steps (`Know`, `Holds`), which steps may come then (`Lawful`), and
-- how each step takes one to the next. A wait keeps what is known while it lasts; a busy end must keep it always.
-- Assumes nothing.
use Rattle.std.specs.Prelude.{Some, Option}
use Prim.Native.Nat.{ℕ, zero, suc, ◌<◌}
use mathlib.Core.Path.{◌≡◌, refl, sym, subst, ◌∙◌}
use mathlib.Core.Bool.{Bool, true, false, cond}
use mathlib.Core.List.{List, [], ◌∷◌}
use mathlib.Core.Logic.{◌⊎◌, inl, inr}
use lib.ListN.{length}
use lib.Dec.{eqb, lit<}
use Rattle.slices.specs.Lists.{tabulate}
use Rattle.geometry.specs.declared.Geometry.{Geometry}
use Rattle.geometry.specs.Parts.{part_of}
use Rattle.geometry.specs.Sectors.{sector_of}
use Rattle.geometry.proofs.Pages.{sized}
use Rattle.registers.specs.declared.Operation.TheVariants as O
use Rattle.registers.specs.declared.Registers.{Registers}
use Rattle.registers.specs.Fields.{with_operation}
use Rattle.registers.specs.Protection.{guarded, sealed}
use Rattle.control.specs.declared.Decision.{Decision}
use Rattle.control.specs.Control.{control, started, ignored}
use Rattle.control.specs.Completion.{completed}
use Rattle.control.specs.Starts.{Ready}
use Rattle.control.proofs.Frames.{status_keeps}
use Rattle.control.proofs.Ends.{completed_idle}
use Rattle.state.specs.declared.Answer.{Answer}
use Rattle.state.specs.declared.Answer.TheVariants as Answers
use Rattle.state.specs.Answers.{number_of}
use Rattle.state.specs.Memory.{Memory}
use Rattle.state.specs.Frames.{reply_of, sent_memory}
use Rattle.state.specs.Completion.{completed_memory}
use Rattle.state.proofs.Loads.{status-memory, idle_memory}
use Rattle.slots.specs.declared.Course.{Course}
use Rattle.slots.specs.declared.Kind.{Kind}
use Rattle.slots.specs.declared.Command.{Command}
use Rattle.slots.specs.declared.Step.{Step}
use Rattle.slots.specs.declared.Step.TheVariants.{Wait, Send}
use Rattle.slots.specs.Plans.{plan_of, sector_for, step_at, is_end}
use Rattle.slots.specs.Driver.{Holding, shape_of, frame_byte, frame_of, heard, ended, course_by, taken_by, step_of, is_ended}
use Rattle.slots.specs.Calls.{Request, Open, Closed, scripted, sends, leaves, replies, hears, registers_after, memory_after, open_after, closed_after, step_open, step_closed, outline, run}
use Rattle.slots.proofs.Steady.{Steady, step_keeps}
use Rattle.slots.proofs.Places.{never, Stops, rest_at, rest-step, not_done, Over, course-over}
use Rattle.slots.proofs.Accepted.{run-ended}
use Rattle.slots.proofs.Bound.{Ok, step_ok}
use Rattle.slots.proofs.Sent.{operation_of, send_starts, send_named, send_memory, poll_heard, waits}

-- going, or at the plan's end
abbrev pub Alive : Option Answer → Type 0
Alive s = (is_ended s ≡ false) ⊎ (s ≡ Some Answers.Done)

-- what is followed: what holds of the memory throughout, and what is known from step to step
pub record Facts : Type 1 where
  pub Room : Memory → Type 0
  pub steady : Steady (λ r m. Room m)
  pub Know : Type 0
  pub Holds : Know → Bool → Bool → Registers → Memory → Holding → Type 0
  pub Lawful : Know → List Step → Type 0

-- what is known where the course is
abbrev pub Next : Facts → List Step → Course → Registers → Memory → Holding → Type 0
Next T plan d t n h = Alive d.stage → (k : T.Know) × T.Holds k d.listed d.guarded t n h × T.Lawful k (rest_at plan d.place)

-- a busy end of an idle chip changes nothing
pub idle_stays : (g : Geometry) (r : Registers) (m : Memory) (G : Registers → Memory → Type 0) → r.operation ≡ O.Idle → G r m → G (completed g r) (completed_memory g r.operation m)
idle_stays g r m G e u = subst (λ (t : Registers). G t (completed_memory g r.operation m)) (sym (completed_idle g r e)) (subst (G r) (sym (idle_memory g r.operation m e)) u)

-- ---- one step

module _ (T : Facts) (g : Geometry) (K : Kind) (S limit : ℕ) (plan : List Step) (c : Course) (r : Registers) (m : Memory) (h : Holding) where
  abbrev pub rest : List Step
  rest = rest_at plan (suc c.place)

  abbrev pub next : Step
  next = step_at plan (suc c.place)

  abbrev pub replied : Step → List ℕ
  replied x = reply_of g r m (frame_of g K h x)

  abbrev pub after : Step → Course
  after x = course_by x next limit c (heard g x S (replied x))

  -- what is known after the step's frame
  abbrev pub Turned : Step → Type 0
  Turned x = Next T plan (after x) (control g r (frame_of g K h x)).registers (sent_memory g r (frame_of g K h x) m) (taken_by x g K h (replied x))

  -- 8, 9, 10 and 11 end it
  pub stop : (a : Answer) (t : Registers) (n : Memory) (k : Holding) → Stops a → Next T plan (ended a c) t n k
  unfolding is_ended number_of
  stop a t n k z (inl e) = never (sym e)
  stop a t n k z (inr e) = not_done a z e

  -- registers and memory as they were
  pub carry : (x : Step) (d : Course) (k : Holding) → (control g r (frame_of g K h x)).registers ≡ r → sent_memory g r (frame_of g K h x) m ≡ m → Next T plan d r m k
      → Next T plan d (control g r (frame_of g K h x)).registers (sent_memory g r (frame_of g K h x) m) k
  carry x d k e f u = subst (λ (t : Registers). Next T plan d t (sent_memory g r (frame_of g K h x) m) k) (sym e) (subst (λ (n : Memory). Next T plan d r n k) (sym f) u)

  -- a wait that leaves the data: the same is known while it lasts, and more once the chip is ready
  pub wait_next : (x : Bool) (k k' : T.Know) → is_ended c.stage ≡ false → rest_at plan c.place ≡ Wait x ∷ rest → T.Lawful k (Wait x ∷ rest)
      → T.Holds k c.listed c.guarded r m h → T.Lawful k' rest → (Ready r → T.Holds k' c.listed (guarded r) r m h)
      → taken_by (Wait x) g K h (replied (Wait x)) ≡ h → Turned (Wait x)
  unfolding shape_of frame_byte tabulate heard number_of
  wait_next x k k' live e l u l' u' same =
      subst (λ (d : Holding). Next T plan (after (Wait x)) (control g r (frame_of g K h (Wait x))).registers (sent_memory g r (frame_of g K h (Wait x)) m) d) (sym same)
      (carry (Wait x) (course_by (Wait x) next limit c (poll_heard g r m)) h (status_keeps g r (0 ∷ [])) (status-memory g r m (0 ∷ []))
      (waits (λ d. Next T plan d r m h) x next limit c g r m (stop Answers.Device r m h (lit< tt, lit< tt)) (stop Answers.Busy r m h (lit< tt, lit< tt))
      (λ _. (k, u, subst (T.Lawful k) (sym e) l)) (λ y _. (k', u' y, l'))))

  -- a frame that starts its operation
  pub starting : (o : Command) (p : ℕ) → part_of (length m.array) ≡ Some g → Ready r → p < g.pages → sealed g r (sector_of g p) ≡ false
      → control g r (frame_of g K h (Send o p)) ≡ started r (operation_of o p)
  starting o p b y l s =
      let e = send_named g r K h p y (length m.array) o b (sized (length m.array) g b) l in
      go (subst (λ (q : ℕ). (control g r (frame_of g K h (Send o p)) ≡ started r (operation_of o q)) ⊎ ((control g r (frame_of g K h (Send o p)) ≡ ignored r) × (sealed g r (sector_of g q) ≡ true))) e (send_starts g r K h p y o))
    where
      go : ((control g r (frame_of g K h (Send o p)) ≡ started r (operation_of o p)) ⊎ ((control g r (frame_of g K h (Send o p)) ≡ ignored r) × (sealed g r (sector_of g p) ≡ true)))
          → control g r (frame_of g K h (Send o p)) ≡ started r (operation_of o p)
      go (inl z) = z
      go (inr z) = never (sym s ∙ z.1)

  pub sent-next : (o : Command) (p : ℕ) (k : T.Know) → part_of (length m.array) ≡ Some g → Ready r → p < g.pages → sealed g r (sector_of g p) ≡ false
      → T.Holds k c.listed c.guarded (with_operation r (operation_of o p)) m h → T.Lawful k rest → Turned (Send o p)
  unfolding taken_by course_by
  sent-next o p k b y l s u w = λ _. (
    k,
    subst (λ (d : Decision). T.Holds k c.listed c.guarded d.registers (sent_memory g r (frame_of g K h (Send o p)) m) h) (sym (starting o p b y l s))
        (subst (λ (n : Memory). T.Holds k c.listed c.guarded (with_operation r (operation_of o p)) n h) (sym (send_memory g r K h p y m o)) u),
    w,
  )

-- ---- a run

module _ (T : Facts) (g : Geometry) (v : Request) where
  abbrev S₀ : ℕ
  S₀ = sector_for g v.asked

  abbrev plan₀ : List Step
  plan₀ = plan_of g v.asked

  pub record Tracked (p : Open) (q : Closed) : Type 0 where
    pub room : T.Room q.memory
    pub here : Next T plan₀ p.course p.registers q.memory q.holding
    pub uncut : p.course.stage ≡ Some Answers.Done → p.cut ≡ false
    pub over : Over plan₀ p.course

  -- what a busy end keeps, and how a step goes on
  abbrev pub Stays : Type 0
  Stays = (k : T.Know) (l d : Bool) (r : Registers) (m : Memory) (h : Holding) → T.Room m → T.Holds k l d r m h
      → T.Holds k l d (completed g r) (completed_memory g r.operation m) h

  abbrev pub Turns : Type 0
  Turns = (c : Course) (r : Registers) (m : Memory) (h : Holding) → T.Room m → is_ended c.stage ≡ false → (x : Step) (k : T.Know) → is_end x ≡ false
      → rest_at plan₀ c.place ≡ x ∷ rest_at plan₀ (suc c.place) → T.Lawful k (x ∷ rest_at plan₀ (suc c.place)) → T.Holds k c.listed c.guarded r m h
      → Turned T g v.asked.kind S₀ v.asked.limit plan₀ c r m h x

  module _ (stays : Stays) (turns : Turns) where
    live_tracked : (p : Open) (q : Closed) → is_ended p.course.stage ≡ false → is_end (step_at plan₀ p.course.place) ≡ false → Tracked p q → Tracked (step_open g v p q) (step_closed g v p q)
    unfolding step_open step_closed open_after closed_after registers_after memory_after number_of
    live_tracked p q e some u =
        let z = subst (λ (b : Bool). Next T plan₀ (cond b p after₁).course (cond b p after₁).registers (cond b q kept).memory (cond b q kept).holding
        × ((cond b p after₁).course.stage ≡ Some Answers.Done → (cond b p after₁).cut ≡ false) × Over plan₀ (cond b p after₁).course)
        (sym e) (go (eqb (scripted v.script p.frames) 2) (eqb (scripted v.script p.frames) 0), not-cut (eqb (scripted v.script p.frames) 2), at_end (eqb (scripted v.script p.frames) 2)) in
        record { room = step_keeps (λ r m. T.Room m) T.steady g v p q u.room; here = z.0; uncut = z.1; over = z.2 }
      where
        after₁ : Open
        after₁ = open_after g v p (outline (sends g v p q)) (leaves g v p q) (hears g v p q)

        kept : Closed
        kept = closed_after g v p q (leaves g v p q) (sent_memory g p.registers (sends g v p q) q.memory) (replies g v p q)

        on : Course
        on =
            course_by (step_of g v.asked p.course) (step_at plan₀ (suc p.course.place)) v.asked.limit p.course
            (heard g (step_of g v.asked p.course) S₀ (replies g v p q))

        held : Holding
        held = taken_by (step_of g v.asked p.course) g v.asked.kind q.holding (replies g v p q)

        known : (k : T.Know) × T.Holds k p.course.listed p.course.guarded p.registers q.memory q.holding × T.Lawful k (rest_at plan₀ p.course.place)
        known = u.here (inl e)

        next-rest : rest_at plan₀ p.course.place ≡ step_of g v.asked p.course ∷ rest_at plan₀ (suc p.course.place)
        next-rest = rest-step plan₀ p.course.place some

        turn : Turned T g v.asked.kind S₀ v.asked.limit plan₀ p.course p.registers q.memory q.holding (step_of g v.asked p.course)
        turn = turns p.course p.registers q.memory q.holding u.room e (step_of g v.asked p.course) known.0 some next-rest (subst (T.Lawful known.0) next-rest known.2) known.1

        go : (b d : Bool) → Next T plan₀ (cond b (ended Answers.Cut p.course) on) (cond d (completed g (leaves g v p q)) (leaves g v p q))
            (cond d (completed_memory g (leaves g v p q).operation (sent_memory g p.registers (sends g v p q) q.memory)) (sent_memory g p.registers (sends g v p q) q.memory)) held
        go true d = stop T g v.asked.kind S₀ v.asked.limit plan₀ p.course p.registers q.memory q.holding Answers.Cut _ _ held (lit< tt, lit< tt)
        go false true = λ z.
            let w = turn z in (
              w.0,
              stays w.0 on.listed on.guarded (leaves g v p q) (sent_memory g p.registers (sends g v p q) q.memory) held
                  (T.steady.frames g (sends g v p q) p.registers q.memory u.room) w.1,
              w.2,
            )
        go false false = turn

        not-cut : (b : Bool) → (cond b (ended Answers.Cut p.course) on).stage ≡ Some Answers.Done → b ≡ false
        not-cut true z = not_done Answers.Cut (lit< tt, lit< tt) z
        not-cut false z = refl

        at_end : (b : Bool) → Over plan₀ (cond b (ended Answers.Cut p.course) on)
        at_end true = λ z. not_done Answers.Cut (lit< tt, lit< tt) z
        at_end false = course-over plan₀ v.asked.limit p.course (heard g (step_of g v.asked p.course) S₀ (replies g v p q)) some e

    pub run_tracked : (n : ℕ) (p : Open) (q : Closed) → Ok plan₀ v.asked.limit n p.course → Tracked p q → Tracked (run n g v p q).0 (run n g v p q).1
    unfolding run
    run_tracked zero p q w u = u
    run_tracked (suc n) p q w u =
        go (is_ended p.course.stage) refl (λ z. run_tracked n (step_open g v p q) (step_closed g v p q) (step_ok g v p q n w) z)
      where
        go : (b : Bool) → is_ended p.course.stage ≡ b
            → (Tracked (step_open g v p q) (step_closed g v p q) → Tracked (run n g v (step_open g v p q) (step_closed g v p q)).0 (run n g v (step_open g v p q) (step_closed g v p q)).1)
            → Tracked (run n g v (step_open g v p q) (step_closed g v p q)).0 (run n g v (step_open g v p q) (step_closed g v p q)).1
        go true e f =
            let z = run-ended (suc n) g v p q e in
            subst (λ (o : Open). Tracked o (run n g v (step_open g v p q) (step_closed g v p q)).1) (sym z.0) (subst (Tracked p) (sym z.1) u)
        go false e f = f (live_tracked p q e (w.step e) u)
