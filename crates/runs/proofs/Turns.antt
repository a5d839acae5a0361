-- One turn of the loop is one step of the run: the frame written is the one that the run sends, the chip leaves what the run's state has after it,
-- and the driver takes in what the run takes in.
-- Assumes nothing.
use mathlib.Core.Path.{◌≡◌, refl, sym, ap, subst⁻¹, ◌∙◌}
use mathlib.Core.Bool.{true, cond}
use mathlib.Core.List.{List, ◌++◌}
use Prim.Native.Nat.{ℕ, ◌+◌, ◌*◌, ◌≤◌}
use native.Mathlib.Omega.{arith}
use lib.ListN.{length, take, length-take}
use lib.Seq.{take-add, take_at}
use lib.Dec.{eqb}
use Rattle.slices.specs.Lists.{over, splice}
use Rattle.slices.proofs.Laws.{length_over, over_front, length-splice, splice-part, take-splice, drop-splice}
use Rattle.geometry.specs.declared.Geometry.{Geometry}
use Rattle.geometry.proofs.Pages.{sized}
use Rattle.state.specs.declared.Answer.TheVariants as Answers
use Rattle.state.specs.Memory.{State}
use Rattle.state.specs.Frames.{reply_of}
use Rattle.state.specs.Outcomes.{framed, sent_state}
use Rattle.state.proofs.Accepted.{in_framed}
use Rattle.state.proofs.Lengths.{reply-length}
use Rattle.slots.specs.declared.Course.{Course}
use Rattle.slots.specs.declared.Driver.{Driver}
use Rattle.slots.specs.declared.Step.{Step}
use Rattle.slots.specs.declared.Step.TheVariants.{Wait, Protection, Lockdown, Read, Load, Send, End}
use Rattle.slots.specs.Plans.{is_wait, is_end}
use Rattle.slots.specs.Driver.{shape_of, frame_of, ended, frame_room}
use Rattle.slots.specs.Calls.{outline, scripted, state_after, open_after, closed_after, step_open, step_closed}
use Rattle.worlds.specs.Turns.{holding_of, with, step_in, data_after, course_after, took_on}
use Rattle.worlds.proofs.Chains.{data_held}
use Rattle.worlds.proofs.Shapes.{frame-length, shape_some, shape_fits}
use Rattle.runs.specs.declared.Session.{Session}
use Rattle.runs.specs.Exchange.{Exchanged}
use Rattle.runs.specs.Runs.{open_of, closed_of, request_of, Going, Turned}
use Rattle.runs.proofs.After.{after-long, after-placed}
use Rattle.runs.proofs.Steps.{step_open_lem, step-closed}

-- ---- lengths

-- what writing a step's frame leaves: the frame at the beginning of its buffer, which the chip takes, with a reply as long
module _ (g : Geometry) (t : State) (s : Session) (log : List ℕ) (h : Going g t s log) (payload staged xs : List ℕ) (long : length xs ≡ frame_room)
    {x : Step} {n : ℕ} {ys : List ℕ} (ex : x ≡ step_in g s.driver)
    (w : (n ≡ (shape_of g x).length) × (ys ≡ over (frame_of g s.driver.kind (holding_of s.driver payload staged) x) xs)) where
  few : n ≤ frame_room
  few = omega (arith, w.0, shape_fits g x (sized s.driver.array g h.sound.part).most (omega (arith, (sized s.driver.array g h.sound.part).short)))

  pub written_taken : (n ≤ length ys) × (n ≤ frame_room) × (framed n n ≡ true)
  written_taken =
      let some = shape_some g x (ap is_end ex ∙ h.sound.step) in
      let kept = length_over (frame_of g s.driver.kind (holding_of s.driver payload staged) x) xs in
      (omega (arith, few, long, kept, ap length w.1), few, in_framed n n (omega (arith, some, w.0)) (omega (arith, few)) refl)

  pub written-frame : take n ys ≡ frame_of g s.driver.kind (holding_of s.driver payload staged) (step_in g s.driver)
  written-frame =
      let f = frame-length g s.driver.kind (holding_of s.driver payload staged) x in
      over_front (frame_of g s.driver.kind (holding_of s.driver payload staged) x) xs (w.0 ∙ sym f) (omega (arith, few, long, f, w.0)) w.1
      ∙ ap (λ (y : Step). frame_of g s.driver.kind (holding_of s.driver payload staged) y) ex

-- the reply as it lies in its buffer
module _ {g : Geometry} {b at : ℕ} {f : List ℕ} {s : State} {l₀ : List ℕ} {t : State} {rp l : List ℕ} (x : Exchanged g b at f s l₀ t rp l) where
  pub reply-long : length rp ≡ length f
  reply-long = ap length x.reply ∙ reply-length g s.registers f s.memory

  pub array_long : length t.memory.array ≡ length s.memory.array
  array_long = ap (λ (u : State). length u.memory.array) x.state ∙ after-long g f s b

  -- the first n bytes of the buffer
  pub reply-first : (n : ℕ) (z : List ℕ) → n ≡ length f → Exchanged g b at f s l₀ t (take n (rp ++ z)) l
  reply-first n z e = record { state = x.state; reply = take_at rp z n (reply-long ∙ sym e) ∙ x.reply; log = x.log }

pub reply_reaches : (n : ℕ) (f rp : List ℕ) {g : Geometry} {b at : ℕ} {s : State} {l₀ : List ℕ} {t : State} {l : List ℕ}
    → Exchanged g b at (take n f) s l₀ t (take n rp) l → n ≤ length f → n ≤ length rp
reply_reaches n f rp x h = omega (arith, reply-long x, length-take n f, length-take n rp)

-- ---- the log: six bytes more

outline_six : (f : List ℕ) → length (outline f) ≡ 6
unfolding outline
outline_six f = refl

lined : (log f : List ℕ) (n : ℕ) → 6 * n + 6 ≤ length log → take (6 * n) log ++ outline f ≡ take (6 * (n + 1)) (splice (6 * n) (outline f) log)
lined log f n h =
    let l : List ℕ = splice (6 * n) (outline f) log in
    let six : length (outline f) ≡ 6 = outline_six f in
    let m : 6 * (n + 1) ≡ 6 * n + length (outline f) = omega arith in
    sym (ap (λ (k : ℕ). take k l) m ∙ take-add (6 * n) (length (outline f)) l
    ∙ (λ i. take-splice (6 * n) (6 * n) (outline f) log (omega arith) i ++ splice-part (6 * n) (outline f) log (omega arith) i))

poll_one : (x : Step) → cond (is_wait x) 1 0 ≤ 1
unfolding is_wait
poll_one (Wait c) = omega arith
poll_one Protection = omega arith
poll_one Lockdown = omega arith
poll_one (Read p) = omega arith
poll_one (Load p) = omega arith
poll_one (Send c p) = omega arith
poll_one End = omega arith

-- ---- the turn
module _ (g : Geometry) (t : State) (s : Session) (payload staged script log : List ℕ) (h : Going g t s log) where
  abbrev d : Driver
  d = s.driver

  abbrev x : Step
  x = step_in g s.driver

  abbrev byte : ℕ
  byte = scripted script s.frames

  abbrev frame : List ℕ
  frame = frame_of g s.driver.kind (holding_of s.driver payload staged) (step_in g s.driver)

  abbrev reply : List ℕ
  reply = reply_of g t.registers t.memory (frame_of g s.driver.kind (holding_of s.driver payload staged) (step_in g s.driver))

  abbrev state : State
  state = state_after g byte (sent_state g frame t)

  abbrev course : Course
  course = cond (eqb byte 2) (ended Answers.Cut s.driver.course) (course_after g s.driver reply)

  abbrev next : Session
  next =
      record {
        driver = with s.driver (data_after g s.driver payload staged reply).verdict course;
        frames = s.frames + 1;
        polls = s.polls + cond (is_wait x) 1 0;
        cut = eqb byte 2;
      }

  shown : step_open g (request_of s script) (open_of t s log) (closed_of t s payload staged) ≡ open_of state next (splice (6 * s.frames) (outline frame) log)
  unfolding open_after state_after sent_state
  shown =
      step_open_lem g (request_of s script) (open_of t s log) (closed_of t s payload staged) h.going
      ∙ (λ i. record {
        registers = state.registers;
        course = course;
        lines = lined log frame s.frames h.room i;
        frames = s.frames + 1;
        polls = s.polls + cond (is_wait x) 1 0;
        cut = eqb byte 2;
      })

  kept : step_closed g (request_of s script) (open_of t s log) (closed_of t s payload staged) ≡ closed_of state next payload (data_after g s.driver payload staged reply).staged
  unfolding closed_after state_after sent_state
  kept =
      step-closed g (request_of s script) (open_of t s log) (closed_of t s payload staged) h.going
      ∙ (λ i. record { memory = state.memory; holding = sym (data_held x g s.driver.kind (holding_of s.driver payload staged) reply) i })

  turned_next : Turned g t s payload staged script log state next (data_after g s.driver payload staged reply).staged (splice (6 * s.frames) (outline frame) log)
  turned_next =
      record {
        shown = shown;
        kept = kept;
        asks = refl;
        array = refl;
        frames = refl;
        polls = omega (arith, poll_one x);
        cut = refl;
        rest = drop-splice (6 * (s.frames + 1)) (6 * s.frames) (outline frame) log (omega (arith, outline_six frame));
        room = length-splice (6 * s.frames) (outline frame) log;
        part = after-placed g frame t byte h.part;
        long = after-long g frame t byte;
      }

  -- from what the parts of the turn promise: the frame written, the exchange, the reply taken in
  pub turned : (b : ℕ) (f : List ℕ) (u : State) (rp lines : List ℕ) (e k : Driver) (bytes : List ℕ) (po : ℕ)
      → b ≡ byte → f ≡ frame → Exchanged g b (6 * s.frames) f t log u rp lines
      → e ≡ took_on g s.driver payload staged rp → bytes ≡ (data_after g s.driver payload staged rp).staged
      → k ≡ with e e.verdict (cond (eqb b 2) (ended Answers.Cut s.driver.course) e.course) → po ≡ cond (is_wait x) 1 0
      → Turned g t s payload staged script log u (record { driver = k; frames = s.frames + 1; polls = s.polls + po; cut = eqb b 2 }) bytes lines
  turned b f u rp lines e k bytes po eb ef z ee es ek ep =
      let hears : rp ≡ reply = z.reply ∙ ap (reply_of g t.registers t.memory) ef in
      let took : e ≡ took_on g s.driver payload staged reply = ee ∙ ap (took_on g s.driver payload staged) hears in
      let left : u ≡ state = z.state ∙ (λ i. state_after g (eb i) (sent_state g (ef i) t)) in
      let driver : k ≡ next.driver = ek ∙ (λ i. with (took i) (took i).verdict (cond (eqb (eb i) 2) (ended Answers.Cut s.driver.course) (took i).course)) in
      let session : ◌≡◌ {A = Session} (record { driver = k; frames = s.frames + 1; polls = s.polls + po; cut = eqb b 2 }) next =
      λ i. record { driver = driver i; frames = s.frames + 1; polls = s.polls + ep i; cut = eqb (eb i) 2 } in
      let read : bytes ≡ (data_after g s.driver payload staged reply).staged = es ∙ ap (λ (l : List ℕ). (data_after g s.driver payload staged l).staged) hears in
      let wrote : lines ≡ splice (6 * s.frames) (outline frame) log = z.log ∙ ap (λ (l : List ℕ). splice (6 * s.frames) (outline l) log) ef in
      subst⁻¹ (λ (y : State). Turned g t s payload staged script log y (record { driver = k; frames = s.frames + 1; polls = s.polls + po; cut = eqb b 2 }) bytes lines) left
      (subst⁻¹ (λ (r : Session). Turned g t s payload staged script log state r bytes lines) session
      (subst⁻¹ (λ (l : List ℕ). Turned g t s payload staged script log state next l lines) read
      (subst⁻¹ (λ (l : List ℕ). Turned g t s payload staged script log state next (data_after g s.driver payload staged reply).staged l) wrote turned_next)))
