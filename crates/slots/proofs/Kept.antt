-- Pages in which nothing is programmed or erased keep their bytes: a frame leaves the array, and a busy end or a cut leaves the pages that the
-- operation under way does not write. So what spares them at each frame spares them through every list.
-- Assumes nothing.
use Rattle.std.specs.Prelude.{Option, Some}
use Prim.Native.Nat.{ℕ, zero, suc, ◌<◌}
use Rattle.registers.proofs.Places.{placed_sized}
use mathlib.Core.Path.{◌≡◌, refl, sym, ap, subst, ◌∙◌}
use mathlib.Core.Bool.{Bool, true, false, cond}
use mathlib.Core.List.{List, [], ◌∷◌}
use native.Mathlib.Omega.{arith}
use lib.ListN.{length}
use lib.Dec.{eqb}
use Rattle.geometry.specs.declared.Geometry.{Geometry}
use Rattle.geometry.specs.Parts.{page_of}
use Rattle.registers.specs.declared.Operation.{Operation}
use Rattle.registers.specs.declared.Operation.TheVariants.{Idle}
use Rattle.registers.specs.declared.Registers.{Registers}
use Rattle.registers.specs.Operations.{placed, writes}
use Rattle.registers.proofs.Operations.{writes_idle}
use Rattle.control.specs.Control.{control}
use Rattle.control.specs.Completion.{completed}
use Rattle.control.specs.PowerLoss.{reaching, lost}
use Rattle.control.proofs.Rows.{busy_keeps}
use Rattle.control.proofs.Ends.{completed-operation, lost-operation}
use Rattle.state.specs.Answers.{number_of}
use Rattle.state.specs.Memory.{Memory, State}
use Rattle.state.specs.Frames.{is_idle, sent_memory}
use Rattle.state.specs.Completion.{completed_memory}
use Rattle.state.specs.Outcomes.{framed, Left, part_in, sent_state, ended_state, pinned_state, cut_state, sent_by, ended_by, pin_outcome, cut_fits, cut_by}
use Rattle.state.specs.PowerLoss.{lost_memory}
use Rattle.state.proofs.Status.{is_idle_lem}
use Rattle.state.proofs.Lengths.{sent-array, completed-array-length, lost-array-length}
use Rattle.state.proofs.Keeps.{completed_page, lost_page}
use Rattle.state.proofs.Placed.{control-placed, completed-placed, lost-placed}
use Rattle.slots.specs.Plans.{bound}
use Rattle.slots.specs.Driver.{is_ended}
use Rattle.slots.specs.Refusals.{raw_refusal}
use Rattle.slots.specs.Calls.{Request, Secret, Open, Closed, outline, scripted, registers_after, memory_after, state_after, sends, leaves, replies, hears, open_after, closed_after, step_open, step_closed, run, start_open, start_closed, ran, reached, call_next, raw_next}
use Rattle.slots.specs.Lists.{Op, call, raw, straight, pin, busy_end, cut, asks, secret, called_by, raw_left, next_of, left_by}
use Rattle.slots.specs.Quiet.{Spares, Kept, started_by, QuietFrames, QuietCall, QuietBy, Quiet}
use Rattle.slots.proofs.Parts.{cases, next_at, next_at_lem}
use Rattle.slots.proofs.Places.{known}

-- ---- a frame, a busy end, a cut

pub idle_spares : (g : Geometry) (first end : ℕ) (o : Operation) → o ≡ Idle → Spares g first end o
idle_spares g first end o e p l u = ap (λ (x : Operation). writes g x p) e ∙ writes_idle g p

-- what is under way after a frame spares the pages if what was and what the frame starts do
sent-spares : (g : Geometry) (first end : ℕ) (r : Registers) (f : List ℕ) → Spares g first end r.operation → Spares g first end (started_by g r f)
    → Spares g first end (control g r f).registers.operation
unfolding started_by
sent-spares g first end r f u w = go (is_idle r.operation) refl w
  where
    go : (b : Bool) → is_idle r.operation ≡ b → Spares g first end (cond b (control g r f).registers.operation Idle) → Spares g first end (control g r f).registers.operation
    go true e x = x
    go false e x =
        subst (Spares g first end)
        (sym (busy_keeps g r f (λ i. let z : ◌≡◌ {A = ℕ} 0 1 = ap (λ (b : Bool). cond b 1 0) (sym e ∙ ap is_idle i ∙ is_idle_lem) in absurd (omega arith)))) u

module _ {g : Geometry} {first end : ℕ} {b : ℕ → List ℕ} {r : Registers} {m : Memory} (u : Kept g first end b r m) where
  pub frame-kept : (f : List ℕ) → Spares g first end (started_by g r f) → Kept g first end b (control g r f).registers (sent_memory g r f m)
  frame-kept f w =
      let e = sent-array g r f m in
      record {
        part = ap (λ (l : List ℕ). placed (length l) (control g r f).registers.operation) e ∙ control-placed (length m.array) g r f u.part;
        fits = u.fits;
        spares = sent-spares g first end r f u.spares w;
        bytes = λ p l k. ap (page_of g p) e ∙ u.bytes p l k;
      }

  inside : (p : ℕ) → p < end → p < g.pages
  inside p l = omega (arith, u.fits)

  wide : 8 < g.span
  wide = (placed_sized (length m.array) r.operation g u.part).wide

  pub end_kept : Kept g first end b (completed g r) (completed_memory g r.operation m)
  end_kept =
      record {
        part = ap (λ (n : ℕ). placed n (completed g r).operation) (completed-array-length g r.operation m) ∙ completed-placed (length m.array) g r u.part;
        fits = u.fits;
        spares = idle_spares g first end (completed g r).operation (completed-operation g r);
        bytes = λ p l k. completed_page g wide r.operation m p (inside p k) (u.spares p l k) ∙ u.bytes p l k;
      }

  pub cut-kept : (w junk : List ℕ) → Kept g first end b (lost g r w) (lost_memory g r.operation junk m)
  cut-kept w junk =
      record {
        part = ap (λ (n : ℕ). placed n (lost g r w).operation) (lost-array-length g r.operation junk m) ∙ lost-placed (length m.array) g r w u.part;
        fits = u.fits;
        spares = idle_spares g first end (lost g r w).operation (lost-operation g r w);
        bytes = λ p l k. lost_page g wide r.operation junk m p (inside p k) (u.spares p l k) ∙ u.bytes p l k;
      }

-- ---- a call

module _ (g : Geometry) (first end : ℕ) (b : ℕ → List ℕ) where
  abbrev pub KeptIn : State → Type 0
  KeptIn s = Kept g first end b s.registers s.memory

  -- a frame and its script byte
  after_kept : (x : ℕ) (r : Registers) (m : Memory) → Kept g first end b r m → Kept g first end b (registers_after g x r) (memory_after g x r m)
  unfolding registers_after memory_after
  after_kept x r m u = go (eqb x 0)
    where
      go : (d : Bool) → Kept g first end b (cond d (completed g r) r) (cond d (completed_memory g r.operation m) m)
      go true = end_kept u
      go false = u

  step_kept : (v : Request) (p : Open) (q : Closed) → Kept g first end b p.registers q.memory
      → (is_ended p.course.stage ≡ false → Spares g first end (started_by g p.registers (sends g v p q))) → Kept g first end b (step_open g v p q).registers (step_closed g v p q).memory
  unfolding step_open step_closed open_after closed_after
  step_kept v p q u w = go (is_ended p.course.stage) refl
    where
      r : Registers
      r = leaves g v p q

      m : Memory
      m = sent_memory g p.registers (sends g v p q) q.memory

      next : Open
      next = open_after g v p (outline (sends g v p q)) r (hears g v p q)

      go : (d : Bool) → is_ended p.course.stage ≡ d → Kept g first end b (cond d p next).registers (cond d q (closed_after g v p q r m (replies g v p q))).memory
      go true e = u
      go false e = after_kept (scripted v.script p.frames) r m (frame-kept u (sends g v p q) (w e))

  run-kept : (n : ℕ) (v : Request) (p : Open) (q : Closed) → Kept g first end b p.registers q.memory
      → QuietFrames first end n g v p q → Kept g first end b (run n g v p q).0.registers (run n g v p q).1.memory
  unfolding run
  run-kept zero v p q u w = u
  run-kept (suc n) v p q u w = run-kept n v (step_open g v p q) (step_closed g v p q) (step_kept v p q u w.0) w.1

  cut-state-kept : (junk : List ℕ) (s : State) → KeptIn s → KeptIn (cut_state g junk s)
  unfolding cut_state
  cut-state-kept junk s u = cut-kept u (reaching g s.registers.operation junk) junk

  pub call_kept : (v : Request) (x : Secret) (s : State) → KeptIn s → QuietCall first end g v x s → KeptIn (call_next g v x s)
  unfolding call_next ran start_open start_closed
  call_kept v x s u w =
      let k = run-kept (bound g v.asked) v (start_open g (length s.memory.array) v s.registers) (start_closed x s.memory) u w in
      cases KeptIn (ran g v x s).0.cut (cut-state-kept x.junk (reached (ran g v x s)) k) k

  sent-kept : (f : List ℕ) (s : State) → KeptIn s → Spares g first end (started_by g s.registers f) → KeptIn (sent_state g f s)
  unfolding sent_state
  sent-kept f s u w = frame-kept u f w

  -- ---- every call and event, and lists of them

  at_kept : (o : Op) (s : State) → KeptIn s → QuietBy first end (Some g) o s → KeptIn (next_at (Some g) o s)
  unfolding next_at called_by raw_left raw_next state_after sent_by ended_by ended_state pin_outcome pinned_state cut_by
  at_kept (call a detail script payload junk log lent) s u w = call_kept (asks g a detail script payload junk log lent) (secret payload detail junk lent) s u w
  at_kept (raw frame script junk log reply) s u w =
      known KeptIn (eqb (number_of (raw_refusal g (length s.memory.array) frame (length reply) (length log) script (length junk))) 0)
      (λ e. let k = sent-kept frame s u (w e) in
      cases KeptIn (eqb (scripted script 0) 2) (cut-state-kept junk (sent_state g frame s) k) (after_kept (scripted script 0) (sent_state g frame s).registers (sent_state g frame s).memory k))
      (λ _. u)
  at_kept (straight frame reply) s u w =
      known (λ (l : Left). KeptIn l.state) (framed (length frame) (length reply)) (λ e. sent-kept frame s u (w e)) (λ _. u)
  at_kept (pin high) s u w = record { part = u.part; fits = u.fits; spares = u.spares; bytes = u.bytes }
  at_kept busy_end s u w = end_kept u
  at_kept (cut junk) s u w = cases (λ (l : Left). KeptIn l.state) (cut_fits g (length s.memory.array) (length junk)) (cut-state-kept junk s u) u

  pub op_kept : (o : Op) (s : State) → KeptIn s → QuietBy first end (part_in s) o s → KeptIn (next_of o s)
  op_kept o s u w =
      subst KeptIn (sym (next_at_lem o s))
      (subst (λ (p : Option Geometry). KeptIn (next_at p o s)) (sym u.part) (at_kept o s u (subst (λ (p : Option Geometry). QuietBy first end p o s) u.part w)))

  pub list_kept : (os : List Op) (s : State) → KeptIn s → Quiet first end os s → KeptIn (left_by os s)
  unfolding left_by
  list_kept [] s u w = u
  list_kept (o ∷ os) s u w = list_kept os (next_of o s) (op_kept o s u w.0) w.1
