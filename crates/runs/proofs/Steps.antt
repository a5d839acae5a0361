-- One step of a run that has not ended: the frame that is sent, and what it leaves.
-- Assumes nothing.
use mathlib.Core.Path.{◌≡◌, refl}
use mathlib.Core.Bool.{false}
use mathlib.Core.List.{List}
use Prim.Native.Nat.{ℕ, zero, suc}
use Rattle.geometry.specs.declared.Geometry.{Geometry}
use Rattle.state.specs.Frames.{sent_memory}
use Rattle.slots.specs.declared.Flaws.{Flaws}
use Rattle.slots.specs.Plans.{Asked}
use Rattle.slots.specs.Driver.{is_ended}
use Rattle.slots.specs.Calls.{Request, Open, Closed, outline, sends, leaves, replies, hears, open_after, closed_after, step_open, step_closed, run}
use Rattle.slots.proofs.Driven.{other}
use Rattle.worlds.specs.Step.{flawless}

module _ (g : Geometry) (v : Request) (p : Open) (q : Closed) where
  pub step_open_lem : is_ended p.course.stage ≡ false → step_open g v p q ≡ open_after g v p (outline (sends g v p q)) (leaves g v p q) (hears g v p q)
  unfolding step_open
  step_open_lem e = other (is_ended p.course.stage) p _ e

  pub step-closed : is_ended p.course.stage ≡ false
      → step_closed g v p q ≡ closed_after g v p q (leaves g v p q) (sent_memory g p.registers (sends g v p q) q.memory) (replies g v p q)
  unfolding step_closed
  step-closed e = other (is_ended p.course.stage) q _ e

pub run-suc : (n : ℕ) (g : Geometry) (v : Request) (p : Open) (q : Closed) → run (suc n) g v p q ≡ run n g v (step_open g v p q) (step_closed g v p q)
unfolding run
run-suc n g v p q = refl

-- a run goes by what is asked and the script alone
pub run-asks : (n : ℕ) (g : Geometry) (a : Asked) (script : List ℕ) (log junk : ℕ) (flaws : Flaws) (p : Open) (q : Closed)
    → run n g (record { asked = a; script = script; log = log; junk = junk; flaws = flaws }) p q
    ≡ run n g (record { asked = a; script = script; log = 0; junk = 0; flaws = flawless }) p q
unfolding run step_open step_closed open_after closed_after
run-asks zero g a script log junk flaws p q = refl
run-asks (suc n) g a script log junk flaws p q = run-asks n g a script log junk flaws _ _
