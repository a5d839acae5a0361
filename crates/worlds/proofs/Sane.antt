-- A state that a call comes to counts as it stands, and stays so: its place has a step, and its polls left are 1 to B. Any other counts as ended.
-- Assumes nothing.
use Rattle.std.specs.Prelude.{None, Option, Some}
use Prim.Native.Nat.{ℕ, suc, ◌-◌, ◌/◌, ◌≤◌}
use native.Mathlib.Omega.{arith}
use mathlib.Core.Path.{◌≡◌, refl, sym, ap, subst, ◌∙◌}
use mathlib.Core.Bool.{Bool, true, false, cond, not, ◌&&◌, ◌||◌}
use mathlib.Core.List.{List}
use lib.Dec.{eqb, leb}
use borrow.Author.Tests.{leb-true, le-leb, lt-leb}
use Rattle.geometry.specs.declared.Geometry.{Geometry}
use Rattle.geometry.specs.Parts.{part_of}
use Rattle.state.specs.declared.Answer.{Answer}
use Rattle.state.specs.declared.Answer.TheVariants as Answers
use Rattle.state.specs.Answers.{number_of}
use Rattle.slots.specs.declared.Course.{Course}
use Rattle.slots.specs.declared.Driver.{Driver}
use Rattle.slots.specs.Plans.{Asked, plan_of, sector_for, step_at, is_end}
use Rattle.slots.specs.Refusals.{is_over, is_short, early_refusal, or_else, flaws_in}
use Rattle.slots.specs.Driver.{Heard, heard, after, is_ended}
use Rattle.slots.specs.Calls.{first_course}
use Rattle.slots.proofs.Places.{never, course_cases, onward_some}
use Rattle.slots.proofs.Accepted.{first_some, passes, neither_applies, picked, Early, early}
use Rattle.slots.proofs.Driven.{other}
use Rattle.worlds.specs.Turns.{asked_of, with, step_in, took_on}
use Rattle.worlds.specs.Start.{start_refusal, start_driver}
use Rattle.worlds.specs.Step.{stray_refusal, fault_by, stage_by, stage_in, staged_at, took_by, took_in, flawless}
use Rattle.slots.specs.declared.Detail.{Detail}

-- what is known of a state that goes on
pub record Facts (g : Geometry) (d : Driver) : Type 0 where
  pub asked : Early g (asked_of d) flawless
  pub some : 1 ≤ d.course.left
  pub most : d.course.left ≤ d.limit
  pub step : is_end (step_in g d) ≡ false

-- a state that a call comes to
pub record Sane (g : Geometry) (d : Driver) : Type 0 where
  pub part : part_of d.array ≡ Some g
  pub facts : is_ended d.course.stage ≡ false → Facts g d

-- ---- what the test of a state tells

range : (n limit : ℕ) (a b : Bool) → leb 1 n ≡ a → leb n limit ≡ b → not (a && b) ≡ false → (1 ≤ n) × (n ≤ limit)
range n limit true true e f h = (leb-true 1 n e, leb-true n limit f)
range n limit true false e f h = never (sym h)
range n limit false b e f h = never (sym h)

fault_facts : (g : Geometry) (d : Driver) → eqb (number_of (fault_by (Some g) d)) 0 ≡ true → Facts g d
unfolding fault_by stray_refusal number_of
fault_facts g d e =
    let z = neither_applies (early_refusal g (asked_of d) flawless) (stray_refusal g d) e in
    let four = passes (not (leb 1 d.course.left && leb d.course.left d.limit)) Answers.Limit _ refl z.1 in
    let three = passes (is_end (step_in g d)) Answers.Slot Answers.Done refl four.1 in
    let r = range d.course.left d.limit (leb 1 d.course.left) (leb d.course.left d.limit) refl refl four.0 in
    record { asked = early g (asked_of d) flawless z.0; some = r.0; most = r.1; step = three.0 }

early_none : (g : Geometry) (a : Asked) → Early g a flawless → early_refusal g a flawless ≡ Answers.Done
unfolding early_refusal
early_none g a w =
    simp (lt-leb (g.pages / 8) a.slot (omega (arith, w.fits)), le-leb 1 a.limit w.some, le-leb a.limit 1000 w.most)

facts_fault : (g : Geometry) (d : Driver) → Facts g d → fault_by (Some g) d ≡ Answers.Done
unfolding fault_by stray_refusal or_else number_of
facts_fault g d w =
    (λ i. or_else (early_none g (asked_of d) w.asked i) (stray_refusal g d))
    ∙ simp (le-leb 1 d.course.left w.some, le-leb d.course.left d.limit w.most, w.step)

-- ---- the stage as it counts

pub stage-ended : (p : Option Geometry) (d : Driver) → is_ended d.course.stage ≡ true → stage_by p d ≡ d.course.stage
unfolding stage_by
stage-ended p d e = picked (is_ended d.course.stage) d.course.stage _ e

not-ended : (s : Option Answer) → is_ended s ≡ false → s ≡ None
unfolding is_ended
not-ended None e = refl
not-ended (Some a) e = never (sym e)

pub stage-facts : (g : Geometry) (d : Driver) → is_ended d.course.stage ≡ false → Facts g d → stage_by (Some g) d ≡ d.course.stage
unfolding stage_by number_of
stage-facts g d e w =
    other (is_ended d.course.stage) d.course.stage _ e
    ∙ ap (λ (a : Answer). cond (eqb (number_of a) 0) None (Some a)) (facts_fault g d w) ∙ sym (not-ended d.course.stage e)

-- a state that counts as going goes, and the facts hold of it
pub going-facts : (g : Geometry) (d : Driver) → is_ended (stage_by (Some g) d) ≡ false → (is_ended d.course.stage ≡ false) × Facts g d
unfolding stage_by is_ended
going-facts g d = go (is_ended d.course.stage) refl (eqb (number_of (fault_by (Some g) d)) 0) refl
  where
    go : (b : Bool) → is_ended d.course.stage ≡ b → (f : Bool) → eqb (number_of (fault_by (Some g) d)) 0 ≡ f
        → is_ended (cond b d.course.stage (cond f None (Some (fault_by (Some g) d)))) ≡ false → (is_ended d.course.stage ≡ false) × Facts g d
    go true e f h z = never (sym z ∙ e)
    go false e true h z = (e, fault_facts g d h)
    go false e false h z = never (sym z)

pub sane_stage : {g : Geometry} {d : Driver} → Sane g d → stage_in d ≡ d.course.stage
unfolding stage_in
sane_stage {g} {d} w = ap (λ (p : Option Geometry). stage_by p d) w.part ∙ go (is_ended d.course.stage) refl
  where
    go : (b : Bool) → is_ended d.course.stage ≡ b → stage_by (Some g) d ≡ d.course.stage
    go true e = stage-ended (Some g) d e
    go false e = stage-facts g d e (w.facts e)

-- ---- a reply keeps it

-- the polls left stay within B
abbrev Few : ℕ → Course → Type 0
Few limit c = (1 ≤ c.left) × (c.left ≤ limit)

module _ (g : Geometry) (d : Driver) (w : Facts g d) where
  after-few : (o : Heard) → Few d.limit (after g (asked_of d) d.course o)
  after-few o =
      course_cases (Few d.limit) (step_in g d) (step_at (plan_of g (asked_of d)) (suc d.course.place)) d.limit d.course o w.step
      (λ a _. (w.some, w.most)) (λ _ l. (omega (arith, l), omega (arith, w.most))) (λ x y. (w.asked.some, omega arith))

  after-step : (o : Heard) → is_ended d.course.stage ≡ false → is_ended (after g (asked_of d) d.course o).stage ≡ false
      → is_end (step_at (plan_of g (asked_of d)) (after g (asked_of d) d.course o).place) ≡ false
  unfolding is_ended
  after-step o e =
      course_cases (λ c. is_ended c.stage ≡ false → is_end (step_at (plan_of g (asked_of d)) c.place) ≡ false) (step_in g d)
      (step_at (plan_of g (asked_of d)) (suc d.course.place)) d.limit d.course o w.step (λ a _ h. never (sym h)) (λ _ _ _. w.step)
      (λ _ _ h. onward_some (step_at (plan_of g (asked_of d)) (suc d.course.place)) h)

  took_sane : (payload staged reply : List ℕ) → part_of d.array ≡ Some g → is_ended d.course.stage ≡ false → Sane g (took_on g d payload staged reply)
  took_sane payload staged reply p e =
      let o = heard g (step_in g d) (sector_for g (asked_of d)) reply in
      record {
        part = p;
        facts = λ h. record { asked = w.asked; some = (after-few o).0; most = (after-few o).1; step = after-step o e h };
      }

pub took_going : (g : Geometry) (d : Driver) (payload staged reply : List ℕ) → part_of d.array ≡ Some g → is_ended (stage_by (Some g) d) ≡ false
    → took_in d payload staged reply ≡ took_on g d payload staged reply
unfolding took_in took_by
took_going g d payload staged reply p e = ap (λ (q : Option Geometry). took_by q d payload staged reply) p ∙ other (is_ended (stage_by (Some g) d)) _ _ e

pub took_ended : (g : Geometry) (d : Driver) (payload staged reply : List ℕ) → part_of d.array ≡ Some g → is_ended (stage_by (Some g) d) ≡ true
    → took_in d payload staged reply ≡ with d d.verdict (staged_at (stage_by (Some g) d) d.course)
unfolding took_in took_by
took_ended g d payload staged reply p e = ap (λ (q : Option Geometry). took_by q d payload staged reply) p ∙ picked (is_ended (stage_by (Some g) d)) _ _ e

-- any state is one that a call comes to after a reply
pub took_keeps : (g : Geometry) (d : Driver) (payload staged reply : List ℕ) → part_of d.array ≡ Some g → Sane g (took_in d payload staged reply)
took_keeps g d payload staged reply p = go (is_ended (stage_by (Some g) d)) refl
  where
    go : (b : Bool) → is_ended (stage_by (Some g) d) ≡ b → Sane g (took_in d payload staged reply)
    go true e =
        subst (Sane g) (sym (took_ended g d payload staged reply p e)) (record { part = p; facts = λ h. never (sym h ∙ e) })
    go false e =
        let f = going-facts g d e in
        subst (Sane g) (sym (took_going g d payload staged reply p e)) (took_sane g d f.1 payload staged reply p f.0)

-- ---- where a call starts

pub start_sane : (g : Geometry) (array : ℕ) (a : Asked) (d : Detail) (payload lent : ℕ) → part_of array ≡ Some g → Sane g (start_driver array a d payload lent)
unfolding start_driver start_refusal first_course is_ended
start_sane g array a d payload lent p = record { part = p; facts = λ h. go (eqb (number_of (start_refusal (part_of array) a d payload lent)) 0) refl h }
  where
    none : eqb (number_of (start_refusal (part_of array) a d payload lent)) 0 ≡ true → Early g a (flaws_in a.kind g d payload lent)
    none e = early g a _ (ap (λ (q : Option Geometry). eqb (number_of (start_refusal q a d payload lent)) 0) (sym p) ∙ e)

    go : (b : Bool) → eqb (number_of (start_refusal (part_of array) a d payload lent)) 0 ≡ b
        → is_ended (cond b None (Some (start_refusal (part_of array) a d payload lent))) ≡ false → Facts g (start_driver array a d payload lent)
    go true e h =
        let w = none e in
        record {
          asked = record { fits = w.fits; some = w.some; most = w.most; size = refl; dates = refl };
          some = w.some;
          most = omega arith;
          step = first_some a.kind g a.slot;
        }
    go false e h = never (sym h)

-- without a part every state has ended
pub ended_off : (d : Driver) → part_of d.array ≡ None → is_ended (stage_in d) ≡ true
unfolding stage_in stage_by fault_by number_of is_ended
ended_off d p = ap (λ (q : Option Geometry). is_ended (stage_by q d)) p ∙ go (is_ended d.course.stage) refl
  where
    go : (b : Bool) → is_ended d.course.stage ≡ b → is_ended (cond b d.course.stage (Some Answers.Part)) ≡ true
    go true e = e
    go false e = refl
