-- What is known of a call that is not refused, and that a refused or ended call's run stands still.
-- Assumes nothing.
use Prim.Native.Nat.{ℕ, zero, suc, ◌+◌, ◌*◌, ◌/◌, ◌≤◌}
use mathlib.Core.Path.{◌≡◌, refl, sym, ap, ◌∙◌}
use mathlib.Core.Bool.{Bool, true, false, cond, not, ◌&&◌}
use mathlib.Core.List.{List, ◌++◌}
use native.Mathlib.Omega.{arith}
use lib.Dec.{eqb, ltb, leb}
use borrow.Author.Tests.{leb-true, leb-false, ltb-false}
use Rattle.geometry.specs.declared.Geometry.{Geometry}
use Rattle.state.specs.declared.Answer.{Answer}
use Rattle.state.specs.declared.Answer.TheVariants as Answers
use Rattle.state.specs.Answers.{number_of}
use Rattle.slots.specs.declared.Flaws.{Flaws}
use Rattle.slots.specs.declared.Kind.{Kind}
use Rattle.slots.specs.Plans.{Asked, opening, is_asking, pages, run_by, page_steps, plan_by, step_at, is_end, bound}
use Rattle.slots.specs.Refusals.{bad_script, early_refusal, late_refusal, or_else, call_refusal}
use Rattle.slots.specs.Driver.{is_ended}
use Rattle.slots.specs.Calls.{Request, Open, Closed, step_open, step_closed, run, refusal_of}

-- every plan starts with a wait
pub first_some : (k : Kind) (g : Geometry) (slot : ℕ) → is_end (step_at (plan_by k g slot) 0) ≡ false
unfolding plan_by step_at is_end
first_some k g slot = go (is_asking k)
  where
    go : (b : Bool) → is_end (step_at (opening b ++ pages (run_by k g slot).count (run_by k g slot).first (page_steps k)) 0) ≡ false
    go true = refl
    go false = refl

pub picked : {A : Type 0} (b : Bool) (x y : A) → b ≡ true → cond b x y ≡ x
picked true x y e = refl
picked false x y e = let z : ◌≡◌ {A = ℕ} 0 1 = ap (λ (b : Bool). cond b 1 0) e in absurd (omega arith)

pub step-ended : (g : Geometry) (v : Request) (p : Open) (q : Closed) → is_ended p.course.stage ≡ true → (step_open g v p q ≡ p) × (step_closed g v p q ≡ q)
unfolding step_open step_closed
step-ended g v p q e = (picked (is_ended p.course.stage) p _ e, picked (is_ended p.course.stage) q _ e)

pub run-ended : (n : ℕ) (g : Geometry) (v : Request) (p : Open) (q : Closed) → is_ended p.course.stage ≡ true → ((run n g v p q).0 ≡ p) × ((run n g v p q).1 ≡ q)
unfolding run
run-ended zero g v p q e = (refl, refl)
run-ended (suc n) g v p q e =
    let s = step-ended g v p q e in
    let r = run-ended n g v (step_open g v p q) (step_closed g v p q) (ap (λ (o : Open). is_ended o.course.stage) s.0 ∙ e) in
    (r.0 ∙ s.0, r.1 ∙ s.1)

-- ---- a call that is not refused

-- a test that does not apply
pub passes : (b : Bool) (a next : Answer) → eqb (number_of a) 0 ≡ false → eqb (number_of (cond b a next)) 0 ≡ true → (b ≡ false) × (eqb (number_of next) 0 ≡ true)
passes true a next e h = let z : ◌≡◌ {A = ℕ} 0 1 = ap (λ (b : Bool). cond b 1 0) (sym e ∙ h) in absurd (omega arith)
passes false a next e h = (refl, h)

-- neither of two applies
pub neither_applies : (a b : Answer) → eqb (number_of (or_else a b)) 0 ≡ true → (eqb (number_of a) 0 ≡ true) × (eqb (number_of b) 0 ≡ true)
unfolding or_else
neither_applies a b = go (eqb (number_of a) 0) refl
  where
    go : (d : Bool) → eqb (number_of a) 0 ≡ d → eqb (number_of (cond d b a)) 0 ≡ true → (eqb (number_of a) 0 ≡ true) × (eqb (number_of b) 0 ≡ true)
    go true e h = (e, h)
    go false e h = let z : ◌≡◌ {A = ℕ} 0 1 = ap (λ (b : Bool). cond b 1 0) (sym e ∙ h) in absurd (omega arith)

limits : (limit : ℕ) (a b : Bool) → leb 1 limit ≡ a → leb limit 1000 ≡ b → not (a && b) ≡ false → (1 ≤ limit) × (limit ≤ 1000)
limits limit true true e f h = (leb-true 1 limit e, leb-true limit 1000 f)
limits limit true false e f h = let z : ◌≡◌ {A = ℕ} 0 1 = cc in absurd (omega arith)
limits limit false b e f h = let z : ◌≡◌ {A = ℕ} 0 1 = cc in absurd (omega arith)

-- 3, 4, 5 and 14 are not met
pub record Early (g : Geometry) (a : Asked) (flaws : Flaws) : Type 0 where
  pub fits : 8 * a.slot + 8 ≤ g.pages
  pub some : 1 ≤ a.limit
  pub most : a.limit ≤ 1000
  pub size : flaws.size ≡ false
  pub dates : flaws.dates ≡ false

pub early : (g : Geometry) (a : Asked) (flaws : Flaws) → eqb (number_of (early_refusal g a flaws)) 0 ≡ true → Early g a flaws
unfolding early_refusal number_of
early g a flaws e =
    let three = passes (leb (g.pages / 8) a.slot) Answers.Slot _ refl e in
    let four = passes (not (leb 1 a.limit && leb a.limit 1000)) Answers.Limit _ refl three.1 in
    let five = passes flaws.size Answers.Size _ refl four.1 in
    let fourteen = passes flaws.dates Answers.Dates Answers.Done refl five.1 in
    let b = limits a.limit (leb 1 a.limit) (leb a.limit 1000) refl refl four.0 in
    record { fits = omega (arith, leb-false (g.pages / 8) a.slot three.0); some = b.0; most = b.1; size = five.0; dates = fourteen.0 }

-- 6 and 7 are not met
pub record Late (g : Geometry) (array log least : ℕ) (script : List ℕ) (junk : ℕ) : Type 0 where
  pub room : least ≤ log
  pub fine : bad_script g array script junk ≡ false

pub late : (g : Geometry) (array log least : ℕ) (script : List ℕ) (junk : ℕ) → eqb (number_of (late_refusal g array log least script junk)) 0 ≡ true
    → Late g array log least script junk
unfolding late_refusal number_of
late g array log least script junk e =
    let six = passes (ltb log least) Answers.Log _ refl e in
    let seven = passes (bad_script g array script junk) Answers.Script Answers.Done refl six.1 in
    record { room = ltb-false log least six.0; fine = seven.0 }

pub record Accepted (g : Geometry) (n : ℕ) (v : Request) : Type 0 where
  pub asked : Early g v.asked v.flaws
  pub lent : Late g n v.log (6 * bound g v.asked) v.script v.junk

pub accepted : (g : Geometry) (n : ℕ) (v : Request) → eqb (number_of (refusal_of g n v)) 0 ≡ true → Accepted g n v
unfolding call_refusal
accepted g n v e =
    let z = neither_applies (early_refusal g v.asked v.flaws) (late_refusal g n v.log (6 * bound g v.asked) v.script v.junk) e in
    record { asked = early g v.asked v.flaws z.0; lent = late g n v.log (6 * bound g v.asked) v.script v.junk z.1 }
