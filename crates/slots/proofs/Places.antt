-- Places in a plan, and what a reply can do to a course, whatever the step: the one place where the transition is opened by steps.
-- Assumes nothing.
use Rattle.std.specs.Prelude.{None, Option, Some}
use Prim.Native.Nat.{ℕ, zero, suc, ◌+◌, ◌-◌, ◌<◌}
use mathlib.Core.Path.{◌≡◌, refl, sym, ap, subst, ◌∙◌}
use mathlib.Core.Bool.{Bool, true, false, cond, not, ◌&&◌, ◌||◌}
use mathlib.Core.List.{List, [], ◌∷◌, ◌++◌}
use native.Mathlib.Omega.{arith}
use borrow.Author.Tests.{leb-false}
use lib.Dec.{T, leb, lit<}
use Rattle.geometry.specs.declared.Geometry.{Geometry}
use Rattle.state.specs.declared.Answer.{Answer}
use Rattle.state.specs.declared.Answer.TheVariants as Answers
use Rattle.state.specs.Answers.{number_of}
use Rattle.slots.specs.declared.Course.{Course}
use Rattle.slots.specs.declared.Kind.{Kind}
use Rattle.slots.specs.declared.Kind.TheVariants.{Put, Patch, Get, Wipe}
use Rattle.slots.specs.declared.Step.{Step}
use Rattle.slots.specs.declared.Step.TheVariants.{Wait, Protection, Lockdown, Read, Load, Send, End}
use Rattle.slots.specs.Plans.{pages, opening, is_asking, page_steps, run_by, plan_by, step_at, is_end, is_wait}
use Rattle.slots.specs.Driver.{Heard, ended, fewer, course_by, is_ended}
use Rattle.slots.proofs.Parts.{cases}

pub never : {A : Type 0} → false ≡ true → A
never e = absurd (subst T (sym e) tt)

-- as `cases`, where the test's value matters
pub known : {A : Type 0} (Q : A → Type 0) (b : Bool) {x y : A} → (b ≡ true → Q x) → (b ≡ false → Q y) → Q (cond b x y)
known Q true u v = u refl
known Q false u v = v refl

pub second : (a b : Bool) → (a && b) ≡ true → b ≡ true
second true b e = e
second false b e = never e

pub both : (a b : Bool) → (a && b) ≡ true → a ≡ true
both true b e = refl
both false b e = never e

-- ---- what holds of every step

unfoldable pub every : (Step → Bool) → List Step → Bool
every f [] = true
every f (x ∷ xs) = f x && every f xs

pub every_append : (f : Step → Bool) (xs ys : List Step) → every f xs ≡ true → every f ys ≡ true → every f (xs ++ ys) ≡ true
unfolding every
every_append f [] ys e h = h
every_append f (x ∷ xs) ys e h = (λ i. both (f x) (every f xs) e i && every_append f xs ys (second (f x) (every f xs) e) h i)

pub every-pages : (f : Step → Bool) (n k : ℕ) (p : ℕ → List Step) → ((i : ℕ) → every f (p i) ≡ true) → every f (pages n k p) ≡ true
unfolding every pages
every-pages f zero k p e = refl
every-pages f (suc n) k p e = every_append f (p k) (pages n (suc k) p) (e k) (every-pages f n (suc k) p e)

-- a plan's, where it holds of the opening's and each page's
pub every_plan : (f : Step → Bool) (k : Kind) (g : Geometry) (slot : ℕ) → every f (opening (is_asking k)) ≡ true → ((p : ℕ) → every f (page_steps k p) ≡ true)
    → every f (plan_by k g slot) ≡ true
unfolding plan_by
every_plan f k g slot e h =
    every_append f (opening (is_asking k)) (pages (run_by k g slot).count (run_by k g slot).first (page_steps k)) e
    (every-pages f (run_by k g slot).count (run_by k g slot).first (page_steps k) h)

-- ---- what is left of a plan

unfoldable pub rest_at : List Step → ℕ → List Step
rest_at [] i = []
rest_at (x ∷ xs) zero = x ∷ xs
rest_at (x ∷ xs) (suc i) = rest_at xs i

-- a place that is not the end has a step, and the rest after it
pub rest-step : (xs : List Step) (i : ℕ) → is_end (step_at xs i) ≡ false → rest_at xs i ≡ step_at xs i ∷ rest_at xs (suc i)
unfolding rest_at step_at is_end
rest-step [] i e = never (sym e)
rest-step (x ∷ []) zero e = refl
rest-step (x ∷ (y ∷ xs)) zero e = refl
rest-step (x ∷ xs) (suc i) e = rest-step xs i e

pub rest-first : (xs : List Step) (i : ℕ) → step_at (rest_at xs i) 0 ≡ step_at xs i
unfolding rest_at step_at
rest-first [] i = refl
rest-first (x ∷ xs) zero = refl
rest-first (x ∷ xs) (suc i) = rest-first xs i

pub rest-zero : (xs : List Step) → rest_at xs 0 ≡ xs
unfolding rest_at
rest-zero [] = refl
rest-zero (x ∷ xs) = refl

-- no step of a plan is the end
pub plan_proper : (k : Kind) (g : Geometry) (slot : ℕ) → every (λ x. not (is_end x)) (plan_by k g slot) ≡ true
unfolding every is_asking page_steps is_end
plan_proper Put g slot = every_plan (λ x. not (is_end x)) Put g slot refl (λ p. refl)
plan_proper Patch g slot = every_plan (λ x. not (is_end x)) Patch g slot refl (λ p. refl)
plan_proper Get g slot = every_plan (λ x. not (is_end x)) Get g slot refl (λ p. refl)
plan_proper Wipe g slot = every_plan (λ x. not (is_end x)) Wipe g slot refl (λ p. refl)

-- so at the end nothing is left
pub rest-none : (xs : List Step) (i : ℕ) → every (λ x. not (is_end x)) xs ≡ true → is_end (step_at xs i) ≡ true → rest_at xs i ≡ []
unfolding rest_at step_at every
rest-none [] i e h = refl
rest-none (x ∷ xs) zero e h = never (ap not (sym h) ∙ both (not (is_end x)) (every (λ x. not (is_end x)) xs) e)
rest-none (x ∷ xs) (suc i) e h = rest-none xs i (second (not (is_end x)) (every (λ x. not (is_end x)) xs) e) h

-- ---- what a reply does to the course

-- the course on the next step, whatever is noted
abbrev pub onward : Step → ℕ → Bool → Bool → Course → Course
onward next limit l d c =
    record { place = suc c.place; left = limit; stage = cond (is_end next) (Some Answers.Done) None; listed = l; guarded = d }

-- the answers that end a call under way: 8 to 11
abbrev pub Stops : Answer → Type 0
Stops a = (7 < number_of a) × (number_of a < 12)

-- an end, once more in a wait, the next step; at the plan's end nothing
pub course_ways : (Q : Course → Type 0) (x next : Step) (limit : ℕ) (c : Course) (o : Heard) → (is_end x ≡ true → Q c) → ((a : Answer) → Stops a → Q (ended a c))
    → (is_wait x ≡ true → 1 < c.left → Q (fewer c)) → ((l d : Bool) → Q (onward next limit l d c)) → Q (course_by x next limit c o)
unfolding course_by is_end is_wait number_of
course_ways Q (Wait x) next limit c o e u v w =
    cases Q (not o.density) (u Answers.Device (lit< tt, lit< tt))
    (cases Q o.ready (w c.listed o.guarded)
    (known Q (leb c.left _) (λ _. u Answers.Busy (lit< tt, lit< tt)) (λ h. v refl (omega (arith, leb-false c.left _ h)))))
course_ways Q Protection next limit c o e u v w = w o.held c.guarded
course_ways Q Lockdown next limit c o e u v w = cases Q (o.held || (c.listed && c.guarded)) (u Answers.Sealed (lit< tt, lit< tt)) (w c.listed c.guarded)
course_ways Q (Read p) next limit c o e u v w = w c.listed c.guarded
course_ways Q (Load p) next limit c o e u v w = w c.listed c.guarded
course_ways Q (Send k p) next limit c o e u v w = w c.listed c.guarded
course_ways Q End next limit c o e u v w = e refl

pub course_cases : (Q : Course → Type 0) (x next : Step) (limit : ℕ) (c : Course) (o : Heard) → is_end x ≡ false → ((a : Answer) → Stops a → Q (ended a c))
    → (is_wait x ≡ true → 1 < c.left → Q (fewer c)) → ((l d : Bool) → Q (onward next limit l d c)) → Q (course_by x next limit c o)
course_cases Q x next limit c o e u v w = course_ways Q x next limit c o (λ h. never (sym e ∙ h)) u v w

-- a step that is gone on to is one
pub onward_some : (next : Step) → is_ended (cond (is_end next) (Some Answers.Done) None) ≡ false → is_end next ≡ false
unfolding is_ended
onward_some next = known (λ (s : Option Answer). is_ended s ≡ false → is_end next ≡ false) (is_end next) (λ e h. never (sym h)) (λ e h. e)

-- they are not the plan's end
pub not_done : {A : Type 0} (a : Answer) → Stops a → Some a ≡ Some Answers.Done → A
unfolding number_of
not_done a z e = let y : number_of a ≡ 0 = ap told e in absurd (omega (arith, y, z.0))
  where
    told : Option Answer → ℕ
    told None = 0
    told (Some a) = number_of a

-- a call that has come to 0 is at the plan's end
abbrev pub Over : List Step → Course → Type 0
Over plan c = c.stage ≡ Some Answers.Done → is_end (step_at plan c.place) ≡ true

pub course-over : (plan : List Step) (limit : ℕ) (c : Course) (o : Heard) → is_end (step_at plan c.place) ≡ false → is_ended c.stage ≡ false
    → Over plan (course_by (step_at plan c.place) (step_at plan (suc c.place)) limit c o)
unfolding is_ended
course-over plan limit c o e live =
    course_cases (Over plan) (step_at plan c.place) (step_at plan (suc c.place)) limit c o e (λ a z h. not_done a z h)
    (λ _ _ h. never (sym live ∙ ap is_ended h))
    (λ l d. known (λ (s : Option Answer). s ≡ Some Answers.Done → is_end (step_at plan (suc c.place)) ≡ true) (is_end (step_at plan (suc c.place))) (λ z _. z) (λ z h. never (ap is_ended h)))
