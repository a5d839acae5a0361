-- The bounds in numbers, and how many frames and polls a plan is with one poll a wait: folds over the plan, computed.
-- Assumes nothing.
use Prim.Native.Nat.{ℕ, zero, suc, ◌+◌, ◌*◌, ◌<◌, ◌≤◌}
use native.Mathlib.Omega.{arith}
use mathlib.Core.Path.{◌≡◌, refl, sym, ap, ◌∙◌}
use mathlib.Core.Bool.{Bool, true, false, cond}
use mathlib.Core.List.{List, [], ◌∷◌, ◌++◌}
use lib.ListN.{length}
use Rattle.geometry.specs.declared.Geometry.{Geometry}
use Rattle.slots.specs.declared.Kind.{Kind}
use Rattle.slots.specs.declared.Kind.TheVariants.{Put, Patch, Get, Wipe}
use Rattle.slots.specs.declared.Step.{Step}
use Rattle.slots.specs.Plans.{pages, opening, is_asking, page_steps, run_by, plan_by, step_at, is_end, is_wait, frames_most, waits_in, stated, frames_of, polls_of}
use Rattle.slots.proofs.Places.{never}

most_append : (n : ℕ) (xs ys : List Step) → frames_most n (xs ++ ys) ≡ frames_most n xs + frames_most n ys
unfolding frames_most
most_append n [] ys = omega arith
most_append n (x ∷ xs) ys = let e = most_append n xs ys in omega (arith, e)

-- pages that take as many frames each
most-pages : (n m k c : ℕ) (f : ℕ → List Step) → ((p : ℕ) → frames_most n (f p) ≡ c) → frames_most n (pages m k f) ≡ m * c
unfolding pages frames_most
most-pages n zero k c f e = omega arith
most-pages n (suc m) k c f e = most_append n (f k) (pages m (suc k) f) ∙ (λ i. e k i + most-pages n m (suc k) c f e i) ∙ more m c
  where
    more : (m c : ℕ) → c + m * c ≡ suc m * c
    more m c = omega arith

-- a page's frames
unfoldable page_most : Kind → ℕ → ℕ
page_most Put B = 2 * B + 3
page_most Patch B = 2 * B + 4
page_most Get B = 1
page_most Wipe B = B + 1

page_most_lem : (k : Kind) (B p : ℕ) → frames_most B (page_steps k p) ≡ page_most k B
unfolding page_steps frames_most is_wait page_most
page_most_lem Put B p = omega arith
page_most_lem Patch B p = omega arith
page_most_lem Get B p = omega arith
page_most_lem Wipe B p = omega arith

plan_most : (k : Kind) (g : Geometry) (slot B : ℕ) → frames_most B (plan_by k g slot) ≡ frames_most B (opening (is_asking k)) + (run_by k g slot).count * page_most k B
unfolding plan_by
plan_most k g slot B =
    most_append B (opening (is_asking k)) (pages (run_by k g slot).count (run_by k g slot).first (page_steps k))
    ∙ ap (λ (n : ℕ). frames_most B (opening (is_asking k)) + n) (most-pages B (run_by k g slot).count (run_by k g slot).first (page_most k B) (page_steps k) (page_most_lem k B))

pub bounds : (k : Kind) (g : Geometry) (slot B : ℕ) → frames_most B (plan_by k g slot) ≡ stated k B
unfolding is_asking frames_most is_wait run_by page_most stated
bounds k g slot B = plan_most k g slot B ∙ sum k
  where
    sum : (k : Kind) → frames_most B (opening (is_asking k)) + (run_by k g slot).count * page_most k B ≡ stated k B
    sum Put = omega arith
    sum Patch = omega arith
    sum Get = omega arith
    sum Wipe = omega arith

-- with one poll a wait there are as many frames as steps
length_most : (xs : List Step) → length xs ≡ frames_most 1 xs
unfolding frames_most
length_most [] = refl
length_most (x ∷ xs) = let e = length_most xs in let f = one (is_wait x) in omega (arith, e, f)
  where
    one : (b : Bool) → ◌≡◌ {A = ℕ} (cond b 1 1) 1
    one true = refl
    one false = refl

pub steps : (k : Kind) (g : Geometry) (slot : ℕ) → length (plan_by k g slot) ≡ frames_of k
unfolding stated frames_of
steps k g slot = length_most (plan_by k g slot) ∙ bounds k g slot 1 ∙ sum k
  where
    sum : (k : Kind) → stated k 1 ≡ frames_of k
    sum Put = refl
    sum Patch = refl
    sum Get = refl
    sum Wipe = refl

-- the waits among them
waits_most : (xs : List Step) → frames_most 2 xs ≡ frames_most 1 xs + waits_in xs
unfolding frames_most waits_in
waits_most [] = refl
waits_most (x ∷ xs) = let e = waits_most xs in let f = two (is_wait x) in omega (arith, e, f)
  where
    two : (b : Bool) → ◌≡◌ {A = ℕ} (cond b 2 1) (cond b 1 1 + cond b 1 0)
    two true = refl
    two false = refl

pub waits : (k : Kind) (g : Geometry) (slot : ℕ) → waits_in (plan_by k g slot) ≡ polls_of k
unfolding stated polls_of
waits k g slot = from k (waits_most (plan_by k g slot)) (bounds k g slot 1) (bounds k g slot 2)
  where
    from : (k : Kind) {w a b : ℕ} → b ≡ a + w → a ≡ stated k 1 → b ≡ stated k 2 → w ≡ polls_of k
    from Put e f h = omega arith
    from Patch e f h = omega arith
    from Get e f h = omega arith
    from Wipe e f h = omega arith

-- a place with a step lies in the plan, which has at most 51
step-inside : (xs : List Step) (i : ℕ) → is_end (step_at xs i) ≡ false → i < length xs
unfolding step_at is_end
step-inside [] i e = never (sym e)
step-inside (x ∷ xs) zero e = omega arith
step-inside (x ∷ xs) (suc i) e = let r = step-inside xs i e in omega arith

few_steps : (k : Kind) → frames_of k ≤ 51
unfolding frames_of
few_steps Put = omega arith
few_steps Patch = omega arith
few_steps Get = omega arith
few_steps Wipe = omega arith

pub place-few : (k : Kind) (g : Geometry) (slot i : ℕ) → is_end (step_at (plan_by k g slot) i) ≡ false → i < 51
place-few k g slot i e = omega (arith, step-inside (plan_by k g slot) i e, steps k g slot, few_steps k)
