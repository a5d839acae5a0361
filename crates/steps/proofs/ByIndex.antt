-- The step at a place by arithmetic: after the opening, i div m tells the page and i mod m the step of the page, m being how many steps a
-- page takes.
-- Assumes nothing.
use Prim.Native.Nat.{ℕ, zero, suc, ◌+◌, ◌-◌, ◌*◌, ◌/◌, ◌<◌, ◌≤◌}
use native.Mathlib.Nat.{not-suc-le-zero, le_of_suc-le-suc, div-mul-le_self, div-lt_iff_lt-mul, mul-le-mul_right}
use native.Mathlib.Omega.{arith}
use mathlib.Core.Path.{◌≡◌, refl, sym, ap, ◌∙◌}
use mathlib.Core.Bool.{Bool, true, false}
use mathlib.Core.List.{List, [], ◌∷◌, ◌++◌}
use lib.ListN.{length}
use Rattle.geometry.specs.declared.Geometry.{Geometry}
use Rattle.slots.specs.declared.Kind.{Kind}
use Rattle.slots.specs.declared.Kind.TheVariants.{Put, Patch, Get, Wipe}
use Rattle.slots.specs.declared.Step.{Step}
use Rattle.slots.specs.declared.Step.TheVariants.{Wait, Protection, Lockdown, End}
use Rattle.slots.specs.Plans.{pages, opening, is_asking, page_steps, run_by, plan_by, step_at}
use Rattle.steps.specs.Places.{per_page, page_count}

at_left : (xs ys : List Step) (i : ℕ) → i < length xs → step_at (xs ++ ys) i ≡ step_at xs i
unfolding step_at
at_left [] ys i l = absurd (not-suc-le-zero l)
at_left (x ∷ xs) ys zero l = refl
at_left (x ∷ xs) ys (suc i) l = at_left xs ys i (le_of_suc-le-suc l)

at_right : (xs ys : List Step) (i j : ℕ) → i ≡ length xs + j → step_at (xs ++ ys) i ≡ step_at ys j
unfolding step_at
at_right [] ys i j e = ap (step_at ys) (e ∙ omega arith)
at_right (x ∷ xs) ys zero j e = absurd (omega arith)
at_right (x ∷ xs) ys (suc i) j e = at_right xs ys i j (omega arith)

module _ (m : ℕ) (f : ℕ → List Step) (each : (p : ℕ) → length (f p) ≡ m) where
  pages_at : (n k q j i : ℕ) → q < n → j < m → i ≡ q * m + j → step_at (pages n k f) i ≡ step_at (f (k + q)) j
  unfolding pages
  pages_at zero k q j i l u e = absurd (not-suc-le-zero l)
  pages_at (suc n) k zero j i l u e =
      let s = each k in
      let z : i ≡ j = omega arith in
      let y : k ≡ k + 0 = omega arith in
      at_left (f k) (pages n (suc k) f) i (omega (arith, s)) ∙ (λ t. step_at (f (y t)) (z t))
  pages_at (suc n) k (suc q) j i l u e =
      let s = each k in
      let y : suc k + q ≡ k + suc q = omega arith in
      at_right (f k) (pages n (suc k) f) i (q * m + j) (omega (arith, s, e)) ∙ pages_at n (suc k) q j (q * m + j) (le_of_suc-le-suc l) u refl ∙ ap (λ (p : ℕ). step_at (f p) j) y

  pages-end : (n k i : ℕ) → n * m ≤ i → step_at (pages n k f) i ≡ End
  unfolding pages step_at
  pages-end zero k i l = refl
  pages-end (suc n) k i l =
      let s = each k in
      at_right (f k) (pages n (suc k) f) i (i - m) (omega (arith, s, l)) ∙ pages-end n (suc k) (i - m) (omega arith)

-- ---- how the plans are laid out

per_page_lem : (k : Kind) (p : ℕ) → length (page_steps k p) ≡ per_page k
unfolding page_steps per_page
per_page_lem Put p = refl
per_page_lem Patch p = refl
per_page_lem Get p = refl
per_page_lem Wipe p = refl

run-first : (k : Kind) (g : Geometry) (slot : ℕ) → (run_by k g slot).first ≡ 8 * slot
unfolding run_by
run-first Put g slot = refl
run-first Patch g slot = refl
run-first Get g slot = refl
run-first Wipe g slot = refl

run-count : (k : Kind) (g : Geometry) (slot : ℕ) → (run_by k g slot).count ≡ page_count k
unfolding run_by page_count
run-count Put g slot = refl
run-count Patch g slot = refl
run-count Get g slot = refl
run-count Wipe g slot = refl

-- ---- as the code has it: n steps open, m a page

-- page q's steps begin no later than a step of the page
pub page_low : {m q j : ℕ} (k : Kind) → m ≡ per_page k → q ≡ j / per_page k → q * m ≤ j
page_low {m} {q} {j} k f d = omega (arith, div-mul-le_self j m, ap (λ (x : ℕ). x * m) (d ∙ ap (λ (x : ℕ). j / x) (sym f)))

module _ (k : Kind) (g : Geometry) (slot : ℕ) where
  laid_out : plan_by k g slot ≡ opening (is_asking k) ++ pages (page_count k) (8 * slot) (page_steps k)
  unfolding plan_by
  laid_out = λ i. opening (is_asking k) ++ pages (run-count k g slot i) (run-first k g slot i) (page_steps k)

  pub at_opening : {n : ℕ} (i : ℕ) → n ≡ length (opening (is_asking k)) → i < n → step_at (opening (is_asking k)) i ≡ step_at (plan_by k g slot) i
  at_opening i e l =
      sym (at_left (opening (is_asking k)) (pages (page_count k) (8 * slot) (page_steps k)) i (omega (arith, e))) ∙ ap (λ (xs : List Step). step_at xs i) (sym laid_out)

  pub at_page : {n m q : ℕ} (i : ℕ) → n ≡ length (opening (is_asking k)) → m ≡ per_page k → 0 < m → n ≤ i → q ≡ (i - n) / per_page k → q < page_count k
      → step_at (page_steps k (8 * slot + q)) (i - n - q * m) ≡ step_at (plan_by k g slot) i
  at_page {n} {m} {q} i e f z l d u =
      let low = page_low k f d in
      let high : i - n < suc q * m = (div-lt_iff_lt-mul z).0 (omega (arith, d, ap (λ (x : ℕ). (i - n) / x) f)) in
      let r : i - n ≡ q * m + (i - n - q * m) = omega (arith, low) in
      sym (ap (λ (xs : List Step). step_at xs i) laid_out
      ∙ at_right (opening (is_asking k)) (pages (page_count k) (8 * slot) (page_steps k)) i (i - n) (omega (arith, e))
      ∙ pages_at m (page_steps k) (λ p. per_page_lem k p ∙ sym f) (page_count k) (8 * slot) q (i - n - q * m) (i - n) u (omega (arith, low, high)) r)

  pub at_end : {n q : ℕ} (i : ℕ) → n ≡ length (opening (is_asking k)) → n ≤ i → q ≡ (i - n) / per_page k → page_count k ≤ q → End ≡ step_at (plan_by k g slot) i
  at_end {n} {q} i e l d u =
      let low = page_low k refl d in
      let c : page_count k * per_page k ≤ q * per_page k = mul-le-mul_right (per_page k) u in
      sym (ap (λ (xs : List Step). step_at xs i) laid_out
      ∙ at_right (opening (is_asking k)) (pages (page_count k) (8 * slot) (page_steps k)) i (i - n) (omega (arith, e))
      ∙ pages-end (per_page k) (page_steps k) (per_page_lem k) (page_count k) (8 * slot) (i - n) (omega (arith, low, c)))

-- ---- the first steps, by their number

pub at_later : (x : Step) (xs : List Step) (j : ℕ) → (j ≡ 0 → ⊥) → step_at xs (j - 1) ≡ step_at (x ∷ xs) j
unfolding step_at
at_later x xs zero e = absurd (e refl)
at_later x xs (suc j) e = let z : suc j - 1 ≡ j = omega arith in ap (step_at xs) z

pub at_third : (x y z : Step) (xs : List Step) (j : ℕ) → j ≡ 2 → z ≡ step_at (x ∷ y ∷ z ∷ xs) j
unfolding step_at
at_third x y z xs j e = ap (step_at (x ∷ y ∷ z ∷ xs)) (sym e)

pub at_one : (x : Step) (j : ℕ) → (j ≡ 0 → ⊥) → End ≡ step_at (x ∷ []) j
unfolding step_at
at_one x zero e = absurd (e refl)
at_one x (suc j) e = refl

-- a step, two, and the rest
pub at_programmed : (x y z : Step) (xs : List Step) (j : ℕ) → (j ≡ 0 → ⊥) → j < 3 → step_at (y ∷ z ∷ []) (j - 1) ≡ step_at (x ∷ y ∷ z ∷ xs) j
at_programmed x y z xs j e l =
    sym (at_left (y ∷ z ∷ []) xs (j - 1) (omega arith)) ∙ at_later x (y ∷ z ∷ xs) j e

pub at_compared : (x y z : Step) (xs : List Step) (j : ℕ) → 3 ≤ j → step_at xs (j - 3) ≡ step_at (x ∷ y ∷ z ∷ xs) j
at_compared x y z xs j l = sym (at_right (x ∷ y ∷ z ∷ []) xs j (j - 3) (omega arith))

-- two steps, then the end
pub at_two : (x y : Step) (j : ℕ) → (j ≡ 0 → ⊥) → (j ≡ 1 → ⊥) → End ≡ step_at (x ∷ y ∷ []) j
unfolding step_at
at_two x y zero e f = absurd (e refl)
at_two x y (suc zero) e f = absurd (f refl)
at_two x y (suc (suc j)) e f = refl

-- ---- the opening, with or without 32 and 35

pub opens_third : (i : ℕ) → (i ≡ 0 → ⊥) → (i ≡ 1 → ⊥) → (b : Bool) → i < length (opening b) → Lockdown ≡ step_at (opening b) i
opens_third i e f true l = at_third (Wait false) Protection Lockdown [] i (omega arith)
opens_third i e f false l = absurd (omega arith)
