-- `dates::common_days` meets its contract: each month's number is the sum of the definition, computed.
-- Assumes nothing.
use Prim.Native.Nat.{ℕ, ◌+◌, ◌-◌, ◌≤◌}
use native.Mathlib.Omega.{arith}
use mathlib.Core.Bool.{false}
use mathlib.Core.Path.{◌≡◌, refl, sym, ap, ◌∙◌}
use Rattle.dates.specs.Calendar.{days_in_month, days_of_months}
use Rattle.dates.proofs.common_days.Goals as goal

-- a month whose number is known
known : (month m n : ℕ) → month ≡ m → n ≡ days_of_months false (m - 1) → n ≤ 334 → (n ≡ days_of_months false (month - 1)) × (n ≤ 334)
known month m n e h l = (h ∙ ap (λ (k : ℕ). days_of_months false (k - 1)) (sym e), l)

-- a number that is at least k and not k is more
beyond : (k month : ℕ) → k ≤ month → (month ≡ k → ⊥) → k + 1 ≤ month
beyond k month l n = omega (arith, n)

last : (month : ℕ) → 12 ≤ month → month ≤ 12 → month ≡ 12
last month l h = omega arith

pub returns-in-1 : goal.returns-in-1
unfolding days_of_months days_in_month
returns-in-1 c = known _ 1 _ c.in-1.is refl (omega arith)

pub returns-in-2 : goal.returns-in-2
unfolding days_of_months days_in_month
returns-in-2 c = known _ 2 _ c.in-2.is refl (omega arith)

pub returns-in-3 : goal.returns-in-3
unfolding days_of_months days_in_month
returns-in-3 c = known _ 3 _ c.in-3.is refl (omega arith)

pub returns-in-4 : goal.returns-in-4
unfolding days_of_months days_in_month
returns-in-4 c = known _ 4 _ c.in-4.is refl (omega arith)

pub returns-in-5 : goal.returns-in-5
unfolding days_of_months days_in_month
returns-in-5 c = known _ 5 _ c.in-5.is refl (omega arith)

pub returns-in-6 : goal.returns-in-6
unfolding days_of_months days_in_month
returns-in-6 c = known _ 6 _ c.in-6.is refl (omega arith)

pub returns-in-7 : goal.returns-in-7
unfolding days_of_months days_in_month
returns-in-7 c = known _ 7 _ c.in-7.is refl (omega arith)

pub returns-in-8 : goal.returns-in-8
unfolding days_of_months days_in_month
returns-in-8 c = known _ 8 _ c.in-8.is refl (omega arith)

pub returns-in-9 : goal.returns-in-9
unfolding days_of_months days_in_month
returns-in-9 c = known _ 9 _ c.in-9.is refl (omega arith)

pub returns-in-10 : goal.returns-in-10
unfolding days_of_months days_in_month
returns-in-10 c = known _ 10 _ c.in-10.is refl (omega arith)

pub returns-in-11 : goal.returns-in-11
unfolding days_of_months days_in_month
returns-in-11 c = known _ 11 _ c.in-11.is refl (omega arith)

pub returns-in_default : goal.returns-in_default
unfolding days_of_months days_in_month
returns-in_default c =
    let m = c.args.month in
    let r = c.in_default.in_default-own.rest in
    let a : 5 ≤ m = beyond 4 m (beyond 3 m (beyond 2 m (beyond 1 m c.requires.0 r.0.0.0.0.0.0.0.0.0.0.1) r.0.0.0.0.0.0.0.0.0.1) r.0.0.0.0.0.0.0.0.1) r.0.0.0.0.0.0.0.1 in
    let b : 9 ≤ m = beyond 8 m (beyond 7 m (beyond 6 m (beyond 5 m a r.0.0.0.0.0.0.1) r.0.0.0.0.0.1) r.0.0.0.0.1) r.0.0.0.1 in
    let l : 12 ≤ m = beyond 11 m (beyond 10 m (beyond 9 m b r.0.0.1) r.0.1) r.1 in
    known m 12 _ (last m l c.requires.1) refl (omega arith)
