-- No step of a plan is the end, so a place is the end exactly from the plan's length on.
-- Assumes nothing.
use Prim.Native.Nat.{ℕ, zero, suc}
use mathlib.Core.Path.{◌≡◌, sym, ap, ◌∙◌}
use mathlib.Core.Bool.{true, not}
use mathlib.Core.List.{List, [], ◌∷◌}
use lib.ListN.{length}
use lib.Dec.{leb, leb-zero, leb-suc-zero, leb-suc-suc}
use borrow.Author.Tests.{not-true}
use Rattle.geometry.specs.declared.Geometry.{Geometry}
use Rattle.slots.specs.declared.Kind.{Kind}
use Rattle.slots.specs.declared.Step.{Step}
use Rattle.slots.specs.Plans.{plan_by, step_at, is_end, frames_of}
use Rattle.slots.proofs.Counts.{steps}
use Rattle.slots.proofs.Places.{every, both, second, plan_proper}

end_from : (xs : List Step) (i : ℕ) → every (λ x. not (is_end x)) xs ≡ true → leb (length xs) i ≡ is_end (step_at xs i)
unfolding step_at is_end every
end_from [] i e = leb-zero i
end_from (x ∷ xs) zero e = leb-suc-zero (length xs) ∙ sym (not-true (is_end x) (both (not (is_end x)) (every (λ x. not (is_end x)) xs) e))
end_from (x ∷ xs) (suc i) e = leb-suc-suc (length xs) i ∙ end_from xs i (second (not (is_end x)) (every (λ x. not (is_end x)) xs) e)

-- a plan of n + 1 steps has its last at place n
pub last_from : {n : ℕ} (k : Kind) (i : ℕ) → frames_of k ≡ suc n → (g : Geometry) (slot : ℕ) → leb n i ≡ is_end (step_at (plan_by k g slot) (suc i))
last_from {n} k i e g slot =
    sym (leb-suc-suc n i) ∙ ap (λ (m : ℕ). leb m (suc i)) (sym (steps k g slot ∙ e)) ∙ end_from (plan_by k g slot) (suc i) (plan_proper k g slot)
