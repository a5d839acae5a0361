-- A reply by the stage as it counts: an ended state stays as it is, one that goes on takes the reply in.
-- Assumes nothing.
use Rattle.state.specs.declared.Answer.{Answer}
use Rattle.std.specs.Prelude.{Option, Some}
use Prim.Native.Nat.{ℕ}
use mathlib.Core.Path.{◌≡◌, sym, ap, ◌∙◌}
use mathlib.Core.Bool.{true, false}
use mathlib.Core.List.{List}
use Rattle.geometry.specs.declared.Geometry.{Geometry}
use Rattle.slots.specs.declared.Driver.{Driver}
use Rattle.slots.specs.Driver.{is_ended}
use Rattle.slots.proofs.Accepted.{picked}
use Rattle.slots.proofs.Driven.{other}
use Rattle.worlds.specs.Turns.{with, data_after, took_on}
use Rattle.worlds.specs.Step.{stage_by, staged_at, took_by, staged_by}

-- ---- a reply by the stage as it counts

module _ (g : Geometry) (d : Driver) (payload staged reply : List ℕ) where
  pub ended_took : {s : Option Answer} {f : Driver} → s ≡ stage_by (Some g) d → is_ended s ≡ true → f ≡ with d d.verdict (staged_at s d.course)
      → (f ≡ took_by (Some g) d payload staged reply) × (staged ≡ staged_by (Some g) d payload staged reply)
  unfolding took_by staged_by
  ended_took s e h =
      let b : is_ended (stage_by (Some g) d) ≡ true = ap is_ended (sym s) ∙ e in (
        h ∙ ap (λ (z : Option Answer). with d d.verdict (staged_at z d.course)) s ∙ sym (picked (is_ended (stage_by (Some g) d)) _ _ b),
        sym (picked (is_ended (stage_by (Some g) d)) _ _ b),
      )

  pub going_took : {f : Driver} {ys : List ℕ} → is_ended (stage_by (Some g) d) ≡ false
      → (f ≡ took_on g d payload staged reply) × (ys ≡ (data_after g d payload staged reply).staged)
      → (f ≡ took_by (Some g) d payload staged reply) × (ys ≡ staged_by (Some g) d payload staged reply)
  unfolding took_by staged_by
  going_took e h = (h.0 ∙ sym (other (is_ended (stage_by (Some g) d)) _ _ e), h.1 ∙ sym (other (is_ended (stage_by (Some g) d)) _ _ e))
