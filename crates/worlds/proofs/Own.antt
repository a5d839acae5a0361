-- WHATEVER THE STATE, its frame is that of a step of its call's plan, or none: the frame is looked up in the plan.
-- Assumes nothing.
use Rattle.std.specs.Prelude.{None, Option, Some}
use Prim.Native.Nat.{ℕ, zero, suc}
use mathlib.Core.Path.{◌≡◌, refl, sym, ap, ◌∙◌}
use mathlib.Core.Bool.{Bool, true, false}
use mathlib.Core.List.{List, [], ◌∷◌}
use mathlib.Core.Logic.{◌⊎◌, inl, inr}
use lib.ListN.{get_or}
use Rattle.slices.proofs.Laws.{get_or-tabulate}
use Rattle.geometry.specs.declared.Geometry.{Geometry}
use Rattle.geometry.specs.Parts.{part_of}
use Rattle.slots.specs.declared.Driver.{Driver}
use Rattle.slots.specs.declared.Kind.{Kind}
use Rattle.slots.specs.declared.Kind.TheVariants.{Put, Patch, Get, Wipe}
use Rattle.slots.specs.declared.Step.{Step}
use Rattle.slots.specs.Plans.{is_asking, page_steps, plan_by, plan_of, step_at, is_end}
use Rattle.slots.specs.Driver.{Holding, opcode_of, shape_of, frame_byte, loaded, frame_of, is_ended}
use Rattle.slots.proofs.Places.{never, both, second, every, every_plan}
use Rattle.slots.proofs.Accepted.{picked}
use Rattle.slots.proofs.Driven.{other}
use Rattle.worlds.specs.Own.{asks, may_begin}
use Rattle.worlds.specs.Turns.{asked_of, holding_of, step_in}
use Rattle.worlds.specs.Step.{stage_by, frame_by, frame_in}
use Rattle.worlds.proofs.Sane.{going-facts}
use Rattle.worlds.proofs.Shapes.{shape_some}

-- the frame is that of the step at the place
pub record Own (d : Driver) (payload staged : List ℕ) : Type 0 where
  pub geometry : Geometry
  pub part : part_of d.array ≡ Some geometry
  pub step : is_end (step_at (plan_of geometry (asked_of d)) d.course.place) ≡ false
  pub frame : frame_in d payload staged ≡ frame_of geometry d.kind (holding_of d payload staged) (step_in geometry d)

pub own_plan : (d : Driver) (payload staged : List ℕ) → (frame_in d payload staged ≡ []) ⊎ Own d payload staged
unfolding frame_in frame_by
own_plan d payload staged = go (part_of d.array) refl
  where
    on : (g : Geometry) → part_of d.array ≡ Some g → (b : Bool) → is_ended (stage_by (Some g) d) ≡ b → (frame_in d payload staged ≡ []) ⊎ Own d payload staged
    on g p true e = inl (ap (λ (q : Option Geometry). frame_by q d payload staged) p ∙ picked (is_ended (stage_by (Some g) d)) [] _ e)
    on g p false e =
        inr (record {
          geometry = g;
          part = p;
          step = (going-facts g d e).1.step;
          frame = ap (λ (q : Option Geometry). frame_by q d payload staged) p ∙ other (is_ended (stage_by (Some g) d)) [] _ e;
        })

    go : (p : Option Geometry) → part_of d.array ≡ p → (frame_in d payload staged ≡ []) ⊎ Own d payload staged
    go (Some g) p = on g p (is_ended (stage_by (Some g) d)) refl
    go None p = inl (ap (λ (q : Option Geometry). frame_by q d payload staged) p)

-- ---- opcodes

every_at : (f : Step → Bool) (xs : List Step) (i : ℕ) → every f xs ≡ true → is_end (step_at xs i) ≡ false → f (step_at xs i) ≡ true
unfolding every step_at is_end
every_at f [] i e h = never (sym h)
every_at f (x ∷ xs) zero e h = both (f x) (every f xs) e
every_at f (x ∷ xs) (suc i) e h = every_at f xs i (second (f x) (every f xs) e) h

opcodes : (k : Kind) (g : Geometry) (slot : ℕ) → every (λ x. may_begin k (shape_of g x).opcode) (plan_by k g slot) ≡ true
unfolding every is_asking page_steps may_begin asks shape_of opcode_of
opcodes Put g slot = every_plan (λ x. may_begin Put (shape_of g x).opcode) Put g slot refl (λ p. refl)
opcodes Patch g slot = every_plan (λ x. may_begin Patch (shape_of g x).opcode) Patch g slot refl (λ p. refl)
opcodes Get g slot = every_plan (λ x. may_begin Get (shape_of g x).opcode) Get g slot refl (λ p. refl)
opcodes Wipe g slot = every_plan (λ x. may_begin Wipe (shape_of g x).opcode) Wipe g slot refl (λ p. refl)

first_byte : (g : Geometry) (k : Kind) (h : Holding) (x : Step) → is_end x ≡ false → get_or (frame_of g k h x) 0 0 ≡ (shape_of g x).opcode
unfolding frame_byte
first_byte g k h x e = get_or-tabulate (shape_of g x).length (frame_byte (shape_of g x) (loaded g k h x)) 0 0 (shape_some g x e)

-- OWN OPCODES: no state of a get programs or erases, and only a wipe's erases
pub own_opcode : (d : Driver) (payload staged : List ℕ) → (frame_in d payload staged ≡ []) ⊎ (may_begin d.kind (get_or (frame_in d payload staged) 0 0) ≡ true)
own_opcode d payload staged = go (own_plan d payload staged)
  where
    go : (frame_in d payload staged ≡ []) ⊎ Own d payload staged → (frame_in d payload staged ≡ []) ⊎ (may_begin d.kind (get_or (frame_in d payload staged) 0 0) ≡ true)
    go (inl e) = inl e
    go (inr w) =
        let g = w.geometry in
        inr (ap (λ (f : List ℕ). may_begin d.kind (get_or f 0 0)) w.frame
        ∙ ap (may_begin d.kind) (first_byte g d.kind (holding_of d payload staged) (step_in g d) w.step)
        ∙ every_at (λ x. may_begin d.kind (shape_of g x).opcode) (plan_of g (asked_of d)) d.course.place (opcodes d.kind g d.slot) w.step)
