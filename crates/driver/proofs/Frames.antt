-- The frame of a state that counts as going is its step's, which is no longer than the buffer; any other state has none.
-- Assumes nothing.
use Rattle.std.specs.Prelude.{Option, Some}
use Prim.Native.Nat.{ℕ, ◌≤◌}
use native.Mathlib.Omega.{arith}
use mathlib.Core.Path.{◌≡◌, refl, sym, ap, ◌∙◌}
use mathlib.Core.Bool.{Bool, true, false}
use mathlib.Core.List.{List, []}
use lib.ListN.{length, take}
use Rattle.slices.specs.Lists.{over}
use Rattle.slices.proofs.Laws.{over_nil, over_front}
use Rattle.geometry.specs.declared.Geometry.{Geometry}
use Rattle.geometry.specs.Parts.{part_of}
use Rattle.slots.specs.declared.Driver.{Driver}
use Rattle.slots.specs.declared.Step.{Step}
use Rattle.slots.specs.Driver.{shape_of, frame_of, is_ended, frame_room}
use Rattle.slots.proofs.Accepted.{picked}
use Rattle.slots.proofs.Driven.{other}
use Rattle.records.proofs.Parts.{part_pages}
use Rattle.worlds.proofs.Shapes.{frame-length, shape_fits}
use Rattle.worlds.specs.Turns.{holding_of, step_in}
use Rattle.worlds.specs.Step.{stage_by, frame_by, frame_in}

-- ---- what is written

pub nothing : (f xs : List ℕ) → f ≡ [] → (0 ≡ length f) × (xs ≡ over f xs)
nothing f xs e = (ap length (sym e), sym (over_nil xs) ∙ ap (λ (l : List ℕ). over l xs) (sym e))

module _ (d : Driver) (payload staged : List ℕ) where
  -- ---- the frame by the stage as it counts

  pub ended-frame : (g : Geometry) → is_ended (stage_by (Some g) d) ≡ true → frame_by (Some g) d payload staged ≡ []
  unfolding frame_by
  ended-frame g e = picked (is_ended (stage_by (Some g) d)) [] _ e

  going-frame : (g : Geometry) → is_ended (stage_by (Some g) d) ≡ false → frame_by (Some g) d payload staged ≡ frame_of g d.kind (holding_of d payload staged) (step_in g d)
  unfolding frame_by
  going-frame g e = other (is_ended (stage_by (Some g) d)) [] _ e

  -- what was written for the step at the place is the state's frame
  pub written : (g : Geometry) (xs : List ℕ) {x : Step} {n : ℕ} {ys : List ℕ} → is_ended (stage_by (Some g) d) ≡ false → x ≡ step_in g d
      → (n ≡ (shape_of g x).length) × (ys ≡ over (frame_of g d.kind (holding_of d payload staged) x) xs)
      → (n ≡ length (frame_by (Some g) d payload staged)) × (ys ≡ over (frame_by (Some g) d payload staged) xs)
  written g xs {x} e s w =
      let f : frame_of g d.kind (holding_of d payload staged) x ≡ frame_by (Some g) d payload staged =
      ap (λ (y : Step). frame_of g d.kind (holding_of d payload staged) y) s ∙ sym (going-frame g e) in
      (w.0 ∙ sym (frame-length g d.kind (holding_of d payload staged) x) ∙ ap (λ (l : List ℕ). length l) f, w.1 ∙ ap (λ (l : List ℕ). over l xs) f)

  -- ---- the frame's length

  pub frame-fits : (g : Geometry) → part_of d.array ≡ Some g → length (frame_by (Some g) d payload staged) ≤ frame_room
  frame-fits g p = go (is_ended (stage_by (Some g) d)) refl
    where
      go : (b : Bool) → is_ended (stage_by (Some g) d) ≡ b → length (frame_by (Some g) d payload staged) ≤ frame_room
      go true e = omega (arith, ap (λ (l : List ℕ). length l) (ended-frame g e))
      go false e =
          omega (arith, ap (λ (l : List ℕ). length l) (going-frame g e), frame-length g d.kind (holding_of d payload staged) (step_in g d), shape_fits g (step_in g d) (part_pages d.array g p).most (omega (arith, (part_pages d.array g p).full)))

  -- the buffer after a frame by the array's part
  pub framed : (xs : List ℕ) {p : Option Geometry} {n : ℕ} {ys : List ℕ} → p ≡ part_of d.array → length (frame_by p d payload staged) ≤ length xs
      → (n ≡ length (frame_by p d payload staged)) × (ys ≡ over (frame_by p d payload staged) xs)
      → (n ≡ length (frame_in d payload staged)) × (take n ys ≡ frame_in d payload staged) × (ys ≡ over (frame_in d payload staged) xs)
  unfolding frame_in
  framed xs {p} {n} {ys} e h w =
      let f : frame_by p d payload staged ≡ frame_in d payload staged = ap (λ (q : Option Geometry). frame_by q d payload staged) e in (
        w.0 ∙ ap (λ (z : List ℕ). length z) f,
        over_front (frame_by p d payload staged) xs w.0 h w.1 ∙ f,
        w.1 ∙ ap (λ (z : List ℕ). over z xs) f,
      )
