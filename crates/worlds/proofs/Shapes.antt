-- How long a step's frame is, whatever its data: at least a byte, and never more than the longest has, a D2 over the largest page.
-- Assumes nothing.
use Prim.Native.Nat.{◌≤◌}
use native.Mathlib.Omega.{arith}
use mathlib.Core.Path.{◌≡◌, sym}
use mathlib.Core.Bool.{false}
use lib.ListN.{length}
use Rattle.geometry.specs.Parts.{page_room}
use Rattle.slices.proofs.Laws.{length-tabulate}
use Rattle.geometry.specs.declared.Geometry.{Geometry}
use Rattle.slots.specs.declared.Kind.{Kind}
use Rattle.slots.specs.declared.Step.{Step}
use Rattle.slots.specs.declared.Step.TheVariants.{Wait, Protection, Lockdown, Read, Load, Send, End}
use Rattle.slots.specs.Plans.{is_end}
use Rattle.slots.specs.Driver.{Holding, shape_of, frame_byte, loaded, frame_of, frame_room}
use Rattle.slots.proofs.Places.{never}

pub frame-length : (g : Geometry) (k : Kind) (h : Holding) (x : Step) → length (frame_of g k h x) ≡ (shape_of g x).length
frame-length g k h x = length-tabulate (shape_of g x).length (frame_byte (shape_of g x) (loaded g k h x))

pub shape_some : (g : Geometry) (x : Step) → is_end x ≡ false → 1 ≤ (shape_of g x).length
unfolding shape_of is_end
shape_some g (Wait c) e = omega arith
shape_some g Protection e = omega arith
shape_some g Lockdown e = omega arith
shape_some g (Read p) e = omega arith
shape_some g (Load p) e = omega arith
shape_some g (Send c p) e = omega arith
shape_some g End e = never (sym e)

pub shape_fits : (g : Geometry) (x : Step) → g.size ≤ page_room → g.register ≤ page_room → (shape_of g x).length ≤ frame_room
unfolding shape_of
shape_fits g (Wait c) h l = omega arith
shape_fits g Protection h l = omega arith
shape_fits g Lockdown h l = omega arith
shape_fits g (Read p) h l = omega arith
shape_fits g (Load p) h l = omega arith
shape_fits g (Send c p) h l = omega arith
shape_fits g End h l = omega arith
