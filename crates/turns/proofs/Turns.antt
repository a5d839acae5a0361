-- What a turn's code goes by: a sound state's place lies in the plan, and its slot's pages in the part.
-- Assumes nothing.
use Prim.Native.Nat.{ℕ, ◌*◌, ◌+◌, ◌<◌}
use native.Mathlib.Omega.{arith}
use mathlib.Core.Path.{◌≡◌, refl}
use mathlib.Core.Bool.{Bool, true, false, cond, ◌&&◌}
use mathlib.Core.List.{List}
use Rattle.geometry.specs.Parts.{register_room, Sized}
use Rattle.geometry.specs.declared.Geometry.{Geometry}
use Rattle.geometry.specs.Sectors.{sector_of}
use Rattle.geometry.proofs.Pages.{sized, sized_own}
use Rattle.geometry.proofs.Sectors.{sector_served}
use Rattle.slots.specs.declared.Driver.{Driver}
use Rattle.slots.specs.declared.Kind.{Kind}
use Rattle.slots.specs.declared.Step.{Step}
use Rattle.slots.specs.declared.Step.TheVariants.{Wait, Protection, Lockdown, Read, Load, Send, End}
use Rattle.slots.specs.Driver.{Holding, compare_in, miscomparing, marred, taken_by}
use Rattle.slots.proofs.Counts.{place-few}
use Rattle.records.specs.Held.{Pages}
use Rattle.records.proofs.Parts.{part_pages}
use Rattle.worlds.specs.Turns.{Sound}

module _ {g : Geometry} {d : Driver} (s : Sound g d) where
  pub sound-pages : Pages g
  sound-pages = part_pages d.array g s.part

  pub sound_sized : Sized g (g.pages * g.size)
  sound_sized = sized_own g d.array (sized d.array g s.part)

  pub sound-slot : 8 * d.slot < 4096
  sound-slot = omega (arith, s.slot, sound_sized.few)

  -- its sector is one that the registers serve
  pub sound_sector : {t : ℕ} → t ≡ sector_of g (8 * d.slot) → t < register_room + 1
  sound_sector e = omega (arith, e, sector_served g (g.pages * g.size) (8 * d.slot) sound_sized (omega (arith, s.slot)))

  pub sound-place : d.course.place < 1000
  sound-place = omega (arith, place-few d.kind g d.slot d.course.place s.step)

-- ---- steps by their form

-- a reply to any other step than a wait or a read carries no data
pub taken_none : (x : Step) (g : Geometry) (k : Kind) (h : Holding) (reply : List ℕ) → ((c : Bool) → x ≡ Wait c → ⊥) → ((p : ℕ) → x ≡ Read p → ⊥) → h ≡ taken_by x g k h reply
unfolding taken_by
taken_none (Wait c) g k h reply w r = absurd (w c refl)
taken_none Protection g k h reply w r = refl
taken_none Lockdown g k h reply w r = refl
taken_none (Read p) g k h reply w r = absurd (r p refl)
taken_none (Load p) g k h reply w r = refl
taken_none (Send c p) g k h reply w r = refl
taken_none End g k h reply w r = refl

-- a wait's the verdict alone
pub taken_wait : (c : Bool) (g : Geometry) (k : Kind) (h : Holding) (reply : List ℕ)
    → (cond (c && compare_in reply) (miscomparing h.verdict) h.verdict ≡ (taken_by (Wait c) g k h reply).verdict) × (h.staged ≡ (taken_by (Wait c) g k h reply).staged)
unfolding taken_by
taken_wait c g k h reply = go (c && compare_in reply)
  where
    go : (b : Bool) → (cond b (miscomparing h.verdict) h.verdict ≡ (cond b (marred h) h).verdict) × (h.staged ≡ (cond b (marred h) h).staged)
    go true = (refl, refl)
    go false = (refl, refl)
