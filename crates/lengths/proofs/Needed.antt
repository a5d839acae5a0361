-- The lengths that are lent: what a command needs is what the calls' definitions say, and each length lies within its room, since `min` is at most
-- each of its two numbers and a known part's array is short enough.
-- Assumes nothing.
use Rattle.std.specs.Prelude.{None, Option, Some}
use mathlib.Core.Path.{◌≡◌, refl, sym, ap, ◌∙◌}
use mathlib.Core.Bool.{true}
use Prim.Native.Nat.{ℕ, ◌+◌, ◌-◌, ◌*◌, ◌≤◌, min}
use native.Mathlib.Omega.{arith}
use lib.Dec.{eqb}
use borrow.Author.Tests.{eq-eqb}
use Rattle.geometry.specs.declared.Geometry.{Geometry}
use Rattle.geometry.specs.Parts.{part_of, Sized}
use Rattle.geometry.proofs.Pages.{sized, sized_small}
use Rattle.state.specs.Outcomes.{cut_fits}
use Rattle.slots.specs.Plans.{stated}
use Rattle.slots.specs.Records.{head_size, limit_of, slot_size}
use Rattle.words.specs.declared.Command.{Command}
use Rattle.words.specs.declared.Command.TheVariants as C
use Rattle.lengths.specs.Lengths.{log_room, out_room, junk_room, frames_for, log_for, junk_for, buffer_for}

-- the junk as long as needed is what a cut takes
pub junk-fits : (g : Geometry) (n : ℕ) → cut_fits g n (junk_for (Some g) n) ≡ true
unfolding cut_fits junk_for
junk-fits g n = eq-eqb (2 * g.size + n) (2 * g.size + n) refl

-- there is room for any log as long as needed
pub log-fits : (c : Command) (b : ℕ) → log_for c b ≤ log_room
unfolding log_for frames_for stated
log-fits C.Put b = omega arith
log-fits C.Patch b = omega arith
log-fits C.Get b = omega arith
log-fits C.Wipe b = omega arith
log-fits C.Raw b = omega arith
log-fits C.Send b = omega arith
log-fits C.End b = omega arith
log-fits C.Pin b = omega arith
log-fits C.Cut b = omega arith
log-fits C.Part b = omega arith
log-fits C.Sum b = omega arith

module _ (n : ℕ) {g : Geometry} {p : Option Geometry} (e : p ≡ part_of n) (k : p ≡ Some g) where
  fits : Sized g n
  fits = sized n g (sym e ∙ k)

  pub junk-small : 2 * g.size + n ≤ junk_room
  junk-small = omega (arith, fits.most, fits.whole, sized_small g n fits)

  pub buffer-small : 8 * g.size ≤ out_room
  buffer-small = omega (arith, fits.most)

  pub page_some : 64 ≤ g.size
  page_some = fits.some

  pub junk_known : 2 * g.size + n ≡ junk_for (part_of n) n
  unfolding junk_for
  junk_known = ap (λ (q : Option Geometry). junk_for q n) (sym k ∙ e)

  pub buffer_known : 8 * g.size - 3 ≡ buffer_for (part_of n)
  unfolding buffer_for head_size limit_of slot_size
  buffer_known = ap buffer_for (sym k ∙ e)

module _ (n : ℕ) {p : Option Geometry} (e : p ≡ part_of n) (k : p ≡ None) where
  pub junk_unknown : 0 ≡ junk_for (part_of n) n
  unfolding junk_for
  junk_unknown = ap (λ (q : Option Geometry). junk_for q n) (sym k ∙ e)

  pub buffer_unknown : 0 ≡ buffer_for (part_of n)
  unfolding buffer_for
  buffer_unknown = ap buffer_for (sym k ∙ e)
