-- A state that counts as going is sound: the test of states asks for a slot of the part and for a step at the place, and a part has at most 4,096 pages.
-- Assumes nothing.
use Rattle.std.specs.Prelude.{Some}
use Prim.Native.Nat.{ℕ, ◌<◌, ◌*◌}
use native.Mathlib.Omega.{arith}
use mathlib.Core.Path.{◌≡◌, sym, ◌∙◌}
use mathlib.Core.Bool.{true, false}
use lib.Dec.{eqb}
use borrow.Author.Tests.{eq-eqb, ne_eqb}
use Rattle.geometry.specs.declared.Geometry.{Geometry}
use Rattle.geometry.specs.Parts.{part_of}
use Rattle.geometry.proofs.Pages.{sized}
use Rattle.state.specs.declared.Answer.{Answer}
use Rattle.state.specs.Answers.{number_of}
use Rattle.slots.specs.declared.Driver.{Driver}
use Rattle.slots.specs.Driver.{is_ended}
use Rattle.slots.specs.Refusals.{early_refusal}
use Rattle.slots.proofs.Accepted.{early}
use Rattle.worlds.specs.Turns.{asked_of, Sound}
use Rattle.worlds.specs.Step.{stage_by, flawless}
use Rattle.worlds.proofs.Sane.{going-facts}

-- ---- an answer's number is 0 only where nothing is refused

pub none : (a : Answer) {n : ℕ} → n ≡ number_of a → n ≡ 0 → eqb (number_of a) 0 ≡ true
none a e z = eq-eqb (number_of a) 0 (sym e ∙ z)

pub some : (a : Answer) {n : ℕ} → n ≡ number_of a → (n ≡ 0 → ⊥) → eqb (number_of a) 0 ≡ false
some a e z = ne_eqb (number_of a) 0 (λ h. z (e ∙ h))

-- ---- states

module _ (g : Geometry) (d : Driver) (p : part_of d.array ≡ Some g) where
  pub asked_slot : eqb (number_of (early_refusal g (asked_of d) flawless)) 0 ≡ true → 8 * d.slot < 4096
  asked_slot e = let z = sized d.array g p in omega (arith, (early g (asked_of d) flawless e).fits, z.few)

  pub going-sound : is_ended (stage_by (Some g) d) ≡ false → Sound g d
  going-sound e =
      let f = (going-facts g d e).1 in
      record { part = p; slot = omega (arith, f.asked.fits); step = f.step }
