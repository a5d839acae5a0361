-- The part that an array and an operation are of: the array's length is a part's, and the operation names nothing beyond it.
-- Assumes nothing.
use Rattle.std.specs.Prelude.{None, Option, Some}
use mathlib.Core.Path.{◌≡◌, refl, sym, ap, ◌∙◌, subst}
use mathlib.Core.Bool.{Bool, true, false, cond}
use Prim.Native.Nat.{ℕ}
use native.Mathlib.Omega.{arith}
use Rattle.geometry.specs.declared.Geometry.{Geometry}
use Rattle.geometry.specs.Parts.{part_of, Sized}
use Rattle.geometry.proofs.Pages.{sized}
use Rattle.registers.specs.declared.Facts.{Facts}
use Rattle.registers.specs.declared.Operation.{Operation}
use Rattle.registers.specs.Facts.{facts_of}
use Rattle.registers.specs.Operations.{has, within, placed_in, placed}

pub placed_known : (n : ℕ) (o : Operation) (g : Geometry) → placed n o ≡ Some g → (part_of n ≡ Some g) × (within g o ≡ true)
unfolding placed placed_in
placed_known n o g = part (part_of n) refl
  where
    test : (h : Geometry) (b : Bool) → part_of n ≡ Some h → within h o ≡ b → cond b (Some h) None ≡ Some g → (part_of n ≡ Some g) × (within g o ≡ true)
    test h true e w k = let q : h ≡ g = cc in (e ∙ k, subst (λ (z : Geometry). within z o ≡ true) q w)
    test h false e w k = let z : ◌≡◌ {A = ℕ} 0 1 = cc in absurd (omega arith)

    part : (p : Option Geometry) → part_of n ≡ p → placed_in p o ≡ Some g → (part_of n ≡ Some g) × (within g o ≡ true)
    part (Some h) e k = test h (within h o) e refl k
    part None e k = let z : ◌≡◌ {A = ℕ} 0 1 = cc in absurd (omega arith)

-- .. and that is all
pub known_placed : (n : ℕ) (o : Operation) (g : Geometry) → part_of n ≡ Some g → within g o ≡ true → placed n o ≡ Some g
unfolding placed placed_in
known_placed n o g e w = ap (λ (p : Option Geometry). placed_in p o) e ∙ ap (λ (b : Bool). cond b (Some g) None) w

pub known_beyond : (n : ℕ) (o : Operation) (g : Geometry) → part_of n ≡ Some g → within g o ≡ false → placed n o ≡ None
unfolding placed placed_in
known_beyond n o g e w = ap (λ (p : Option Geometry). placed_in p o) e ∙ ap (λ (b : Bool). cond b (Some g) None) w

pub unknown_placed : (n : ℕ) (o : Operation) → part_of n ≡ None → placed n o ≡ None
unfolding placed placed_in
unknown_placed n o e = ap (λ (p : Option Geometry). placed_in p o) e

pub placed_sized : (n : ℕ) (o : Operation) (g : Geometry) → placed n o ≡ Some g → Sized g n
placed_sized n o g e = sized n g (placed_known n o g e).0

-- the test that the code makes of what the operation names
pub within-tested : (g : Geometry) (o : Operation) {f : Facts} {b v : Bool} → f ≡ facts_of o → b ≡ has g f.names → b ≡ v → within g o ≡ v
unfolding within
within-tested g o e h k = ap (λ (x : Facts). has g x.names) (sym e) ∙ sym h ∙ k
