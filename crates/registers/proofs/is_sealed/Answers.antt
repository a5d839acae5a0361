-- `registers::is_sealed` meets its contract: locked, or listed and guarded, as the definition has it.
-- Assumes nothing.
use Rattle.registers.proofs.Protection.{protected_locked, protected_listed, protected_free}
use mathlib.Core.Path.{◌≡◌, sym, ap, ◌∙◌}
use mathlib.Core.Bool.{Bool}
use Prim.Native.Nat.{ℕ}
use Rattle.geometry.specs.declared.Geometry.{Geometry}
use Rattle.registers.specs.declared.Registers.{Registers}
use Rattle.registers.specs.declared.Seals.{Seals}
use Rattle.registers.specs.Protection.{has_bits, seals_of}
use Rattle.registers.proofs.is_sealed.Goals as goal

-- what holds of the seals holds of the registers that have them
locked : (g : Geometry) (r : Registers) (s : Seals) (n : ℕ) {b v : Bool} → seals_of r ≡ s → b ≡ has_bits g s.lockdown n → b ≡ v → has_bits g r.lockdown n ≡ v
locked g r s n e h k = ap (λ (x : Seals). has_bits g x.lockdown n) e ∙ sym h ∙ k

listed : (g : Geometry) (r : Registers) (s : Seals) (n : ℕ) {b v : Bool} → seals_of r ≡ s → b ≡ has_bits g s.protection n → b ≡ v → has_bits g r.protection n ≡ v
listed g r s n e h k = ap (λ (x : Seals). has_bits g x.protection n) e ∙ sym h ∙ k

pub returns-then-has_bits : goal.returns-then-has_bits
returns-then-has_bits c =
    let s = c.args in
    λ g q r e. c.if-has_bits.true ∙ sym (protected_locked g r s.sector (locked g r s.s s.sector e (c.has_bits.ensures g q) c.if-has_bits.true))

pub returns-then-has_bits-2 : goal.returns-then-has_bits-2
returns-then-has_bits-2 c =
    let s = c.args in
    λ g q r e.
    c.is_guarded.ensures r e
    ∙ sym (protected_listed g r s.sector
    (locked g r s.s s.sector e (c.has_bits.ensures g q) c.if-has_bits.false)
    (listed g r s.s s.sector e (c.has_bits-else-has_bits.ensures g q) c.if-has_bits-2.true))

pub returns-else-has_bits-2 : goal.returns-else-has_bits-2
returns-else-has_bits-2 c =
    let s = c.args in
    λ g q r e.
    c.if-has_bits-2.false
    ∙ sym (protected_free g r s.sector
    (locked g r s.s s.sector e (c.has_bits.ensures g q) c.if-has_bits.false)
    (listed g r s.s s.sector e (c.has_bits-else-has_bits.ensures g q) c.if-has_bits-2.false))
