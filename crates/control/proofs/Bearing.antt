-- What is known of the marks is known of all registers that have them.
-- Assumes nothing.
use mathlib.Core.Path.{◌≡◌, ap, ◌∙◌}
use mathlib.Core.Bool.{Bool}
use Rattle.registers.specs.declared.Registers.{Registers}
use Rattle.registers.specs.Protection.{seals_of}
use Rattle.control.specs.declared.Marks.{Marks}
use Rattle.control.specs.Rulings.{marks_of}

pub seals_of_lem : (r : Registers) (m : Marks) → marks_of r ≡ m → seals_of r ≡ m.seals
seals_of_lem r m e = ap (λ (x : Marks). x.seals) e

pub wp_of : (r : Registers) (m : Marks) {v : Bool} → marks_of r ≡ m → m.seals.wp ≡ v → r.wp ≡ v
wp_of r m e h = ap (λ (x : Marks). x.seals.wp) e ∙ h

pub used_of : (r : Registers) (m : Marks) {v : Bool} → marks_of r ≡ m → m.used ≡ v → r.used ≡ v
used_of r m e h = ap (λ (x : Marks). x.used) e ∙ h

pub deep_of : (r : Registers) (m : Marks) {v : Bool} → marks_of r ≡ m → m.deep ≡ v → r.deep ≡ v
deep_of r m e h = ap (λ (x : Marks). x.deep) e ∙ h
