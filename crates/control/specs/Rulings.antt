-- Aid: decisions in short. A frame goes by the marks of the registers alone, and changes one thing of them at most. What is said here of marks
-- and changes is tied to the rules by `Applies`: the ruling, applied to any registers that have the marks, is their decision.
-- Assumes nothing.
use Rattle.std.specs.Prelude.{ℕ, ◌≡◌}
use Rattle.registers.specs.declared.Registers.{Registers}
use Rattle.registers.specs.Fields.{with_operation, with_protect, with_deep}
use Rattle.registers.specs.Protection.{seals_of}
use Rattle.control.specs.declared.Action.{Action}
use Rattle.control.specs.declared.Change.{Change}
use Rattle.control.specs.declared.Change.TheVariants.{Nothing, Start, Protect, Sleep}
use Rattle.control.specs.declared.Decision.{Decision}
use Rattle.control.specs.declared.Marks.{Marks}
use Rattle.control.specs.declared.Ruling.{Ruling}
use Rattle.control.specs.Obeyed.{usage_of}

-- what of the registers decides on a frame
abbrev pub marks_of : Registers → Marks
marks_of r = record { seals = seals_of r; used = r.used; deep = r.deep; usage = usage_of r.operation }

-- it holds of all registers that have these marks
abbrev pub WithMarks : Marks → (Registers → Type 0) → Type 0
WithMarks m P = (r : Registers) → marks_of r ≡ m → P r

-- the registers after a change
unfoldable pub changed : Change → Registers → Registers
changed Nothing r = r
changed (Start o) r = with_operation r o
changed (Protect on) r = with_protect r on
changed (Sleep on) r = with_deep r on

abbrev pub ruled : Change → Action → ℕ → Ruling
ruled c a lead = record { change = c; action = a; lead = lead }

-- the ruling as a decision on these registers
unfoldable pub applied : Ruling → Registers → Decision
applied d r = record { registers = changed d.change r; action = d.action; lead = d.lead }

-- the ruling is the decision on all registers that have these marks
abbrev pub Applies : Marks → Ruling → (Registers → Decision) → Type 0
Applies m d f = WithMarks m (λ r. applied d r ≡ f r)
