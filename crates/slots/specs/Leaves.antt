-- What a call that nothing disturbs leaves: of an idle and awake chip, its slot's sector not sealed, with an empty script and arguments that are not refused.
-- Assumes nothing.
use Rattle.std.specs.Prelude.{ℕ, ◌+◌, ◌*◌, ◌≡◌, List, length, get_or}
use Rattle.slices.specs.Lists.{tabulate, splice}
use Rattle.geometry.specs.declared.Geometry.{Geometry}
use Rattle.geometry.specs.Parts.{page_start}
use Rattle.slots.specs.declared.Aim.{Aim}
use Rattle.slots.specs.declared.Kind.{Kind}
use Rattle.slots.specs.declared.Kind.TheVariants.{Put, Patch, Get, Wipe}
use Rattle.slots.specs.declared.Verdict.{Verdict}
use Rattle.slots.specs.declared.Verdict.TheVariants.{Good}
use Rattle.state.specs.Memory.{State}
use Rattle.slots.specs.Plans.{Asked}
use Rattle.slots.specs.Records.{head_size, image, changed, get_verdict, patch_verdict}
use Rattle.slots.specs.Driver.{verdict_answer}
use Rattle.slots.specs.Calls.{Out}
use Rattle.slots.specs.Quiet.{page_in}

-- (14.16) byte i of a slot in the array
abbrev pub slot_byte : Geometry → ℕ → List ℕ → ℕ → ℕ
slot_byte g slot xs i = get_or xs (page_start g (8 * slot) + i) 0

-- (14.16) what the call takes the slot for, whose bytes are `old`
unfoldable pub verdict_for : Geometry → Kind → Aim → List ℕ → (ℕ → ℕ) → Verdict
verdict_for g Put aim payload old = Good
verdict_for g Patch aim payload old = patch_verdict g (aim.place + length payload) (page_in g old 0)
verdict_for g Get aim payload old = get_verdict g aim.today (page_in g old 0)
verdict_for g Wipe aim payload old = Good

-- (14.16) byte i of the slot afterwards: the recipe's record; the bytes with the patch in its place, as they were under 12 or 13; as they were; FFh
unfoldable pub left_in : Geometry → Kind → Aim → List ℕ → (ℕ → ℕ) → ℕ → ℕ
left_in g Put aim payload old i = image aim.period payload i
left_in g Patch aim payload old i = changed (verdict_for g Patch aim payload old) (head_size (old 0)) aim.place payload (old i) i
left_in g Get aim payload old i = old i
left_in g Wipe aim payload old i = 255

-- (14.16) 0, 12, 13 or 15 by the slot's first page; the slot's bytes so, every other byte of the array as it was; the registers as they were
pub record Leaves (g : Geometry) (a : Asked) (aim : Aim) (payload : List ℕ) (s : State) (o : Out) (t : State) : Type 0 where
  pub answer : o.answer ≡ verdict_answer (verdict_for g a.kind aim payload (slot_byte g a.slot s.memory.array))
  pub array : t.memory.array
      ≡ splice (page_start g (8 * a.slot)) (tabulate (8 * g.size) (left_in g a.kind aim payload (slot_byte g a.slot s.memory.array))) s.memory.array
  pub registers : t.registers ≡ s.registers
