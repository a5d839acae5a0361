-- What the arms of the functions that go by a buffer, an action or an operation share.
-- Assumes nothing.
use mathlib.Core.Path.{◌≡◌, sym, ap, subst, subst⁻¹, ◌∙◌}
use mathlib.Core.Bool.{Bool, true}
use mathlib.Core.List.{List, ◌++◌}
use Prim.Native.Nat.{ℕ, ◌+◌, ◌-◌, ◌*◌, ◌≤◌, ◌<◌}
use native.Mathlib.Nat.{mul-le-mul_right}
use native.Mathlib.Omega.{arith}
use lib.ListN.{length, take, drop}
use Rattle.slices.specs.Lists.{over}
use Rattle.slices.proofs.Laws.{splice-zero, head_spliced, tail_part}
use Rattle.geometry.specs.declared.Geometry.{Geometry}
use Rattle.geometry.specs.declared.Run.{Run}
use Rattle.geometry.specs.Parts.{Sized}
use Rattle.commands.specs.declared.Buffer.{Buffer}
use Rattle.registers.specs.declared.Named.{Named}
use Rattle.registers.specs.declared.Operation.{Operation}
use Rattle.registers.specs.declared.Registers.{Registers}
use Rattle.registers.specs.Operations.{has, within, run_named, set_named, target_of, run_of, sectors_of}
use Rattle.registers.proofs.Operations.{target_within}
use Rattle.control.specs.declared.Action.{Action}
use Rattle.control.specs.declared.Action.TheVariants.{ReadPage, ReadArray, ReadBuffer, WriteBuffer}
use Rattle.control.specs.declared.Decision.{Decision}
use Rattle.control.specs.declared.Ruling.{Ruling}
use Rattle.control.specs.Control.{control}
use Rattle.control.specs.Rulings.{applied, changed}
use Rattle.control.specs.Names.{Names}
use Rattle.control.proofs.Names.{control_names, control-lead}
use Rattle.memory.specs.Pages.{in_sectors}
use Rattle.memory.specs.Replies.{replied}
use Rattle.memory.proofs.Sectors.{in_sectors-none}
use Rattle.state.specs.Lent.{memory_in, acted_on}
use Rattle.state.specs.Memory.{buffer_size, Memory}
use Rattle.state.specs.Frames.{data_of, reply_of, acted, sent_memory}
use Rattle.state.specs.Completion.{in_target}
use Rattle.state.proofs.Lent.{acted-lent}

-- a buffer whose beginning was lent and came back as other bytes
pub begun : (k : ℕ) (xs ys zs : List ℕ) → k ≤ length xs → k ≡ length zs → ys ≡ zs → ys ++ drop k xs ≡ over zs xs
begun k xs ys zs h l e = head_spliced xs h l e ∙ splice-zero zs xs

-- ---- what an operation erases or programs: a run, then the sectors of a set, or none
module _ (g : Geometry) (o : Operation) {n : Named} (t : n ≡ target_of o) where
  pub target_has : within g o ≡ true → has g n ≡ true
  target_has h = subst⁻¹ (λ (k : Named). has g k ≡ true) t (target_within g o h)

  module _ (f : Run → List ℕ → List ℕ) (xs ys : List ℕ) {r : Run} {sectors : ℕ} (k : r ≡ run_named g n) (s : sectors ≡ set_named n) (h : ys ≡ f r xs) where
    pub target_sectors : {zs : List ℕ} → zs ≡ in_sectors f g sectors ys → zs ≡ in_target f g o xs
    unfolding in_target run_of sectors_of
    target_sectors e = e ∙ (λ i. in_sectors f g ((s ∙ ap set_named t) i) ((h ∙ ap (λ (q : Run). f q xs) (k ∙ ap (run_named g) t)) i))

    pub target_run : sectors ≡ 0 → ys ≡ in_target f g o xs
    target_run z = target_sectors (sym (ap (λ (q : ℕ). in_sectors f g q ys) z ∙ in_sectors-none f g ys))

-- ---- what an action names
module _ (g : Geometry) (a : Action) where
  pub names_page : (page start : ℕ) → a ≡ ReadPage page start → Names g a → (page < g.pages) × (start < g.size)
  unfolding Names
  names_page page start e h = subst (Names g) e h

  pub names_array : (start : ℕ) → a ≡ ReadArray start → Names g a → start < g.pages * g.size
  unfolding Names
  names_array start e h = subst (Names g) e h

  pub names_read : (b : Buffer) (start : ℕ) → a ≡ ReadBuffer b start → Names g a → start < g.size
  unfolding Names
  names_read b start e h = subst (Names g) e h

  pub names_write : (b : Buffer) (start : ℕ) → a ≡ WriteBuffer b start → Names g a → start < g.size
  unfolding Names
  names_write b start e h = subst (Names g) e h

-- ---- a frame, as control ruled on it
module _ (g : Geometry) (r : Registers) (f : List ℕ) (d : Ruling) (e : applied d r ≡ control g r f) where
  ruled_action : d.action ≡ (control g r f).action
  unfolding applied
  ruled_action = ap (λ (z : Decision). z.action) e

  ruled-lead : d.lead ≡ (control g r f).lead
  unfolding applied
  ruled-lead = ap (λ (z : Decision). z.lead) e

  pub decided_names : (n : ℕ) → Sized g n → Names g d.action
  decided_names n s = subst (Names g) (sym ruled_action) (control_names g n r f s)

  pub decided-lead : (n : ℕ) → length f ≡ n → d.lead ≤ n
  decided-lead n l = omega (arith, ruled-lead, control-lead g r f)

  pub decided-reply : (m : Memory) (n : ℕ) (ys : List ℕ) → length f ≡ n → ys ≡ replied n d.lead (data_of g r m d.action) → ys ≡ reply_of g r m f
  unfolding reply_of
  decided-reply m n ys l h = h ∙ (λ i. replied (sym l i) (ruled-lead i) (data_of g r m (ruled_action i)))

  -- what is left of registers and buffers
  pub decided-registers : changed d.change r ≡ (control g r f).registers
  unfolding applied
  decided-registers = ap (λ (z : Decision). z.registers) e

  pub decided-memory : (m : Memory) (xs bs zs : List ℕ) (bit : Bool) → length bs ≡ 2 * buffer_size → memory_in xs bs bit ≡ m
      → zs ≡ acted_on g d.action (take (length f - d.lead) (drop d.lead f)) bs → memory_in xs zs bit ≡ sent_memory g r f m
  unfolding sent_memory
  decided-memory m xs bs zs bit l k p =
      ap (λ (z : List ℕ). memory_in xs z bit) (p ∙ ap (λ (t : List ℕ). acted_on g d.action t bs) (tail_part d.lead f))
      ∙ acted-lent g d.action (drop d.lead f) xs bs bit l
      ∙ (λ i. acted g (ruled_action i) (drop (ruled-lead i) f) (k i))

-- ---- an array has room for any register
pub sized_room : (g : Geometry) (n : ℕ) → Sized g n → 64 ≤ n
sized_room g n s = let h : 8 * g.size ≤ g.pages * g.size = mul-le-mul_right g.size s.blocks in omega (arith, s.some, s.whole)
