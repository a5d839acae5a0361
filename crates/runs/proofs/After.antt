-- A frame and its script byte keep the array's length and the part.
-- Assumes nothing.
use Rattle.std.specs.Prelude.{Some}
use mathlib.Core.Path.{◌≡◌, ap, ◌∙◌}
use Prim.Native.Nat.{ℕ}
use lib.ListN.{length}
use lib.Dec.{eqb}
use mathlib.Core.List.{List}
use Rattle.geometry.specs.declared.Geometry.{Geometry}
use Rattle.registers.specs.declared.Registers.{Registers}
use Rattle.registers.specs.Operations.{placed}
use Rattle.control.specs.Control.{control}
use Rattle.state.specs.Memory.{Memory, State}
use Rattle.state.specs.Outcomes.{part_in, sent_state}
use Rattle.state.proofs.Lengths.{completed-array-length, sent-array}
use Rattle.state.proofs.Placed.{control-placed, completed-placed}
use Rattle.slots.specs.Calls.{registers_after, memory_after, state_after}
use Rattle.slots.proofs.Parts.{cases}

module _ (g : Geometry) (f : List ℕ) (s : State) where
  sent-long : length (sent_state g f s).memory.array ≡ length s.memory.array
  unfolding sent_state
  sent-long = ap length (sent-array g s.registers f s.memory)

  pub sent-placed : part_in s ≡ Some g → part_in (sent_state g f s) ≡ Some g
  unfolding sent_state
  sent-placed p =
      ap (λ (n : ℕ). placed n (sent_state g f s).registers.operation) sent-long ∙ control-placed (length s.memory.array) g s.registers f p

  module _ (b : ℕ) where
    pub after-long : length (state_after g b (sent_state g f s)).memory.array ≡ length s.memory.array
    unfolding state_after memory_after
    after-long =
        let t = sent_state g f s in
        cases (λ (m : Memory). length m.array ≡ length s.memory.array) (eqb b 0)
        (completed-array-length g t.registers.operation t.memory ∙ sent-long) sent-long

    pub after-placed : part_in s ≡ Some g → part_in (state_after g b (sent_state g f s)) ≡ Some g
    unfolding state_after registers_after sent_state
    after-placed p =
        let n = length s.memory.array in
        let k = control-placed n g s.registers f p in
        ap (λ (m : ℕ). placed m (state_after g b (sent_state g f s)).registers.operation) after-long
        ∙ cases (λ (r : Registers). placed n r.operation ≡ Some g) (eqb b 0) (completed-placed n g (control g s.registers f).registers k) k
