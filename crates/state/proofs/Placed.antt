-- A chip stays of its part: the array keeps its length, and neither a frame, a busy end, a cut nor a pin move leaves an operation that names
-- something beyond the part.
-- Assumes nothing.
use Rattle.std.specs.Prelude.{Some}
use mathlib.Core.Path.{◌≡◌, refl, sym, ap, ◌∙◌}
use mathlib.Core.Bool.{Bool}
use mathlib.Core.List.{List}
use Prim.Native.Nat.{ℕ}
use lib.ListN.{length}
use Rattle.geometry.specs.declared.Geometry.{Geometry}
use Rattle.registers.specs.declared.Operation.{Operation}
use Rattle.registers.specs.declared.Operation.TheVariants.{Idle}
use Rattle.registers.specs.declared.Registers.{Registers}
use Rattle.registers.specs.Operations.{within, placed}
use Rattle.registers.proofs.Places.{placed_known, known_placed, placed_sized}
use Rattle.control.specs.Control.{control}
use Rattle.control.specs.Completion.{completed}
use Rattle.control.specs.PowerLoss.{reaching, lost}
use Rattle.control.proofs.Rows.{control-within}
use Rattle.control.proofs.Ends.{completed-operation, lost-operation}
use Rattle.state.specs.Memory.{State}
use Rattle.state.specs.Outcomes.{Left, part_in, sent_state, send_outcome, ended_state, end_outcome, pinned_state, pin_outcome, cut_state, cut_outcome}
use Rattle.state.proofs.Accepted.{send_cases, end_cases, cut_cases}
use Rattle.state.proofs.Lengths.{sent-array, completed-array-length, lost-array-length}

-- ---- of registers and an array's length
module _ (n : ℕ) (g : Geometry) where
  idle_placed : (o u : Operation) → u ≡ Idle → placed n o ≡ Some g → placed n u ≡ Some g
  unfolding within
  idle_placed o u e p = known_placed n u g (placed_known n o g p).0 (ap (within g) e)

  pub control-placed : (r : Registers) (f : List ℕ) → placed n r.operation ≡ Some g → placed n (control g r f).registers.operation ≡ Some g
  control-placed r f p =
      known_placed n (control g r f).registers.operation g (placed_known n r.operation g p).0
      (control-within g n r f (placed_sized n r.operation g p) (placed_known n r.operation g p).1)

  pub completed-placed : (r : Registers) → placed n r.operation ≡ Some g → placed n (completed g r).operation ≡ Some g
  completed-placed r p = idle_placed r.operation (completed g r).operation (completed-operation g r) p

  pub lost-placed : (r : Registers) (w : List ℕ) → placed n r.operation ≡ Some g → placed n (lost g r w).operation ≡ Some g
  lost-placed r w p = idle_placed r.operation (lost g r w).operation (lost-operation g r w) p

-- ---- of the entry points, refused or not
module _ (s : State) where
  pub send_placed : (f ys : List ℕ) → part_in (send_outcome s f ys).state ≡ part_in s
  unfolding sent_state
  send_placed f ys =
      send_cases s (λ (o : Left). part_in o.state ≡ part_in s) f ys (λ a. refl)
      (λ g e. ap (λ (xs : List ℕ). placed (length xs) (control g s.registers f).registers.operation) (sent-array g s.registers f s.memory)
      ∙ control-placed (length s.memory.array) g s.registers f e ∙ sym e)

  pub end-length : length (end_outcome s).state.memory.array ≡ length s.memory.array
  unfolding ended_state
  end-length =
      end_cases s (λ (o : Left). length o.state.memory.array ≡ length s.memory.array) (λ a. refl)
      (λ g e. completed-array-length g s.registers.operation s.memory)

  pub end-placed : part_in (end_outcome s).state ≡ part_in s
  unfolding ended_state
  end-placed =
      end_cases s (λ (o : Left). part_in o.state ≡ part_in s) (λ a. refl)
      (λ g e. ap (λ (n : ℕ). placed n (completed g s.registers).operation) (completed-array-length g s.registers.operation s.memory)
      ∙ completed-placed (length s.memory.array) g s.registers e ∙ sym e)

  pub pin-placed : (high : Bool) → part_in (pin_outcome high s).state ≡ part_in s
  unfolding pin_outcome pinned_state
  pin-placed high = refl

  pub cut-length : (junk : List ℕ) → length (cut_outcome junk s).state.memory.array ≡ length s.memory.array
  unfolding cut_state
  cut-length junk =
      cut_cases s (λ (o : Left). length o.state.memory.array ≡ length s.memory.array) junk (λ a. refl)
      (λ g e. lost-array-length g s.registers.operation junk s.memory)

  pub cut-placed : (junk : List ℕ) → part_in (cut_outcome junk s).state ≡ part_in s
  unfolding cut_state
  cut-placed junk =
      cut_cases s (λ (o : Left). part_in o.state ≡ part_in s) junk (λ a. refl)
      (λ g e. ap (λ (n : ℕ). placed n (lost g s.registers (reaching g s.registers.operation junk)).operation) (lost-array-length g s.registers.operation junk s.memory)
      ∙ lost-placed (length s.memory.array) g s.registers (reaching g s.registers.operation junk) e ∙ sym e)
