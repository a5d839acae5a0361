-- Registers and buffers keep their lengths at every entry point, and a fresh chip has them.
-- Assumes nothing.
use mathlib.Core.Path.{◌≡◌, refl, ◌∙◌}
use mathlib.Core.Bool.{Bool}
use mathlib.Core.List.{List}
use Prim.Native.Nat.{ℕ}
use lib.ListN.{length}
use Rattle.geometry.specs.declared.Geometry.{Geometry}
use Rattle.control.specs.PowerLoss.{reaching}
use Rattle.control.proofs.Ends.{completed-lengths, lost-lengths}
use Rattle.control.proofs.Rows.{control-lengths}
use Rattle.state.specs.Memory.{State, chip_in}
use Rattle.state.specs.Outcomes.{Left, fresh_registers, fresh_state, sent_state, send_outcome, ended_state, end_outcome, pinned_state, pin_outcome, cut_state, cut_outcome}
use Rattle.state.specs.Whole.{Whole}
use Rattle.state.proofs.Accepted.{send_cases, end_cases, cut_cases}
use Rattle.state.proofs.Lengths.{sent-first-length, sent_second_length, completed-first-length, completed_second_length, lost-first-length, lost_second_length}

pub fresh_whole : (factory xs : List ℕ) → length factory ≡ 64 → Whole (chip_in (fresh_state factory xs))
unfolding fresh_state fresh_registers
fresh_whole factory xs l = record { registers = record { protection = refl; lockdown = refl; user = refl; factory = l }; buffer1 = refl; buffer2 = refl }

-- ---- on a known part
module _ (s : State) (w : Whole (chip_in s)) where
  pub sent-whole : (g : Geometry) (f : List ℕ) → Whole (chip_in (sent_state g f s))
  unfolding sent_state
  sent-whole g f =
      record {
        registers = control-lengths g s.registers f w.registers;
        buffer1 = sent-first-length g s.registers f s.memory ∙ w.buffer1;
        buffer2 = sent_second_length g s.registers f s.memory ∙ w.buffer2;
      }

  pub ended-whole : (g : Geometry) → Whole (chip_in (ended_state g s))
  unfolding ended_state
  ended-whole g =
      record {
        registers = completed-lengths g s.registers w.registers;
        buffer1 = completed-first-length g s.registers.operation s.memory ∙ w.buffer1;
        buffer2 = completed_second_length g s.registers.operation s.memory ∙ w.buffer2;
      }

  pub pinned_whole : (high : Bool) → Whole (chip_in (pinned_state high s))
  unfolding pinned_state
  pinned_whole high =
      let k = w.registers in
      record { registers = record { protection = k.protection; lockdown = k.lockdown; user = k.user; factory = k.factory }; buffer1 = w.buffer1; buffer2 = w.buffer2 }

  pub cut-whole : (g : Geometry) (junk : List ℕ) → Whole (chip_in (cut_state g junk s))
  unfolding cut_state
  cut-whole g junk =
      record {
        registers = lost-lengths g s.registers (reaching g s.registers.operation junk) w.registers;
        buffer1 = lost-first-length g s.registers.operation junk s.memory ∙ w.buffer1;
        buffer2 = lost_second_length g s.registers.operation junk s.memory ∙ w.buffer2;
      }

  -- ---- of the entry points, refused or not
  pub send_leaves-whole : (f ys : List ℕ) → Whole (chip_in (send_outcome s f ys).state)
  send_leaves-whole f ys = send_cases s (λ (o : Left). Whole (chip_in o.state)) f ys (λ a. w) (λ g e. sent-whole g f)

  pub end-leaves-whole : Whole (chip_in (end_outcome s).state)
  end-leaves-whole = end_cases s (λ (o : Left). Whole (chip_in o.state)) (λ a. w) (λ g e. ended-whole g)

  pub pin-leaves-whole : (high : Bool) → Whole (chip_in (pin_outcome high s).state)
  unfolding pin_outcome
  pin-leaves-whole high = pinned_whole high

  pub cut-leaves-whole : (junk : List ℕ) → Whole (chip_in (cut_outcome junk s).state)
  cut-leaves-whole junk = cut_cases s (λ (o : Left). Whole (chip_in o.state)) junk (λ a. w) (λ g e. cut-whole g junk)
