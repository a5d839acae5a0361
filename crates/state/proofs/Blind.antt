-- Answers and registers go by registers, part, lengths and frame alone: no byte of the array or a buffer, nor the compare bit, reaches
-- them; of the junk of a cut only what `reaching` takes. So two chips alike in these give the same.
-- Assumes nothing.
use Rattle.std.specs.Prelude.{None, Option, Some}
use mathlib.Core.Path.{◌≡◌, refl, subst}
use mathlib.Core.Bool.{Bool, true, false, cond}
use mathlib.Core.List.{List}
use Prim.Native.Nat.{ℕ}
use lib.ListN.{length}
use Rattle.geometry.specs.declared.Geometry.{Geometry}
use Rattle.registers.specs.Fields.{with_wp}
use Rattle.registers.specs.Operations.{placed}
use Rattle.control.specs.Control.{control}
use Rattle.control.specs.Completion.{completed}
use Rattle.control.specs.PowerLoss.{reaching, lost}
use Rattle.state.specs.Memory.{State}
use Rattle.state.specs.Outcomes.{Left, part_in, framed, sent_state, sent_by, send_outcome, ended_state, ended_by, end_outcome, pinned_state, pin_outcome, cut_state, cut_fits, cut_by, cut_outcome}

-- the same answer and the same registers
pub record Same (o u : Left) : Type 0 where
  pub answer : o.answer ≡ u.answer
  pub registers : o.state.registers ≡ u.state.registers

picked : (b : Bool) {d : Bool} {x y u v : Left} → b ≡ d → Same x u → Same y v → Same (cond b x y) (cond d u v)
picked b {x = x} {y = y} {u = u} {v = v} e p q = subst (λ (k : Bool). Same (cond b x y) (cond k u v)) e (go b)
  where
    go : (k : Bool) → Same (cond k x y) (cond k u v)
    go true = p
    go false = q

-- two chips with the same registers and arrays of one length
module _ (s t : State) (e : s.registers ≡ t.registers) (l : length s.memory.array ≡ length t.memory.array) where
  pub part_blind : part_in s ≡ part_in t
  part_blind = λ i. placed (l i) (e i).operation

  -- a frame sent straight, and replies of one length
  pub send_blind : (f ys zs : List ℕ) → length ys ≡ length zs → Same (send_outcome s f ys) (send_outcome t f zs)
  unfolding send_outcome sent_by sent_state
  send_blind f ys zs m = subst (λ (p : Option Geometry). Same (sent_by (part_in s) s f ys) (sent_by p t f zs)) part_blind (go (part_in s))
    where
      go : (p : Option Geometry) → Same (sent_by p s f ys) (sent_by p t f zs)
      go None = record { answer = refl; registers = e }
      go (Some g) =
          picked (framed (length f) (length ys)) (λ i. framed (length f) (m i))
          (record { answer = refl; registers = λ i. (control g (e i) f).registers }) (record { answer = refl; registers = e })

  pub end_blind : Same (end_outcome s) (end_outcome t)
  unfolding end_outcome ended_by ended_state
  end_blind = subst (λ (p : Option Geometry). Same (ended_by (part_in s) s) (ended_by p t)) part_blind (go (part_in s))
    where
      go : (p : Option Geometry) → Same (ended_by p s) (ended_by p t)
      go None = record { answer = refl; registers = e }
      go (Some g) = record { answer = refl; registers = λ i. completed g (e i) }

  pub pin_blind : (high : Bool) → Same (pin_outcome high s) (pin_outcome high t)
  unfolding pin_outcome pinned_state
  pin_blind high = record { answer = refl; registers = λ i. with_wp (e i) high }

  -- a cut, and junks of one length of which the same reaches a register
  pub cut_blind : (j k : List ℕ) → length j ≡ length k
      → ((g : Geometry) → part_in s ≡ Some g → reaching g s.registers.operation j ≡ reaching g t.registers.operation k)
      → Same (cut_outcome j s) (cut_outcome k t)
  unfolding cut_outcome cut_by cut_state
  cut_blind j k m h = subst (λ (p : Option Geometry). Same (cut_by (part_in s) j s) (cut_by p k t)) part_blind (go (part_in s) refl)
    where
      go : (p : Option Geometry) → part_in s ≡ p → Same (cut_by p j s) (cut_by p k t)
      go None q = record { answer = refl; registers = e }
      go (Some g) q =
          picked (cut_fits g (length s.memory.array) (length j)) (λ i. cut_fits g (l i) (m i))
          (record { answer = refl; registers = λ i. lost g (e i) (h g q i) }) (record { answer = refl; registers = e })
