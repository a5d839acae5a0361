-- One frame, a busy end and a cut on a chip whose part is known, in its block: they are accepted, so the block has the form of a stored chip, and the chip
-- that it holds is the state that the run's definitions name.
-- Assumes nothing.
use Rattle.std.specs.Prelude.{Some}
use mathlib.Core.Path.{◌≡◌, sym, ap, ◌∙◌}
use mathlib.Core.Bool.{Bool, true, cond}
use mathlib.Core.List.{List, []}
use Prim.Native.Nat.{ℕ, ◌+◌, ◌*◌}
use lib.ListN.{length}
use lib.Dec.{eqb}
use borrow.Author.Tests.{eqb-true, eq-eqb, ne_eqb}
use Rattle.geometry.specs.declared.Geometry.{Geometry}
use Rattle.registers.specs.declared.Operation.TheVariants.{Idle}
use Rattle.control.specs.Completion.{completed}
use Rattle.control.proofs.Ends.{completed_idle}
use Rattle.state.specs.Completion.{completed_memory}
use Rattle.state.specs.declared.Answer.TheVariants as Answers
use Rattle.state.specs.Answers.{number_of}
use Rattle.state.specs.Memory.{State, chip_in}
use Rattle.state.specs.Frames.{reply_of}
use Rattle.state.specs.Outcomes.{Left, left, part_in, framed, cut_fits, sent_state, ended_state, cut_state, send_outcome, end_outcome, cut_outcome}
use Rattle.state.proofs.Accepted.{sent-done, end-done, cut-done}
use Rattle.state.proofs.Loads.{idle_memory}
use Rattle.blocks.specs.Block.{encode_chip}
use Rattle.blocks.specs.Promises.{held_in, stored_by, Met}
use Rattle.slots.specs.Calls.{registers_after, memory_after, state_after}
use Rattle.slots.proofs.Accepted.{picked}
use Rattle.runs.specs.Exchange.{Canonical}

-- an accepted outcome leaves the form of a stored chip
form : {held : List ℕ} {o : Left} {r : ℕ} {kept xs ys : List ℕ} → Met held o r kept xs ys → number_of o.answer ≡ 0 → Canonical kept
unfolding stored_by
form {held} {o} w e =
    w.block ∙ picked (eqb (number_of o.answer) 0) (encode_chip (chip_in o.state)) held (eq-eqb (number_of o.answer) 0 e)
    ∙ ap (λ (s : State). encode_chip (chip_in s)) (sym w.holds)

-- ---- the script's byte

module _ (g : Geometry) (b : ℕ) (s : State) where
  -- as the byte is tested
  abbrev by : Bool → State
  by d = record { registers = cond d (completed g s.registers) s.registers; memory = cond d (completed_memory g s.registers.operation s.memory) s.memory }

  -- any but 0
  pub other_byte : (b ≡ 0 → ⊥) → s ≡ state_after g b s
  unfolding state_after registers_after memory_after
  other_byte h = ap (λ (d : Bool). by d) (sym (ne_eqb b 0 h))

  -- 0 on an idle chip
  pub zero_idle : b ≡ 0 → s.registers.operation ≡ Idle → s ≡ state_after g b s
  unfolding state_after registers_after memory_after
  zero_idle z e =
      (λ i. record { registers = sym (completed_idle g s.registers e) i; memory = sym (idle_memory g s.registers.operation s.memory e) i })
      ∙ ap (λ (d : Bool). by d) (sym (eq-eqb b 0 z))

  zero-ends : b ≡ 0 → ended_state g s ≡ state_after g b s
  unfolding state_after registers_after memory_after ended_state
  zero-ends z = ap (λ (n : ℕ). state_after g n s) (sym z)

  -- 0
  pub zero_ended : {held : List ℕ} {r : ℕ} {kept ys : List ℕ} → b ≡ 0 → part_in s ≡ Some g → Met held (end_outcome s) r kept ys []
      → (held_in kept ys ≡ state_after g b s) × (Canonical kept)
  unfolding number_of
  zero_ended z p w =
      let d = end-done s g p in
      (w.holds ∙ ap (λ (o : Left). o.state) d ∙ zero-ends z, form w (ap (λ (o : Left). number_of o.answer) d))

-- ---- the frame

module _ (g : Geometry) (s : State) (f ys : List ℕ) {held : List ℕ} {r : ℕ} {kept xs rp : List ℕ} (p : part_in s ≡ Some g)
    (t : framed (length f) (length ys) ≡ true) (w : Met held (send_outcome s f ys) r kept xs rp) where
  done : send_outcome s f ys ≡ left Answers.Done (sent_state g f s) (reply_of g s.registers s.memory f)
  done = sent-done s f ys g p t

  pub sent-state : held_in kept xs ≡ sent_state g f s
  sent-state = w.holds ∙ ap (λ (o : Left). o.state) done

  pub sent-reply : rp ≡ reply_of g s.registers s.memory f
  sent-reply = w.reply ∙ ap (λ (o : Left). o.reply) done

  pub sent_form : Canonical kept
  unfolding number_of
  sent_form = form w (ap (λ (o : Left). number_of o.answer) done)

-- ---- the cut

pub cut_left : (g : Geometry) (s : State) (junk : List ℕ) {held : List ℕ} {r : ℕ} {kept ys : List ℕ} → part_in s ≡ Some g
    → cut_fits g (length s.memory.array) (length junk) ≡ true → Met held (cut_outcome junk s) r kept ys [] → (held_in kept ys ≡ cut_state g junk s) × (Canonical kept)
unfolding cut_fits number_of
cut_left g s junk p t w =
    let d = cut-done junk s g p (eqb-true (length junk) (2 * g.size + length s.memory.array) t) in
    (w.holds ∙ ap (λ (o : Left). o.state) d, form w (ap (λ (o : Left). number_of o.answer) d))
