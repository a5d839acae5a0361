-- `inplace::send` meets its contract: the part is looked up and the lengths are tested, as the definition has it; a refusal writes nothing.
-- Assumes nothing.
use mathlib.Core.Path.{refl, sym, ap, ◌∙◌}
use native.Mathlib.Omega.{arith}
use lib.ListN.{length}
use Rattle.registers.specs.Operations.{placed}
use Rattle.registers.proofs.Places.{placed_sized}
use Rattle.state.specs.Answers.{number_of}
use Rattle.state.specs.declared.Answer.TheVariants as Answers
use Rattle.state.specs.Memory.{memory_of}
use Rattle.state.specs.Outcomes.{sent_state}
use Rattle.state.proofs.Accepted.{framed_in, sent-part, sent-frame, sent-done}
use Rattle.state.proofs.Lengths.{sent-array}
use Rattle.blocks.specs.Block.{decode_registers, decode_chip}
use Rattle.blocks.specs.Promises.{held_in, stored_by}
use Rattle.inplace.proofs.Kept.{sent-holds, met-done, met-refused}
use Rattle.inplace.proofs.send.Goals as goal

pub returns-then-not-is_framed : goal.returns-then-not-is_framed
unfolding stored_by number_of decode_chip decode_registers
returns-then-not-is_framed c =
    let a = c.args in
    let t = sym c.is_framed.ensures ∙ c.if-not-is_framed.true in
    let e = ap (placed (length a.array.now)) (sym c.operation-o.ensures.0) ∙ sym c.place.ensures ∙ c.in-Some.is in
    met-refused Answers.Frame a.block.now a.array.now a.reply.now (sent-frame (held_in a.block.now a.array.now) a.frame.now a.reply.now _ e t) refl refl

pub send_in-requires : goal.send_in-requires
send_in-requires c =
    let l = framed_in _ _ (sym c.is_framed.ensures ∙ c.if-not-is_framed.false) in
    (placed_sized _ _ _ (sym c.place.ensures ∙ c.in-Some.is), c.operation-o.ensures.0, l.2)

pub returns : goal.returns
unfolding sent_state decode_chip decode_registers
returns c =
    let a = c.args in
    let o = c.operation-o.ensures in
    let t = sym c.is_framed.ensures ∙ c.if-not-is_framed.false in
    let e = ap (placed (length a.array.now)) (sym o.0) ∙ sym c.place.ensures ∙ c.in-Some.is in
    let g = c.in-Some.g in
    met-done a.block.now (sent_state g a.frame.now (held_in a.block.now a.array.now))
    (sent-done (held_in a.block.now a.array.now) a.frame.now a.reply.now g e t) (sent-holds (held_in a.block.now a.array.now) o.1 g a.frame.now
    (λ k. omega (arith, c.type_inv.frame k)) e)
    c.send_in.ensures.0 (sym (sent-array g (decode_registers a.block.now) a.frame.now (memory_of (decode_chip a.block.now) a.array.now))) c.send_in.ensures.1

pub returns-in_default : goal.returns-in_default
unfolding stored_by number_of decode_chip decode_registers
returns-in_default c =
    let a = c.args in
    let e = ap (placed (length a.array.now)) (sym c.operation-o.ensures.0) ∙ sym c.place.ensures ∙ c.in_default.is in
    met-refused Answers.Part a.block.now a.array.now a.reply.now (sent-part (held_in a.block.now a.array.now) a.frame.now a.reply.now e) refl refl
