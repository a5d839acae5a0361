-- `inplace::end_busy` meets its contract: an end that changes registers goes by the chip as a value; any other is made in place.
-- Assumes nothing.
use mathlib.Core.Path.{refl, sym, ap, ◌∙◌}
use mathlib.Core.List.{[]}
use lib.ListN.{length}
use Rattle.registers.specs.Operations.{placed}
use Rattle.registers.proofs.Places.{placed_known, placed_sized}
use Rattle.state.specs.declared.Answer.TheVariants as Answers
use Rattle.state.specs.declared.Chip.{Chip}
use Rattle.state.specs.Answers.{number_of}
use Rattle.state.specs.Memory.{state_of}
use Rattle.state.specs.Outcomes.{ended_state, end_outcome}
use Rattle.state.proofs.Accepted.{end-part, end-done}
use Rattle.blocks.specs.Block.{decode_registers, decode_chip}
use Rattle.blocks.specs.Promises.{held_in, stored_by}
use Rattle.inplace.proofs.Kept.{ended-holds, ended_back, met-done, met-refused, leaves_read, met-stored}
use Rattle.inplace.proofs.end_busy.Goals as goal

pub returns-then-not-is_plain : goal.returns-then-not-is_plain
returns-then-not-is_plain c =
    let a = c.args in
    let d = c.decode.ensures in
    met-stored a.block.now (leaves_read (λ (k : Chip). end_outcome (state_of k a.array.now)) d.0 c.end_busy-e.ensures)
    c.store.ensures.0 c.store.ensures.1 (ended_back a.block.now a.array.now d.1)

pub end_in-requires : goal.end_in-requires
end_in-requires c =
    let e = sym c.place.ensures ∙ c.in-Some.is in
    (placed_sized _ _ _ e, c.operation-o.ensures.0, (placed_known _ _ _ e).1, sym c.is_plain.ensures ∙ c.if-not-is_plain.false)

pub returns : goal.returns
unfolding decode_chip decode_registers
returns c =
    let a = c.args in
    let o = c.operation-o.ensures in
    let e = ap (placed (length a.array.now)) (sym o.0) ∙ sym c.place.ensures ∙ c.in-Some.is in
    let g = c.in-Some.g in
    let s = held_in a.block.now a.array.now in
    met-done a.block.now (ended_state g s) (end-done s g e) (ended-holds s o.1 g) c.end_in.ensures.0 c.end_in.ensures.1 refl

pub returns-in_default : goal.returns-in_default
unfolding stored_by number_of decode_chip decode_registers
returns-in_default c =
    let a = c.args in
    let e = ap (placed (length a.array.now)) (sym c.operation-o.ensures.0) ∙ sym c.place.ensures ∙ c.in_default.is in
    met-refused Answers.Part a.block.now a.array.now [] (end-part (held_in a.block.now a.array.now) e) refl refl
