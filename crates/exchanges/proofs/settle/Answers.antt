-- `exchanges::settle` meets its contract: 0 ends a busy period, and on an idle chip there is none.
-- Assumes nothing.
use mathlib.Core.Path.{sym, ◌∙◌}
use Rattle.blocks.specs.Block.{decode_registers, decode_chip}
use Rattle.blocks.specs.Promises.{held_in}
use Rattle.exchanges.proofs.Exchanges.{other_byte, zero_idle, zero_ended}
use Rattle.exchanges.proofs.settle.Goals as goal

pub returns-then-b-ne0 : goal.returns-then-b-ne0
returns-then-b-ne0 c =
    let a = c.args in
    (other_byte a.g a.b (held_in a.block.now a.array.now) c.if-b-ne0.true, c.requires.1)

pub returns-in-Idle : goal.returns-in-Idle
unfolding decode_chip decode_registers
returns-in-Idle c =
    let a = c.args in
    let e = sym c.operation.ensures.0 ∙ c.in-Idle.is in
    (zero_idle a.g a.b (held_in a.block.now a.array.now) c.if-b-ne0.false e, c.requires.1)

pub returns : goal.returns
returns c =
    let a = c.args in
    zero_ended a.g a.b (held_in a.block.now a.array.now) c.if-b-ne0.false c.requires.0 c.end_busy.ensures
