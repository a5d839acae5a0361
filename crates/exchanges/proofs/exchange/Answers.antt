-- `exchanges::exchange` meets its contract: the part is known and the frame's length fits, so the frame is accepted; its script byte acts on what it leaves.
-- Assumes nothing.
use mathlib.Core.Path.{ap, ◌∙◌}
use Rattle.state.specs.Outcomes.{part_in}
use Rattle.state.proofs.Accepted.{framed_in}
use Rattle.blocks.specs.Promises.{held_in}
use Rattle.slots.specs.Calls.{state_after}
use Rattle.runs.proofs.After.{sent-placed}
use Rattle.exchanges.proofs.Exchanges.{sent-state, sent-reply, sent_form}
use Rattle.exchanges.proofs.exchange.Goals as goal

pub put_outline-requires : goal.put_outline-requires
put_outline-requires c = (c.requires.2, (framed_in _ _ c.requires.1).1)

pub settle-requires : goal.settle-requires
settle-requires c =
    let a = c.args in
    let send = c.send.ensures in
    let t = held_in a.block.now a.array.now in (
      ap part_in (sent-state a.g t a.frame.now a.reply.now c.requires.0 c.requires.1 send) ∙ sent-placed a.g a.frame.now t c.requires.0,
      sent_form a.g t a.frame.now a.reply.now c.requires.0 c.requires.1 send,
    )

pub returns : goal.returns
returns c =
    let a = c.args in
    let send = c.send.ensures in
    let settle = c.settle.ensures in
    let t = held_in a.block.now a.array.now in (
      record {
        state = settle.0 ∙ ap (state_after a.g a.b) (sent-state a.g t a.frame.now a.reply.now c.requires.0 c.requires.1 send);
        reply = sent-reply a.g t a.frame.now a.reply.now c.requires.0 c.requires.1 send;
        log = c.put_outline.ensures;
      },
      settle.1,
    )
