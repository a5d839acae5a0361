-- `slipknoll::slipknoll_driver_next` meets its contract: state, frame and bytes read are those after the state that the block holds. Assumes nothing.
use mathlib.Core.Path.{ap, ◌∙◌}
use lib.ListN.{length}
use Rattle.slices.specs.Lists.{over}
use Rattle.slots.specs.declared.Driver.{Driver}
use Rattle.worlds.specs.Step.{staged_in, took_in, next_in}
use Rattle.driver_blocks.specs.Block.{encode_driver}
use Rattle.slipknoll.proofs.slipknoll_driver_next.Goals as goal

pub returns : goal.returns
returns c =
    let a = c.args in
    let e = c.decode-d.ensures in
    let n = c.next_frame-n.ensures in (
      n.1 ∙ ap (λ (d : Driver). length (next_in d a.payload.now a.staged.now a.reply.now)) e,
      c.encode.ensures ∙ ap encode_driver (n.0 ∙ ap (λ (d : Driver). took_in d a.payload.now a.staged.now a.reply.now) e),
      n.2 ∙ ap (λ (d : Driver). staged_in d a.payload.now a.staged.now a.reply.now) e,
      n.3 ∙ ap (λ (d : Driver). over (next_in d a.payload.now a.staged.now a.reply.now) a.frame.now) e,
    )
