-- `slipknoll::slipknoll_driver_count` meets its contract: the count is that of the state that the block holds. Assumes nothing.
use Rattle.worlds.specs.Step.{count_in}
use Rattle.slots.specs.declared.Driver.{Driver}
use mathlib.Core.Path.{ap, ◌∙◌}
use Rattle.slipknoll.proofs.slipknoll_driver_count.Goals as goal

pub returns : goal.returns
returns c = (c.count.ensures.0 ∙ ap (λ (d : Driver). count_in d c.args.staged.now) c.decode-d.ensures, c.count.ensures.1)
