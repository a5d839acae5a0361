-- `slipknoll::slipknoll_driver_start_put` meets its contract: the block holds the first state of `openings::start_put`. Assumes nothing.
use mathlib.Core.Path.{ap, ◌∙◌}
use Rattle.driver_blocks.specs.Block.{encode_driver}
use Rattle.slipknoll.proofs.slipknoll_driver_start_put.Goals as goal

pub returns : goal.returns
returns c = c.encode.ensures ∙ ap encode_driver c.start_put-d.ensures
