-- `slipknoll::slipknoll_driver_answer` meets its contract: what is told is that of the state that the block holds. Assumes nothing.
use mathlib.Core.Path.{ap, ◌∙◌}
use Rattle.worlds.specs.Step.{told_in}
use Rattle.driver_blocks.specs.Block.{told_number}
use Rattle.slipknoll.proofs.slipknoll_driver_answer.Goals as goal

pub returns : goal.returns
returns c = c.told_number.ensures ∙ ap told_number (c.answer-t.ensures ∙ ap told_in c.decode-d.ensures)
