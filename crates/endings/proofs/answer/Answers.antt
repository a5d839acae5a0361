-- `endings::answer` meets its contract. Assumes nothing.
use Rattle.slots.specs.Calls.{answer_in}
use mathlib.Core.Path.{ap, ◌∙◌}
use Rattle.endings.proofs.answer.Goals as goal

pub returns : goal.returns
returns c = c.answer_in.ensures ∙ ap answer_in c.tell.ensures
