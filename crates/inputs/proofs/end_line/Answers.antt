-- `inputs::end_line` meets its contract: what the kept characters say is what the line says. Assumes nothing.
use Rattle.inputs.proofs.Laws.{line-ended}
use mathlib.Core.Path.{refl}
use Rattle.inputs.proofs.end_line.Goals as goal

pub returns : goal.returns
returns c = line-ended c.told-line c.count-n.ensures.1 c.act_on.ensures refl
