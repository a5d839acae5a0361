-- `inputs::finish` meets its contract: nothing is left, or the line that is left ends. Assumes nothing.
use borrow.Author.Tests.{ne_eqb}
use Rattle.inputs.proofs.Laws.{ends-none, ends_last}
use Rattle.inputs.proofs.finish.Goals as goal

pub returns-then-r-eq0 : goal.returns-then-r-eq0
returns-then-r-eq0 c = ends-none c.args.r c.if-r-eq0.true

pub returns : goal.returns
returns c = ends_last c.args.r (ne_eqb c.args.r.filled 0 c.if-r-eq0.false) c.end_line.ensures
