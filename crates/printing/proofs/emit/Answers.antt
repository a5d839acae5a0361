-- `printing::emit` meets its contract: the line stands behind what waits, or at the start once that is written. Assumes nothing.
use mathlib.Core.Path.{refl}
use Rattle.printing.proofs.Laws.{printed_behind, printed_first, printed_lost}
use Rattle.printing.proofs.emit.Goals as goal

pub returns-then-line-text : goal.returns-then-line-text
returns-then-line-text c = printed_behind c.count-at.ensures.1 c.if-line-text.true c.put-end.ensures refl

pub returns-then-p : goal.returns-then-p
returns-then-p c = printed_lost c.flush-p.ensures c.if-p.true

pub returns : goal.returns
returns c = printed_first c.flush-p.ensures c.if-p.false c.requires c.put-end-2.ensures refl
