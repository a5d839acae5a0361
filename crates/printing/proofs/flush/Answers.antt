-- `printing::flush` meets its contract: what the writes took is the beginning of what waited. Assumes nothing.
use native.Mathlib.Omega.{arith}
use mathlib.Core.Path.{refl}
use Rattle.printing.proofs.Laws.{flushed_none, flushed_stopped, flushed_taken}
use Rattle.printing.proofs.flush.Goals as goal

pub returns-then-o : goal.returns-then-o
returns-then-o c = flushed_none c.if-o.true

pub returns-then-room-n : goal.returns-then-room-n
returns-then-room-n c = flushed_stopped refl

pub returns : goal.returns
returns c = flushed_taken c.if-o.false c.count-n.ensures.1 (omega (arith, c.write_all-k.ensures, c.count-n.ensures.0.1))
