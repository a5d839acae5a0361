-- `lines::put_count` meets its contract: the number stands behind the name. Assumes nothing.
use native.Mathlib.Omega.{arith}
use Rattle.lines.specs.Texts.{count_text}
use Rattle.lines.proofs.Laws.{stands_more}
use Rattle.lines.proofs.put_count.Goals as goal

pub returns : goal.returns
unfolding count_text
returns c = (stands_more c.put-a.ensures c.put_decimal.ensures.0, omega (arith, c.put-a.ensures.end, c.put_decimal.ensures.1))
