-- `lines::put_check` meets its contract: the number stands behind the name. Assumes nothing.
use Rattle.lines.specs.Texts.{word_text}
use native.Mathlib.Omega.{arith}
use Rattle.lines.specs.Texts.{check_text}
use Rattle.lines.proofs.Laws.{stands_more}
use Rattle.lines.proofs.put_check.Goals as goal

pub returns : goal.returns
unfolding check_text word_text
returns c = (stands_more c.put-a.ensures c.put_word.ensures, omega (arith, c.put-a.ensures.end, c.put_word.ensures.end))
