-- `frame_text::put_digit` meets its contract: the two cases are the definition's. Assumes nothing.
use Rattle.frame_text.proofs.Texts.{digit_none, digit_some}
use Rattle.frame_text.proofs.put_digit.Goals as goal

pub returns-then-n-worth : goal.returns-then-n-worth
returns-then-n-worth c = digit_none c.args.n c.args.worth c.args.at c.args.out.now c.if-n-worth.true

pub returns : goal.returns
returns c = digit_some c.args.n c.args.worth c.args.at c.args.out.now c.if-n-worth.false
