-- `frame_text::put_pair` meets its contract: the three bytes are those of the definition. Assumes nothing.
use Rattle.frame_text.proofs.put_pair.Goals as goal

pub returns : goal.returns
returns c = rw (← c.digit.ensures, ← c.digit-2.ensures) (c.put.ensures.end, c.put.ensures.laid)
