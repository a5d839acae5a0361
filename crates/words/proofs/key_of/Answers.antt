-- `words::key_of` meets its contract: each call is one line of the definition, and the first that finds something is the first line that does.
-- Assumes nothing.
use Rattle.words.specs.Words.{key_of}
use Rattle.words.proofs.Spans.{or_cond}
use Rattle.words.proofs.key_of.Goals as goal

pub returns : goal.returns
unfolding key_of
returns c = simp (c.or-9.ensures, c.or-8.ensures, c.or-7.ensures, c.or-6.ensures, c.or-5.ensures, c.or-4.ensures, c.or-3.ensures, c.or-2.ensures, c.or.ensures, c.if_begun.ensures, c.if_begun-2.ensures, c.if_begun-3.ensures, c.if_begun-4.ensures, c.if_begun-5.ensures, c.if_begun-6.ensures, c.if_begun-7.ensures, c.if_begun-8.ensures, c.if_begun-9.ensures, c.if_begun-10.ensures, or_cond)
