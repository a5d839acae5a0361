-- `words::command_of` meets its contract: each call is one line of the definition, and the first that finds something is the first line that does.
-- Assumes nothing.
use Rattle.words.specs.Words.{command_of}
use Rattle.words.proofs.Spans.{or_cond}
use Rattle.words.proofs.command_of.Goals as goal

pub returns : goal.returns
unfolding command_of
returns c = simp (c.or-10.ensures, c.or-9.ensures, c.or-8.ensures, c.or-7.ensures, c.or-6.ensures, c.or-5.ensures, c.or-4.ensures, c.or-3.ensures, c.or-2.ensures, c.or.ensures, c.if_named.ensures, c.if_named-2.ensures, c.if_named-3.ensures, c.if_named-4.ensures, c.if_named-5.ensures, c.if_named-6.ensures, c.if_named-7.ensures, c.if_named-8.ensures, c.if_named-9.ensures, c.if_named-10.ensures, c.if_named-11.ensures, or_cond)
