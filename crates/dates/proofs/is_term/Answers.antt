-- `dates::is_term` meets its contract: the definition's cases.
-- Assumes nothing.
use Rattle.dates.specs.Terms.{is_term}
use Rattle.dates.proofs.is_term.Goals as goal

pub returns-in-Unlimited : goal.returns-in-Unlimited
unfolding is_term
returns-in-Unlimited c = rw c.in-Unlimited.is

pub returns-in-Between : goal.returns-in-Between
returns-in-Between c = rw c.in-Between.is c.is_span.ensures
