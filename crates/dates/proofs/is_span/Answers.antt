-- `dates::is_span` meets its contract: the code's tests are the definition's.
-- Assumes nothing.
use Rattle.std.proofs.Common.{rules}
use Rattle.dates.specs.Calendar.{day_of}
use Rattle.dates.specs.Terms.{is_term}
use Rattle.dates.proofs.is_span.Goals as goal

pub returns-then-is_date-2 : goal.returns-then-is_date-2
unfolding is_term day_of
returns-then-is_date-2 c = search rules

pub returns-else-is_date-2 : goal.returns-else-is_date-2
unfolding is_term day_of
returns-else-is_date-2 c = search rules
