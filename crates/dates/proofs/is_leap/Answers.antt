-- `dates::is_leap` meets its contract: the code's tests are the definition's.
-- Assumes nothing.
use Rattle.std.proofs.Common.{rules}
use Rattle.dates.specs.Calendar.{is_leap}
use Rattle.dates.proofs.is_leap.Goals as goal

pub returns-then-year-ne0 : goal.returns-then-year-ne0
unfolding is_leap
returns-then-year-ne0 c = search rules

pub returns-else-year-ne0 : goal.returns-else-year-ne0
unfolding is_leap
returns-else-year-ne0 c = search rules

pub returns-else-year-eq0 : goal.returns-else-year-eq0
unfolding is_leap
returns-else-year-eq0 c = search rules
