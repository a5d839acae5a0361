-- `dates::days_in_month` meets its contract: each month is the definition's.
-- Assumes nothing.
use Rattle.std.proofs.Common.{rules}
use Rattle.dates.specs.Calendar.{days_in_month}
use Rattle.dates.proofs.days_in_month.Goals as goal

pub returns-in-2 : goal.returns-in-2
unfolding days_in_month
returns-in-2 c = search rules

pub returns-in-2-2 : goal.returns-in-2-2
unfolding days_in_month
returns-in-2-2 c = search rules

pub returns-in-4 : goal.returns-in-4
unfolding days_in_month
returns-in-4 c = search rules

pub returns-in_default : goal.returns-in_default
unfolding days_in_month
returns-in_default c = search rules
