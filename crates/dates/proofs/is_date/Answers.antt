-- `dates::is_date` meets its contract: the code's tests are the definition's.
-- Assumes nothing.
use Rattle.std.proofs.Common.{rules, arith}
use Rattle.std.proofs.lemmas.Grind.{common_steps}
use Rattle.dates.specs.Calendar.{is_date}
use Rattle.dates.proofs.is_date.Goals as goal

pub returns-then-contains-2 : goal.returns-then-contains-2
unfolding is_date
returns-then-contains-2 c = grind (arith, common_steps)

pub returns-else-contains-2 : goal.returns-else-contains-2
unfolding is_date
returns-else-contains-2 c = search rules
