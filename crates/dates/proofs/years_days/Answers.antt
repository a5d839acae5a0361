-- `dates::years_days` meets its contract: the code is the closed form.
-- Assumes nothing.
use native.Mathlib.Omega.{arith}
use mathlib.Core.Path.{sym}
use Rattle.dates.proofs.Laws.{days_of_years_lem}
use Rattle.dates.proofs.years_days.Goals as goal

pub returns : goal.returns
returns c = (sym (days_of_years_lem c.args.n), omega arith)
