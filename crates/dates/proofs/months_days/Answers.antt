-- `dates::months_days` meets its contract: a leap year is a day ahead after February.
-- Assumes nothing.
use Prim.Native.Nat.{◌-◌}
use native.Mathlib.Omega.{arith}
use Rattle.dates.proofs.Laws.{leap_ahead, leap_even}
use Rattle.dates.proofs.months_days.Goals.{else-leap-via-then-leap+else-month-gt2, else-leap-via-else-leap}
use Rattle.dates.proofs.months_days.Goals as goal

pub returns-then-month-gt2 : goal.returns-then-month-gt2
returns-then-month-gt2 c = rw c.if-leap.true (omega (arith, leap_ahead (c.args.month - 1) (omega arith)), omega arith)

pub returns-else-leap : goal.returns-else-leap
returns-else-leap c =
    elim c.else-leap.branch [
      | else-leap-via-then-leap+else-month-gt2 w ↦ rw w.if-leap.true (omega (arith, leap_even (c.args.month - 1) (omega arith)), omega arith)
      | else-leap-via-else-leap w ↦ rw w.if-leap.false (c.common_days-days.ensures.0, omega arith)
    ]
