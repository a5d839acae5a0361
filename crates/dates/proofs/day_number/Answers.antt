-- `dates::day_number` meets its contract: a date's three counts are in range, and their sum is its number.
-- Assumes nothing.
use native.Mathlib.Omega.{arith}
use mathlib.Core.Path.{◌≡◌, refl, sym, ◌∙◌}
use mathlib.Core.Bool.{true}
use borrow.Author.Tests.{not-true, not-false}
use Rattle.dates.specs.Calendar.{is_date, day_number, day_of}
use Rattle.dates.proofs.Laws.{Exists, exists, at_most}
use borrow.Author.Rules.{rules}
use Rattle.dates.proofs.day_number.Goals.{Else-not-is_date}
use Rattle.dates.proofs.day_number.Goals as goal

-- past the first test the date exists
tested : (e : Else-not-is_date) → is_date e.args.d ≡ true
tested e = sym e.is_date.ensures ∙ not-false _ e.if-not-is_date.false-raw

real : (e : Else-not-is_date) → Exists e.args.d
real e = exists e.args.d (tested e)

pub returns-then-not-is_date : goal.returns-then-not-is_date
unfolding day_of
returns-then-not-is_date c = rw (sym c.is_date.ensures ∙ not-true _ c.if-not-is_date.true-raw) (search rules)

pub overflow_sub-d : goal.overflow_sub-d
overflow_sub-d c = (real c.before).from

pub years_days-years-requires : goal.years_days-years-requires
years_days-years-requires c = omega (arith, (real c.before).to)

pub months_days-months-requires : goal.months_days-months-requires
months_days-months-requires c = let e = real c.before.before.before in (e.month_from, e.month_to)

pub overflow_sub-result : goal.overflow_sub-result
overflow_sub-result c = (real c.before.before.before.before.before).day_from

pub returns : goal.returns
unfolding day_of day_number
returns c =
    rw (tested c.before.before.before.before.before, c.years_days-years.ensures.0, c.months_days-months.ensures.0, c.is_leap.ensures)
    (refl, at_most c.args.d (tested c.before.before.before.before.before))
