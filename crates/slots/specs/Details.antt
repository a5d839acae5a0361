-- What a call is told in dates, as the driver goes by it: in day numbers.
-- Assumes nothing.
use Rattle.std.specs.Prelude.{ℕ}
use Rattle.dates.specs.declared.Date.{Date}
use Rattle.dates.specs.declared.Term.{Term}
use Rattle.dates.specs.declared.Term.TheVariants.{Unlimited, Between}
use Rattle.dates.specs.Calendar.{day_of}
use Rattle.slots.specs.declared.Aim.{Aim}
use Rattle.slots.specs.declared.Detail.{Detail}
use Rattle.slots.specs.declared.Period.{Period}
use Rattle.slots.specs.declared.Period.TheVariants.{Always, Days}

-- (12.18) a term's day numbers
unfoldable pub period_of : Term → Period
period_of Unlimited = Always
period_of (Between first last) = Days (day_of first) (day_of last)

-- (12.18) what the call aims at
unfoldable pub aim_of : Detail → Aim
aim_of d = record { place = d.place; period = period_of d.term; today = day_of d.today }

-- ---- what each call is told

-- Aid: a date that stands where no date is asked for
abbrev pub any_date : Date
any_date = record { year = 2000; month = 1; day = 1 }

-- (11.14) a put: a term, or none
abbrev pub storing : Term → Detail
storing term = record { place = 0; term = term; today = any_date }

-- (11.14) a patch: a place
abbrev pub changing : ℕ → Detail
changing place = record { place = place; term = Unlimited; today = any_date }

-- (11.14) a get: today's date
abbrev pub reading : Date → Detail
reading today = record { place = 0; term = Unlimited; today = today }

-- (11.14) a wipe: nothing
abbrev pub untold : Detail
untold = record { place = 0; term = Unlimited; today = any_date }
