-- The Gregorian calendar of the years 2000 to 2199: which dates there are, and the number of each day, 1 January 2000 being 0.
-- Assumes nothing.
use Rattle.std.specs.Prelude.{ℕ, zero, suc, ◌+◌, ◌-◌, ◌%◌, Bool, cond, not, ◌&&◌, ◌||◌, eqb, ltb, leb}
use Rattle.dates.specs.declared.Date.{Date}

-- (15.1) a leap year: every fourth, but of the hundredth years only every fourth
unfoldable pub is_leap : ℕ → Bool
is_leap year = eqb (year % 4) 0 && (not (eqb (year % 100) 0) || eqb (year % 400) 0)

-- (15.2) the days of a year
unfoldable pub days_in_year : ℕ → ℕ
days_in_year year = cond (is_leap year) 366 365

-- (15.2) the days of a month, 1 to 12, in a leap year or another: April, June, September and November have 30
unfoldable pub days_in_month : Bool → ℕ → ℕ
days_in_month leap month =
    cond (eqb month 2) (cond leap 29 28) (cond ((eqb month 4 || eqb month 6) || (eqb month 9 || eqb month 11)) 30 31)

-- (15.3) the date exists, and lies in 2000 to 2199
unfoldable pub is_date : Date → Bool
is_date d =
    (leb 2000 d.year && leb d.year 2199) && ((leb 1 d.month && leb d.month 12)
    && (leb 1 d.day && leb d.day (days_in_month (is_leap d.year) d.month)))

-- (15.4) the days of the first n years from 2000 on
unfoldable pub days_of_years : ℕ → ℕ
days_of_years zero = 0
days_of_years (suc n) = days_of_years n + days_in_year (2000 + n)

-- (15.4) the days of the first n months of a year
unfoldable pub days_of_months : Bool → ℕ → ℕ
days_of_months leap zero = 0
days_of_months leap (suc n) = days_of_months leap n + days_in_month leap (suc n)

-- (15.4) a date's day number: the days of the years before its year, of the months before its month, and of the month before it
unfoldable pub day_number : Date → ℕ
day_number d = days_of_years (d.year - 2000) + days_of_months (is_leap d.year) (d.month - 1) + (d.day - 1)

-- (12.18) the day number that a call goes by: 0 for a date that does not exist
unfoldable pub day_of : Date → ℕ
day_of d = cond (is_date d) (day_number d) 0

-- Aid: a date by its three numbers
abbrev pub date : ℕ → ℕ → ℕ → Date
date year month day = record { year = year; month = month; day = day }

-- Aid: the day after a date: the next day of the month; after its last the first of the next month; after that of December 1 January of the next year
unfoldable pub next_date : Date → Date
next_date d =
    cond (ltb d.day (days_in_month (is_leap d.year) d.month)) (date d.year d.month (d.day + 1))
    (cond (ltb d.month 12) (date d.year (d.month + 1) 1) (date (d.year + 1) 1 1))

-- Aid: a date is before another: by the year, in one year by the month, in one month by the day
unfoldable pub is_before : Date → Date → Bool
is_before d e =
    ltb d.year e.year || (eqb d.year e.year
    && (ltb d.month e.month || (eqb d.month e.month && ltb d.day e.day)))
