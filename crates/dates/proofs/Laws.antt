-- The laws of the calendar. They hold because a date lies within its month and its year, whose days come after those of all before: so day numbers go up one by one in the order of the dates.
-- Assumes nothing.
use Prim.Native.Nat.{ℕ, zero, suc, ◌+◌, ◌-◌, ◌*◌, ◌/◌, ◌%◌, ◌≤◌, ◌<◌}
use native.Mathlib.Nat.{eq-or-lt_of_le}
use native.Mathlib.Omega.{arith}
use mathlib.Core.Bool.{Bool, true, false, cond, not, ◌&&◌, ◌||◌, false≢true}
use mathlib.Core.Logic.{◌⊎◌, inl, inr, ⊎_elim}
use mathlib.Core.Path.{◌≡◌, refl, sym, ap, subst, ◌∙◌}
use lib.Dec.{eqb, ltb, leb}
use borrow.Author.Tests.{ltb-true, ltb-false, leb-true, eqb-true, eqb-false, lt-ltb, le-ltb, le-leb, lt-leb, eq-eqb, ne_eqb}
use Rattle.dates.specs.declared.Date.{Date}
use Rattle.dates.specs.Calendar.{is_leap, days_in_year, days_in_month, is_date, days_of_years, days_of_months, day_number, date, next_date, is_before}

-- ---- What it is to be a date

-- the six tests that a date has passed
pub record Exists (d : Date) : Type 0 where
  pub from : 2000 ≤ d.year
  pub to : d.year ≤ 2199
  pub month_from : 1 ≤ d.month
  pub month_to : d.month ≤ 12
  pub day_from : 1 ≤ d.day
  pub day_to : d.day ≤ days_in_month (is_leap d.year) d.month

-- both of two tests that pass together pass
pub both : (a b : Bool) → a && b ≡ true → (a ≡ true) × (b ≡ true)
both true true h = (refl, refl)
both true false h = absurd (false≢true h)
both false b h = absurd (false≢true h)

-- what is a date has passed them
pub exists : (d : Date) → is_date d ≡ true → Exists d
unfolding is_date
exists d h =
    let last = days_in_month (is_leap d.year) d.month in
    let y = both (leb 2000 d.year && leb d.year 2199) ((leb 1 d.month && leb d.month 12) && (leb 1 d.day && leb d.day last)) h in
    let m = both (leb 1 d.month && leb d.month 12) (leb 1 d.day && leb d.day last) y.1 in
    let a = both (leb 2000 d.year) (leb d.year 2199) y.0 in
    let b = both (leb 1 d.month) (leb d.month 12) m.0 in
    let c = both (leb 1 d.day) (leb d.day last) m.1 in
    record {
      from = leb-true 2000 d.year a.0;
      to = leb-true d.year 2199 a.1;
      month_from = leb-true 1 d.month b.0;
      month_to = leb-true d.month 12 b.1;
      day_from = leb-true 1 d.day c.0;
      day_to = leb-true d.day last c.1;
    }

-- .. and what passes them is a date
pub is_date_lem : (d : Date) → Exists d → is_date d ≡ true
unfolding is_date
is_date_lem d h =
    rw (
      le-leb 2000 d.year h.from,
      le-leb d.year 2199 h.to,
      le-leb 1 d.month h.month_from,
      le-leb d.month 12 h.month_to,
      le-leb 1 d.day h.day_from,
      le-leb d.day (days_in_month (is_leap d.year) d.month) h.day_to,
    )

-- what cannot pass them is none
pub refused : (d : Date) → (is_date d ≡ true → ⊥) → false ≡ is_date d
refused d n = go (is_date d) n
  where
    go : (b : Bool) → (b ≡ true → ⊥) → false ≡ b
    go true f = absurd (f refl)
    go false f = refl

-- ---- The days of the years

-- one year more is one more fourth year, hundredth, four hundredth, where it is one
fourth : (n : ℕ) (b : Bool) → eqb ((2000 + n) % 4) 0 ≡ b → (suc n + 3) / 4 ≡ (n + 3) / 4 + cond b 1 0
fourth n true e = omega (arith, eqb-true)
fourth n false e = omega (arith, eqb-false)

hundredth : (n : ℕ) (b : Bool) → eqb ((2000 + n) % 100) 0 ≡ b → (suc n + 99) / 100 ≡ (n + 99) / 100 + cond b 1 0
hundredth n true e = omega (arith, eqb-true)
hundredth n false e = omega (arith, eqb-false)

four_hundredth : (n : ℕ) (b : Bool) → eqb ((2000 + n) % 400) 0 ≡ b → (suc n + 399) / 400 ≡ (n + 399) / 400 + cond b 1 0
four_hundredth n true e = omega (arith, eqb-true)
four_hundredth n false e = omega (arith, eqb-false)

-- a four hundredth year is a hundredth, a hundredth a fourth
hundred_four : (y : ℕ) → eqb (y % 100) 0 ≡ true → eqb (y % 4) 0 ≡ true
hundred_four y e = eq-eqb (y % 4) 0 (omega (arith, eqb-true))

four_hundred_hundred : (y : ℕ) → eqb (y % 400) 0 ≡ true → eqb (y % 100) 0 ≡ true
four_hundred_hundred y e = eq-eqb (y % 100) 0 (omega (arith, eqb-true))

-- the step of the closed form, p, q and r being the fourth, hundredth and four hundredth years so far
year_more : (a b c : Bool) (n x p q r p' q' r' : ℕ) → (b ≡ true → a ≡ true) → (c ≡ true → b ≡ true) → q ≤ p
    → p' ≡ p + cond a 1 0 → q' ≡ q + cond b 1 0 → r' ≡ r + cond c 1 0 → x ≡ 365 * n + p - q + r
    → x + cond (a && (not b || c)) 366 365 ≡ 365 * suc n + p' - q' + r'
year_more true true true n x p q r p' q' r' f g l u v w h = omega arith
year_more true true false n x p q r p' q' r' f g l u v w h = omega arith
year_more true false true n x p q r p' q' r' f g l u v w h = absurd (false≢true (g refl))
year_more true false false n x p q r p' q' r' f g l u v w h = omega arith
year_more false true c n x p q r p' q' r' f g l u v w h = absurd (false≢true (f refl))
year_more false false true n x p q r p' q' r' f g l u v w h = absurd (false≢true (g refl))
year_more false false false n x p q r p' q' r' f g l u v w h = omega arith

-- n years from 2000 on: 365 days each, and one more for every fourth, but not for the hundredth, but for the four hundredth
pub days_of_years_lem : (n : ℕ) → days_of_years n ≡ 365 * n + (n + 3) / 4 - (n + 99) / 100 + (n + 399) / 400
unfolding days_of_years days_in_year is_leap
days_of_years_lem zero = refl
days_of_years_lem (suc n) =
    year_more (eqb ((2000 + n) % 4) 0) (eqb ((2000 + n) % 100) 0) (eqb ((2000 + n) % 400) 0)
    n (days_of_years n) ((n + 3) / 4) ((n + 99) / 100) ((n + 399) / 400) ((suc n + 3) / 4) ((suc n + 99) / 100) ((suc n + 399) / 400)
    (hundred_four (2000 + n)) (four_hundred_hundred (2000 + n)) (omega arith)
    (fourth n _ refl) (hundredth n _ refl) (four_hundredth n _ refl) (days_of_years_lem n)

-- ---- Counts only grow

-- a count that each step adds to
grows : (f g : ℕ → ℕ) → ((n : ℕ) → f (suc n) ≡ f n + g n) → (a b : ℕ) → a ≤ b → f a ≤ f b
grows f g s a zero l = let e : a ≡ 0 = omega arith in rw e (omega arith)
grows f g s a (suc b) l =
    ⊎_elim
    (λ e. rw e (omega arith))
    (λ h. omega (arith, grows f g s a b (omega arith), s b))
    (eq-or-lt_of_le l)

years_grow : (a b : ℕ) → a ≤ b → days_of_years a ≤ days_of_years b
unfolding days_of_years
years_grow = grows days_of_years (λ n. days_in_year (2000 + n)) (λ n. refl)

months_grow : (leap : Bool) (a b : ℕ) → a ≤ b → days_of_months leap a ≤ days_of_months leap b
unfolding days_of_months
months_grow leap = grows (days_of_months leap) (λ n. days_in_month leap (suc n)) (λ n. refl)

-- ---- The days of the months

-- the twelve months make the year
twelve : (year : ℕ) → days_of_months (is_leap year) 12 ≡ days_in_year year
unfolding days_of_months days_in_month days_in_year
twelve year = go (is_leap year)
  where
    go : (leap : Bool) → days_of_months leap 12 ≡ cond leap 366 365
    go true = refl
    go false = refl

-- a month's days come after those of the months before it
month_more : (leap : Bool) (m : ℕ) → 1 ≤ m → days_of_months leap m ≡ days_of_months leap (m - 1) + days_in_month leap m
unfolding days_of_months
month_more leap m l = subst (λ (k : ℕ). days_of_months leap k ≡ days_of_months leap (m - 1) + days_in_month leap k) (the_next m l) refl
  where
    the_next : (n : ℕ) → 1 ≤ n → suc (n - 1) ≡ n
    the_next n h = omega arith

-- a year's days come after those of the years before it
year_after : (y : ℕ) → 2000 ≤ y → days_of_years (y + 1 - 2000) ≡ days_of_years (y - 2000) + days_in_year y
unfolding days_of_years
year_after y l =
    let e : y + 1 - 2000 ≡ suc (y - 2000) = omega arith in
    let f : 2000 + (y - 2000) ≡ y = omega arith in
    rw e (ap (λ (k : ℕ). days_of_years (y - 2000) + days_in_year k) f)

-- every month has a day
some_day : (leap : Bool) (m : ℕ) → 1 ≤ days_in_month leap m
unfolding days_in_month
some_day leap m = go leap (eqb m 2) ((eqb m 4 || eqb m 6) || (eqb m 9 || eqb m 11))
  where
    go : (a b c : Bool) → 1 ≤ cond b (cond a 29 28) (cond c 30 31)
    go true true c = omega arith
    go false true c = omega arith
    go a false true = omega arith
    go a false false = omega arith

-- December has 31 days
thirty_one : (leap : Bool) → days_in_month leap 12 ≡ 31
unfolding days_in_month
thirty_one leap = refl

-- after February a leap year is a day ahead
pub leap_ahead : (m : ℕ) → 2 ≤ m → days_of_months true m ≡ days_of_months false m + 1
unfolding days_of_months days_in_month
leap_ahead zero l = absurd (omega arith)
leap_ahead (suc zero) l = absurd (omega arith)
leap_ahead (suc (suc zero)) l = refl
leap_ahead (suc (suc (suc m))) l =
    let d : days_of_months true (suc (suc m)) ≡ days_of_months false (suc (suc m)) + 1 = leap_ahead (suc (suc m)) (omega arith) in
    rw (d, ne_eqb (suc (suc (suc m))) 2 (λ e. omega arith)) (omega arith)

-- .. and until then it is not
pub leap_even : (m : ℕ) → m ≤ 1 → days_of_months true m ≡ days_of_months false m
unfolding days_of_months days_in_month
leap_even zero l = refl
leap_even (suc zero) l = refl
leap_even (suc (suc m)) l = absurd (omega arith)

-- ---- Where a date lies among the days

-- a date lies within its month
within_month : (d : Date) → Exists d
    → days_of_months (is_leap d.year) (d.month - 1) + (d.day - 1) < days_of_months (is_leap d.year) d.month
within_month d h = omega (arith, h.day_from, h.day_to, month_more (is_leap d.year) d.month h.month_from)

-- .. and within its year
within_year : (d : Date) → Exists d → day_number d < days_of_years (d.year + 1 - 2000)
unfolding day_number
within_year d h =
    omega (arith, within_month d h, months_grow (is_leap d.year) d.month 12 h.month_to, twelve d.year, year_after d.year h.from)

-- no date is later than the last
pub at_most : (d : Date) → is_date d ≡ true → day_number d ≤ 73048
at_most d t =
    let h = exists d t in
    omega (arith, within_year d h, days_of_years_lem 200, years_grow (d.year + 1 - 2000) 200 (omega (arith, h.to)))

-- ---- Dates that are known

-- 1 January 2000 is day 0
pub first-number : day_number (date 2000 1 1) ≡ 0
unfolding day_number days_of_years days_of_months
first-number = refl

-- 31 December 2199 is day 73,048
pub last-number : day_number (date 2199 12 31) ≡ 73048
unfolding day_number days_of_months days_in_month is_leap
last-number = rw (days_of_years_lem 199)

-- 29 February exists in 2000, a four hundredth year, and in 2096
pub leap_day_2000 : is_date (date 2000 2 29) ≡ true
unfolding is_date days_in_month is_leap
leap_day_2000 = refl

pub leap_day_2096 : is_date (date 2096 2 29) ≡ true
unfolding is_date days_in_month is_leap
leap_day_2096 = refl

-- .. and not in 2100, a hundredth year, nor in 2001
pub no_leap_day_2100 : is_date (date 2100 2 29) ≡ false
unfolding is_date days_in_month is_leap
no_leap_day_2100 = refl

pub no_leap_day_2001 : is_date (date 2001 2 29) ≡ false
unfolding is_date days_in_month is_leap
no_leap_day_2001 = refl

-- ---- The day after

-- the three ways to the day after
pub data After (d : Date) : Date → Type 0 where
  in_month : d.day < days_in_month (is_leap d.year) d.month → After d (date d.year d.month (d.day + 1))
  in_year : d.day ≡ days_in_month (is_leap d.year) d.month → d.month < 12 → After d (date d.year (d.month + 1) 1)
  new_year : d.day ≡ days_in_month (is_leap d.year) d.month → d.month ≡ 12 → After d (date (d.year + 1) 1 1)

after : (d : Date) → Exists d → After d (next_date d)
unfolding next_date
after d h = go (ltb d.day (days_in_month (is_leap d.year) d.month)) (ltb d.month 12) refl refl
  where
    go : (a b : Bool) → ltb d.day (days_in_month (is_leap d.year) d.month) ≡ a → ltb d.month 12 ≡ b
        → After d (cond a (date d.year d.month (d.day + 1)) (cond b (date d.year (d.month + 1) 1) (date (d.year + 1) 1 1)))
    go true b e f = in_month (ltb-true _ _ e)
    go false true e f = in_year (omega (arith, ltb-false, h.day_to)) (ltb-true _ _ f)
    go false false e f = new_year (omega (arith, ltb-false, h.day_to)) (omega (arith, ltb-false, h.month_to))

no_months : (leap : Bool) → days_of_months leap 0 ≡ 0
unfolding days_of_months
no_months leap = refl

after-number : (d e : Date) → Exists d → After d e → day_number e ≡ suc (day_number d)
unfolding day_number
after-number d e h (in_month l) = omega (arith, h.day_from)
after-number d e h (in_year l m) =
    let k : d.month + 1 - 1 ≡ d.month = omega arith in
    rw k (omega (arith, h.day_from, month_more (is_leap d.year) d.month h.month_from))
after-number d e h (new_year l m) =
    omega (
      arith,
      h.day_from,
      month_more (is_leap d.year) d.month h.month_from,
      ap (days_of_months (is_leap d.year)) m,
      twelve d.year,
      year_after d.year h.from,
      no_months (is_leap (d.year + 1)),
    )

-- the day after has the next number
pub next-number : (d : Date) → is_date d ≡ true → day_number (next_date d) ≡ suc (day_number d)
next-number d t = after-number d (next_date d) (exists d t) (after d (exists d t))

-- a date is its three numbers
same-date : (d e : Date) → d.year ≡ e.year → d.month ≡ e.month → d.day ≡ e.day → d ≡ e
same-date d e y m a = λ i. date (y i) (m i) (a i)

after_exists : (d e : Date) → Exists d → After d e → (d ≡ date 2199 12 31 → ⊥) → Exists e
after_exists d e h (in_month l) n =
    record { from = h.from; to = h.to; month_from = h.month_from; month_to = h.month_to; day_from = omega arith; day_to = omega arith }
after_exists d e h (in_year l m) n = record {
  from = h.from;
  to = h.to;
  month_from = omega arith;
  month_to = omega arith;
  day_from = omega arith;
  day_to = some_day (is_leap d.year) (d.month + 1);
}
after_exists d e h (new_year l m) n = record {
  from = omega (arith, h.from);
  to = not_last d.year h.to (λ y. n (same-date d (date 2199 12 31) y m (l ∙ december (is_leap d.year) m)));
  month_from = omega arith;
  month_to = omega arith;
  day_from = omega arith;
  day_to = some_day (is_leap (d.year + 1)) 1;
}
  where
    not_last : (y : ℕ) → y ≤ 2199 → (y ≡ 2199 → ⊥) → y + 1 ≤ 2199
    not_last y l f = omega (arith, f)

    december : (leap : Bool) → d.month ≡ 12 → days_in_month leap d.month ≡ 31
    december leap e = rw e (thirty_one leap)

-- .. and it exists, but after 31 December 2199
pub next_exists : (d : Date) → is_date d ≡ true → (d ≡ date 2199 12 31 → ⊥) → is_date (next_date d) ≡ true
next_exists d t n = is_date_lem (next_date d) (after_exists d (next_date d) (exists d t) (after d (exists d t)) n)

-- ---- The order of dates

-- by which number a date is before another
pub data Before (d e : Date) : Type 0 where
  by_year : d.year < e.year → Before d e
  by_month : d.year ≡ e.year → d.month < e.month → Before d e
  by_day : d.year ≡ e.year → d.month ≡ e.month → d.day < e.day → Before d e

before_told : (d e : Date) → Before d e → is_before d e ≡ true
unfolding is_before
before_told d e (by_year l) = rw (lt-ltb d.year e.year l)
before_told d e (by_month y l) =
    rw (le-ltb d.year e.year (omega arith), eq-eqb d.year e.year y, lt-ltb d.month e.month l)
before_told d e (by_day y m l) =
    rw (
      le-ltb d.year e.year (omega arith),
      eq-eqb d.year e.year y,
      le-ltb d.month e.month (omega arith),
      eq-eqb d.month e.month m,
      lt-ltb d.day e.day l,
    )

not_after : (d e : Date) → Before e d → is_before d e ≡ false
unfolding is_before
not_after d e (by_year l) = rw (le-ltb d.year e.year (omega arith), ne_eqb d.year e.year (λ y. omega arith))
not_after d e (by_month y l) =
    rw (
      le-ltb d.year e.year (omega arith),
      eq-eqb d.year e.year (sym y),
      le-ltb d.month e.month (omega arith),
      ne_eqb d.month e.month (λ m. omega arith),
    )
not_after d e (by_day y m l) =
    rw (
      le-ltb d.year e.year (omega arith),
      eq-eqb d.year e.year (sym y),
      le-ltb d.month e.month (omega arith),
      eq-eqb d.month e.month (sym m),
      le-ltb d.day e.day (omega arith),
    )

not_itself : (d : Date) → is_before d d ≡ false
unfolding is_before
not_itself d =
    rw (
      le-ltb d.year d.year (omega arith),
      eq-eqb d.year d.year refl,
      le-ltb d.month d.month (omega arith),
      eq-eqb d.month d.month refl,
      le-ltb d.day d.day (omega arith),
    )

either : (a b : ℕ) → (a < b) ⊎ ((b < a) ⊎ (a ≡ b))
either a b = go (ltb a b) (ltb b a) refl refl
  where
    go : (s t : Bool) → ltb a b ≡ s → ltb b a ≡ t → (a < b) ⊎ ((b < a) ⊎ (a ≡ b))
    go true t e f = inl (ltb-true a b e)
    go false true e f = inr (inl (ltb-true b a f))
    go false false e f = inr (inr (omega (arith, ltb-false)))

compared : (d e : Date) → Before d e ⊎ (Before e d ⊎ (d ≡ e))
compared d e =
    ⊎_elim (λ l. inl (by_year l)) (⊎_elim (λ l. inr (inl (by_year l))) (λ y.
    ⊎_elim (λ l. inl (by_month y l)) (⊎_elim (λ l. inr (inl (by_month (sym y) l))) (λ m.
    ⊎_elim (λ l. inl (by_day y m l)) (⊎_elim (λ l. inr (inl (by_day (sym y) (sym m) l))) (λ a. inr (inr (same-date d e y m a))))
    (either d.day e.day)))
    (either d.month e.month)))
    (either d.year e.year)

-- an earlier date has a lesser number
lesser : (d e : Date) → Exists d → Exists e → Before d e → day_number d < day_number e
unfolding day_number
lesser d e h k (by_year l) = omega (arith, within_year d h, years_grow (d.year + 1 - 2000) (e.year - 2000) (omega (arith, h.from)))
lesser d e h k (by_month y l) =
    omega (
      arith,
      within_month d h,
      ap (λ (n : ℕ). days_of_years (n - 2000)) y,
      months_grow (is_leap d.year) d.month (e.month - 1) (omega arith),
      ap (λ (n : ℕ). days_of_months (is_leap n) (e.month - 1)) y,
    )
lesser d e h k (by_day y m l) =
    omega (
      arith,
      h.day_from,
      ap (λ (n : ℕ). days_of_years (n - 2000)) y,
      ap (λ (n : ℕ). days_of_months (is_leap n) (d.month - 1)) y,
      ap (λ (n : ℕ). days_of_months (is_leap e.year) (n - 1)) m,
    )

-- the order of dates is that of their numbers
pub order : (d e : Date) → is_date d ≡ true → is_date e ≡ true → is_before d e ≡ ltb (day_number d) (day_number e)
order d e t u =
    ⊎_elim
    (λ b. before_told d e b ∙ sym (lt-ltb (day_number d) (day_number e) (lesser d e (exists d t) (exists e u) b)))
    (⊎_elim
    (λ b. not_after d e b ∙ sym (le-ltb (day_number d) (day_number e) (omega (arith, lesser e d (exists e u) (exists d t) b))))
    (λ p. subst (λ (x : Date). is_before d x ≡ ltb (day_number d) (day_number x)) p
    (not_itself d ∙ sym (le-ltb (day_number d) (day_number d) (omega arith)))))
    (compared d e)

-- .. so a number is not over another exactly if the other's date is not before
pub not_before : (d e : Date) → is_date d ≡ true → is_date e ≡ true → leb (day_number d) (day_number e) ≡ not (is_before e d)
not_before d e t u = go (is_before e d) refl
  where
    go : (b : Bool) → is_before e d ≡ b → leb (day_number d) (day_number e) ≡ not b
    go true h = lt-leb (day_number d) (day_number e) (ltb-true (day_number e) (day_number d) (sym (order e d u t) ∙ h))
    go false h = le-leb (day_number d) (day_number e) (ltb-false (day_number e) (day_number d) (sym (order e d u t) ∙ h))

-- dates with one number are one date
pub one_number : (d e : Date) → is_date d ≡ true → is_date e ≡ true → day_number d ≡ day_number e → d ≡ e
one_number d e t u n =
    ⊎_elim
    (λ b. absurd (omega (arith, lesser d e (exists d t) (exists e u) b)))
    (⊎_elim (λ b. absurd (omega (arith, lesser e d (exists e u) (exists d t) b))) (λ p. p))
    (compared d e)
