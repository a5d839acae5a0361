-- A TERM IN DATES: the numbers by which a get judges are in the order of the dates, so a day is inside exactly if its date is neither before the first nor
-- after the last.
-- Assumes nothing.
use Prim.Native.Nat.{ℕ}
use mathlib.Core.Path.{◌≡◌, ap, ◌∙◌}
use mathlib.Core.Bool.{Bool, true, cond, not, ◌&&◌}
use lib.Dec.{leb}
use Rattle.dates.specs.declared.Date.{Date}
use Rattle.dates.specs.declared.Term.TheVariants.{Between}
use Rattle.dates.specs.Calendar.{is_date, day_number, day_of, is_before}
use Rattle.dates.specs.Terms.{is_term}
use Rattle.dates.proofs.Laws.{both, not_before}
use Rattle.slots.specs.Details.{period_of}
use Rattle.slots.specs.Records.{is_within}

-- the number of a date that exists
numbered : (d : Date) → is_date d ≡ true → day_of d ≡ day_number d
unfolding day_of
numbered d t = ap (λ (b : Bool). cond b (day_number d) 0) t

-- of two dates that exist
ordered : (d e : Date) → is_date d ≡ true → is_date e ≡ true → leb (day_of d) (day_of e) ≡ not (is_before e d)
ordered d e t u = (λ i. leb (numbered d t i) (numbered e u i)) ∙ not_before d e t u

-- INSIDE: a term that 14 lets pass, and a date of today that it lets pass
pub inside : (first last today : Date) → is_term (Between first last) ≡ true → is_date today ≡ true
    → is_within (period_of (Between first last)) (day_of today) ≡ (not (is_before today first) && not (is_before last today))
unfolding is_term period_of is_within
inside first last today h t =
    let dates = (both (is_date first && is_date last) (leb (day_number first) (day_number last)) h).0 in
    let each = both (is_date first) (is_date last) dates in
    (λ i. ordered first today each.0 t i && ordered today last t each.1 i)
