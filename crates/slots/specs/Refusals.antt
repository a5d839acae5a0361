-- Refusals 2 to 7 and 14 of the calls; 1 is the part. Done where none applies.
-- Assumes nothing.
use Rattle.std.specs.Prelude.{ℕ, ◌+◌, ◌*◌, ◌/◌, Bool, false, cond, not, ◌&&◌, ◌||◌, List, [], ◌∷◌, length, eqb, ltb, leb}
use Rattle.dates.specs.Calendar.{is_date}
use Rattle.dates.specs.Terms.{is_term}
use Rattle.geometry.specs.declared.Geometry.{Geometry}
use Rattle.state.specs.declared.Answer.{Answer}
use Rattle.state.specs.declared.Answer.TheVariants as Answers
use Rattle.state.specs.Answers.{number_of}
use Rattle.state.specs.Outcomes.{framed, cut_fits}
use Rattle.slots.specs.declared.Detail.{Detail}
use Rattle.slots.specs.declared.Flaws.{Flaws}
use Rattle.slots.specs.declared.Kind.{Kind}
use Rattle.slots.specs.declared.Kind.TheVariants.{Put, Patch, Get, Wipe}
use Rattle.slots.specs.Records.{limit_of, version_of}
use Rattle.slots.specs.Plans.{Asked, bound}
use Rattle.slots.specs.Details.{period_of}

-- (12.5) 5 by what is to be stored, n bytes: a put by the limit of its version; a patch, which has not seen the version yet, by version 1's
unfoldable pub is_over : Kind → Geometry → Detail → ℕ → Bool
is_over Put g d n = ltb (limit_of g (version_of (period_of d.term))) n
is_over Patch g d n = ltb (limit_of g 1) (d.place + n)
is_over Get g d n = false
is_over Wipe g d n = false

-- (12.6) 5 by the get buffer that is lent
unfoldable pub is_short : Kind → Geometry → ℕ → Bool
is_short Put g lent = false
is_short Patch g lent = false
is_short Get g lent = ltb lent (limit_of g 1)
is_short Wipe g lent = false

-- (12.17) 14: a put's term that is none, a get's date of today that does not exist
unfoldable pub is_misdated : Kind → Detail → Bool
is_misdated Put d = not (is_term d.term)
is_misdated Patch d = false
is_misdated Get d = not (is_date d.today)
is_misdated Wipe d = false

-- (12.5) what is met of 5 and 14: what the call is told, n bytes to be stored, `lent` bytes of get buffer
unfoldable pub flaws_in : Kind → Geometry → Detail → (n lent : ℕ) → Flaws
flaws_in k g d n lent = record { size = is_over k g d n || is_short k g lent; dates = is_misdated k d }

-- (12.8) a script byte over 2
unfoldable pub has_over_two : List ℕ → Bool
has_over_two [] = false
has_over_two (x ∷ xs) = ltb 2 x || has_over_two xs

-- (12.8) a cut in the script, reached or not
unfoldable pub has_cut : List ℕ → Bool
has_cut [] = false
has_cut (x ∷ xs) = eqb x 2 || has_cut xs

-- (12.8) 7: the one, or the other with junk of a wrong length
unfoldable pub bad_script : Geometry → ℕ → List ℕ → ℕ → Bool
bad_script g array script junk = has_over_two script || (has_cut script && not (cut_fits g array junk))

-- (12.7) 6, of a log that needs `least` bytes, then 7; the lengths of array, log and junk
unfoldable pub late_refusal : Geometry → ℕ → ℕ → ℕ → List ℕ → ℕ → Answer
late_refusal g array log least script junk = cond (ltb log least) Answers.Log (cond (bad_script g array script junk) Answers.Script Answers.Done)

-- (12.4) 3, 4, and then 5 and 14 if they are met
unfoldable pub early_refusal : Geometry → Asked → Flaws → Answer
early_refusal g a flaws =
    cond (leb (g.pages / 8) a.slot) Answers.Slot
    (cond (not (leb 1 a.limit && leb a.limit 1000)) Answers.Limit
    (cond flaws.size Answers.Size (cond flaws.dates Answers.Dates Answers.Done)))

-- (12.2) the first that applies
unfoldable pub or_else : Answer → Answer → Answer
or_else a b = cond (eqb (number_of a) 0) b a

-- (12.2) put, patch, get and wipe: what is asked, what is met of 5 and 14, the script, and the lengths of array, log and junk
-- (12.7) the log has room for the bound
unfoldable pub call_refusal : Geometry → ℕ → Asked → Flaws → ℕ → List ℕ → ℕ → Answer
call_refusal g array a flaws log script junk = or_else (early_refusal g a flaws) (late_refusal g array log (6 * bound g a) script junk)

-- (12.7) the log of a raw has room for one frame
-- (12.9) raw: the frame, the script, and the lengths of array, reply, log and junk
unfoldable pub raw_refusal : Geometry → ℕ → List ℕ → ℕ → ℕ → List ℕ → ℕ → Answer
raw_refusal g array frame reply log script junk =
    cond (framed (length frame) reply) (late_refusal g array log 6 script junk) Answers.Frame
