-- Terms, as a caller gives them.
-- Assumes nothing.
use Rattle.std.specs.Prelude.{Bool, true, ◌&&◌, leb}
use Rattle.dates.specs.declared.Term.{Term}
use Rattle.dates.specs.declared.Term.TheVariants.{Unlimited, Between}
use Rattle.dates.specs.Calendar.{is_date, day_number}

-- (15.5) both dates exist, and the first is not after the last
unfoldable pub is_term : Term → Bool
is_term Unlimited = true
is_term (Between first last) = (is_date first && is_date last) && leb (day_number first) (day_number last)
