-- The numbers of the answers.
-- Assumes nothing.
use Rattle.std.specs.Prelude.{ℕ}
use Rattle.state.specs.declared.Answer.{Answer}
use Rattle.state.specs.declared.Answer.TheVariants.{Done, Part, Frame, Slot, Limit, Size, Log, Script, Device, Busy, Sealed, Cut, Blank, End, Dates, Term, Miscompare}

-- (12.1) each answer's number
-- (14.1) there is no other answer
unfoldable pub number_of : Answer → ℕ
number_of Done = 0
number_of Part = 1
number_of Frame = 2
number_of Slot = 3
number_of Limit = 4
number_of Size = 5
number_of Log = 6
number_of Script = 7
number_of Device = 8
number_of Busy = 9
number_of Sealed = 10
number_of Cut = 11
number_of Blank = 12
number_of End = 13
number_of Dates = 14
number_of Term = 15
number_of Miscompare = 16
