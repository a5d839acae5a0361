-- What the functions that carry out a line promise.
-- Assumes nothing.
use Rattle.std.specs.Prelude.{ℕ, ◌≤◌, ◌≡◌, List, length}
use Rattle.printing.specs.declared.Output.{Output}
use Rattle.printing.specs.Held.{Printed}
use Rattle.lengths.specs.Lengths.{array_room, log_room, out_room, junk_room}
use Rattle.acting.specs.Steps.{Seen}
use Rattle.obeying.specs.declared.Session.{Session}
use Rattle.obeying.specs.declared.Room.{Room}
use Rattle.obeying.specs.Desk.{Desk, desk_of}

-- the program's room as slices: for the largest part's array, for junk, for a log, for a get buffer or reply, and for the longest line of text
pub record Roomy (xs js ls us ts : List ℕ) : Type 0 where
  pub array : length xs ≡ array_room
  pub junk : length js ≡ junk_room
  pub log : length ls ≡ log_room
  pub out : length us ≡ out_room
  pub text : 128 ≤ length ts

-- the desk is d, and the text l was printed
pub record Obeyed (d : Desk) (l : List ℕ) (s : Session) (text : List ℕ) (r : Session) (block array log out text' : List ℕ) : Type 0 where
  pub desk : desk_of r block array log out ≡ d
  pub shows : Printed l s.output text r.output text'

-- the same of what the room holds after
abbrev pub Obeys : Desk → List ℕ → Session → (text : List ℕ) → Session → Room → (text' : List ℕ) → Type 0
Obeys d l s text r y text' = Obeyed d l s text r y.block y.array y.log y.out text'

-- ---- on the way there

-- a session after a step that lent so many bytes
abbrev pub after_step : Session → (size log out given : ℕ) → Output → Session
after_step s size log out given output = record { size = size; log = log; out = out; given = given; lines = s.lines; output = output }

-- the same session, with this output
abbrev pub with_output : Session → Output → Session
with_output s output = after_step s s.size s.log s.out s.given output

-- a step on what was lent, whole, has left z, and the text l was printed
pub record Ran (z : Seen) (l : List ℕ) (s : Session) (text : List ℕ) (r : Session) (held xs ls us text' : List ℕ) : Type 0 where
  pub block : held ≡ z.block
  pub array : xs ≡ z.array
  pub log : ls ≡ z.log
  pub out : us ≡ z.out
  pub kept : r ≡ after_step s (length xs) (length ls) (length us) z.given r.output
  pub shows : Printed l s.output text r.output text'
