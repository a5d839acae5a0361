-- Where the program stands: what its variables hold of the progress through the input. Aids of the promises.
-- Assumes nothing.
use Rattle.std.specs.Prelude.{ℕ, min, ◌≡◌, Bool, List, [], ◌∷◌, ◌++◌, length, take}
use Rattle.printing.specs.declared.Output.{Output}
use Rattle.printing.specs.Held.{Held}
use Rattle.obeying.specs.declared.Room.{Room}
use Rattle.obeying.specs.Desk.{desk_of}
use Rattle.obeying.specs.Promises.{with_output}
use Rattle.inputs.specs.declared.Reader.{Reader}
use Rattle.inputs.specs.Output.{Progress, fed_all, finished, ended, closed}

-- of a line so many characters are kept: one more than the longest has
abbrev pub line_room : ℕ
line_room = 8193

-- the variables
pub record Place : Type 0 where
  pub reader : Reader
  pub block : List ℕ
  pub array : List ℕ
  pub log : List ℕ
  pub out : List ℕ
  pub text : List ℕ
  pub line : List ℕ

abbrev pub place : Reader → (block array log out text line : List ℕ) → Place
place r block array log out text line = record { reader = r; block = block; array = array; log = log; out = out; text = text; line = line }

-- the same of the program's room, its text and its line
abbrev pub place_in : Reader → Room → (text line : List ℕ) → Place
place_in r x text line = place r x.block x.array x.log x.out text line

-- of the characters xs the first, as far as there is room, stand at the start of the line
pub record Kept (xs : List ℕ) (filled : ℕ) (line : List ℕ) : Type 0 where
  pub count : filled ≡ min (length xs) line_room
  pub text : take filled line ≡ take line_room xs

-- a character more is kept, if there is room
abbrev pub Keeps : (x filled : ℕ) (line : List ℕ) (filled' : ℕ) (line' : List ℕ) → Type 0
Keeps x filled line filled' line' = (xs : List ℕ) → Kept xs filled line → Kept (xs ++ (x ∷ [])) filled' line'

-- they hold p: the desk; what has been printed is written or waits; the line that has not ended
pub record At (p : Progress) (x : Place) : Type 0 where
  pub desk : desk_of x.reader.session x.block x.array x.log x.out ≡ p.desk
  pub held : Held p.told x.reader.session.output x.text
  pub kept : Kept p.pending x.reader.filled x.line

-- whatever they held at x, at y they hold it with these bytes read
abbrev pub Reads : List ℕ → Place → Place → Type 0
Reads xs x y = (p : Progress) → At p x → At (fed_all xs p) y

-- the same with the line ended
abbrev pub Ends : Place → Place → Type 0
Ends x y = (p : Progress) → At p x → At (ended p) y

-- the same with the input ended
abbrev pub Finishes : Place → Place → Type 0
Finishes x y = (p : Progress) → At p x → At (finished p) y

-- the same with the input ended, or left where it cannot be read
abbrev pub Closes : Bool → Place → Place → Type 0
Closes unread x y = (p : Progress) → At p x → At (closed unread p) y

-- the same reader, with this output
abbrev pub reader_with : Reader → Output → Reader
reader_with r o = record { session = with_output r.session o; filled = r.filled }
