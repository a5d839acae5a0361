-- What the program prints for an input, byte by byte (docs/OUTLINE.md). How the system parts the input into pieces does not enter.
-- Assumes nothing.
use Rattle.std.specs.Prelude.{ℕ, Bool, true, false, cond, List, [], ◌∷◌, ◌++◌, length, eqb}
use Rattle.obeying.specs.Desk.{Desk, begun}
use Rattle.obeying.specs.Orders.{after_line, line_text}

-- what is held after a part of the input: the desk, the characters of the line that has not ended, and what has been printed
pub record Progress : Type 0 where
  pub desk : Desk
  pub pending : List ℕ
  pub told : List ℕ

-- before the first byte
unfoldable pub started : Progress
started = record { desk = begun; pending = []; told = [] }

-- the line has ended: what it says is done
unfoldable pub ended : Progress → Progress
ended p = record { desk = after_line p.pending p.desk; pending = []; told = p.told ++ line_text p.pending p.desk }

-- the line goes on
unfoldable pub grown : ℕ → Progress → Progress
grown x p = record { desk = p.desk; pending = p.pending ++ (x ∷ []); told = p.told }

-- a byte of the input: LF ends a line
unfoldable pub fed : ℕ → Progress → Progress
fed x p = cond (eqb x 10) (ended p) (grown x p)

-- all of them in order
unfoldable pub fed_all : List ℕ → Progress → Progress
fed_all [] p = p
fed_all (x ∷ xs) p = fed_all xs (fed x p)

-- the end of the input ends a line too, if it has characters
unfoldable pub finished : Progress → Progress
finished p = cond (eqb (length p.pending) 0) p (ended p)

-- an input that cannot be read to its end ends no line
unfoldable pub closed : Bool → Progress → Progress
closed true p = p
closed false p = finished p

-- what is printed for a whole input
unfoldable pub output_of : List ℕ → List ℕ
output_of input = (finished (fed_all input started)).told

-- what is due for the bytes that were read: of a whole input (false) or of one that cannot be read on
unfoldable pub due_for : Bool → List ℕ → List ℕ
due_for unread input = (closed unread (fed_all input started)).told
