-- Which row of the command table a frame is.
-- Assumes nothing.
use Rattle.std.specs.Prelude.{ℕ, suc, Bool, cond, List, [], ◌∷◌, length, get_or, take, eqb, leb, None, Option, Some}
use Rattle.slices.specs.Lists.{same}
use Rattle.commands.specs.declared.Command.{Command}
use Rattle.commands.specs.declared.Decoded.{Decoded}
use Rattle.commands.specs.declared.Effect.TheVariants.{Unlisted}
use Rattle.commands.specs.Table.{Sequence, commands, sequences}

-- (3.4) no row
abbrev pub unlisted : Decoded
unlisted = record { lead = 0; effect = Unlisted }

-- (3.2) the row with this opcode, if any
unfoldable pub lookup_in : List Command → ℕ → Option Command
lookup_in [] opcode = None
lookup_in (c ∷ cs) opcode = cond (eqb c.0 opcode) (Some c) (lookup_in cs opcode)

-- (3.2) in the command table
unfoldable pub lookup_of : ℕ → Option Command
lookup_of opcode = lookup_in commands opcode

-- (3.3) the frame's first four bytes are these
unfoldable pub begins : List ℕ → List ℕ → Bool
begins f opening = same (take 4 f) opening

-- (3.3) the row whose four bytes begin the frame, if any
unfoldable pub sequence_in : List Sequence → List ℕ → Decoded
sequence_in [] f = unlisted
sequence_in (s ∷ ss) f = cond (begins f s.opening) (record { lead = s.lead; effect = s.effect }) (sequence_in ss f)

-- (3.3) a row of one byte if there is one, else of four
unfoldable pub opened : Option Command → List ℕ → Decoded
opened (Some c) f = record { lead = c.1; effect = c.2 }
opened None f = sequence_in sequences f

-- (3.5) a frame of n bytes has its row if the lead is no longer
unfoldable pub complete : ℕ → Decoded → Decoded
complete n d = cond (leb d.lead n) d unlisted

-- (3.6) a frame's row: its lead and effect
unfoldable pub decode_of : List ℕ → Decoded
decode_of f = cond (eqb (length f) 0) unlisted (complete (length f) (opened (lookup_of (get_or f 0 0)) f))

-- ---- Aid: the place of the row that the code looks up

-- how many rows stand before the one with this opcode; all of them where none has it
unfoldable pub place_in : List Command → ℕ → ℕ
place_in [] opcode = 0
place_in (c ∷ cs) opcode = cond (eqb c.0 opcode) 0 (suc (place_in cs opcode))

unfoldable pub place_of : ℕ → ℕ
place_of opcode = place_in commands opcode
