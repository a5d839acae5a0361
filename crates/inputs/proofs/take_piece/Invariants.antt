-- `inputs::take_piece` meets its contract: after so many turns as many bytes are read; the text keeps its length. Assumes nothing.
use lib.ListN.{length, take}
use mathlib.Core.Path.{◌≡◌}
use Rattle.inputs.specs.Places.{Reads, place_in}
use Rattle.inputs.proofs.take_piece.Given as goal

abbrev pub invariant-loop-byte : goal.invariant-loop-byte
invariant-loop-byte l = (length l.text ≡ length l.initial.text) × Reads (take l.byte-index l.piece) (place_in l.initial.r l.initial.room l.initial.text l.initial.line) (place_in l.r l.room l.text l.line)
