-- `outline::read_all` meets its contract: each piece is read behind those before it; the text keeps its length. Assumes nothing.
use lib.ListN.{length}
use mathlib.Core.Path.{◌≡◌}
use Rattle.inputs.specs.Places.{place_in}
use Rattle.outline.specs.Run.{Went}
use Rattle.outline.proofs.read_all.Given as goal

abbrev pub invariant-loop : goal.invariant-loop
invariant-loop l = (length l.text ≡ length l.initial.text) × Went l.initial.i.read (place_in l.initial.i.reader l.initial.room l.initial.text l.initial.line) l.i.read (place_in l.i.reader l.room l.text l.line)
