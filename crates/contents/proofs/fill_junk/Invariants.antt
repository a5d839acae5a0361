-- `contents::fill_junk` meets its contract: after i turns the first i bytes are the junk of the seed. Assumes nothing.
use Rattle.contents.specs.Junk.{junk_byte}
use Rattle.slices.proofs.Loops.{Stored}
use Rattle.contents.proofs.fill_junk.Given as goal

abbrev pub invariant-loop-i : goal.invariant-loop-i
invariant-loop-i l = Stored (junk_byte l.seed) l.initial.part l.i l.part
