-- `options::read_words` meets its contract: what is still to be taken, from the word in hand on, is the whole that the definition takes (`turned`). Each word begins
-- behind the one before it, so what is left of the line falls.
-- Assumes nothing.
use Rattle.options.specs.Options.{take_words, words_of}
use Rattle.words.specs.Bounds.{Within}
use Rattle.std.specs.Prelude.{Ok}
use lib.ListN.{length}
use Prim.Native.Nat.{◌-◌}
use mathlib.Core.Path.{◌≡◌}
use Rattle.options.proofs.read_words.Given as goal

abbrev pub invariant-loop-w : goal.invariant-loop-w
invariant-loop-w l = Within (length l.line) l.w × (take_words (length l.line) l.line l.c (Ok l.s) l.w ≡ words_of l.line l.c l.at)

abbrev pub decreases-loop-w : goal.decreases-loop-w
decreases-loop-w l = length l.line - l.w.start
