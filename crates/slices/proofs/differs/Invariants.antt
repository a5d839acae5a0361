-- `slices::differs` meets its contract: the two are the same if no bytes were found that differ and what the iterator has left of them is the same.
-- Assumes nothing.
use mathlib.Core.Path.{◌≡◌}
use mathlib.Core.Bool.{not, ◌&&◌}
use lib.ListN.{length}
use Rattle.slices.specs.Lists.{same}
use Rattle.slices.proofs.differs.Given as goal

abbrev pub invariant-loop-x : goal.invariant-loop-x
invariant-loop-x l =
    (length l.x-iterator.a.rest.now ≡ length l.x-iterator.b.rest.now)
    × (same l.a l.b ≡ (not l.found && same l.x-iterator.a.rest.now l.x-iterator.b.rest.now))
