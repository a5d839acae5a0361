-- `slices::copy` meets its contract: after i turns the first i bytes are those of `source`. Assumes nothing.
use lib.ListN.{get_or}
use Rattle.slices.proofs.Loops.{Stored}
use Rattle.slices.proofs.copy.Given as goal

abbrev pub invariant-loop-i : goal.invariant-loop-i
invariant-loop-i l = Stored (λ k. get_or l.source k 0) l.initial.part l.i l.part
