-- `slices::and_into` meets its contract: after i turns the first i bytes are ANDed with those of `mask`, the others as they came. Assumes nothing.
use lib.ListN.{get_or}
use lib.Bits.{bit_and}
use Rattle.slices.proofs.Loops.{Stored}
use Rattle.slices.proofs.and_into.Given as goal

abbrev pub invariant-loop-i : goal.invariant-loop-i
invariant-loop-i l = Stored (λ k. bit_and (get_or l.initial.part k 0) (get_or l.mask k 0)) l.initial.part l.i l.part
