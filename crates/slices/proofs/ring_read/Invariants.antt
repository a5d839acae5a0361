-- `slices::ring_read` meets its contract: a turn stores a run of bytes that lie together in the ring. Assumes nothing.
use Rattle.slices.proofs.Runs.{Reading}
use Prim.Native.Nat.{◌-◌}
use lib.ListN.{length}
use Rattle.slices.proofs.ring_read.Given as goal

abbrev pub invariant-loop-done : goal.invariant-loop-done
invariant-loop-done l = Reading l.ring l.size l.start l.initial.part l.done l.from l.part

abbrev pub decreases-loop-done : goal.decreases-loop-done
decreases-loop-done l = length l.initial.part - l.done
