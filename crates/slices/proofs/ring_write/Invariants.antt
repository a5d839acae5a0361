-- `slices::ring_write` meets its contract: a turn stores a run of bytes that go together in the ring. Assumes nothing.
use Rattle.slices.proofs.Runs.{Writing}
use Prim.Native.Nat.{◌-◌}
use lib.ListN.{length}
use Rattle.slices.proofs.ring_write.Given as goal

abbrev pub invariant-loop-done : goal.invariant-loop-done
invariant-loop-done l = Writing l.size l.start l.bytes l.initial.ring l.done l.at l.ring

abbrev pub decreases-loop-done : goal.decreases-loop-done
decreases-loop-done l = length l.bytes - l.done
