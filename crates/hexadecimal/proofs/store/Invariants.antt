-- `hexadecimal::store` meets its contract: the first i bytes are stored, and those from i on are still to be laid over `out`. Assumes nothing.
use mathlib.Core.Path.{◌≡◌}
use lib.ListN.{length, take, drop}
use Rattle.slices.specs.Lists.{over, splice}
use Rattle.text.specs.Hexadecimal.{pairs}
use Rattle.hexadecimal.proofs.store.Given as goal

abbrev pub invariant-loop-i : goal.invariant-loop-i
invariant-loop-i l = record { fills : length l.out ≡ length l.initial.out; to_come : splice l.i (drop l.i (take l.n (pairs l.word))) l.out ≡ over (take l.n (pairs l.word)) l.initial.out }
