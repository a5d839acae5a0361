-- `frame_text::put_pairs` meets its contract: the pairs of the bytes so far lie over `out`, and those of the rest are still to be laid. Assumes nothing.
use mathlib.Core.Path.{◌≡◌}
use Prim.Native.Nat.{◌+◌, ◌*◌}
use lib.ListN.{length, drop}
use Rattle.slices.specs.Lists.{splice}
use Rattle.frame_text.specs.Lines.{spaced}
use Rattle.frame_text.proofs.put_pairs.Given as goal

abbrev pub invariant-loop-b : goal.invariant-loop-b
invariant-loop-b l = record {
  place : l.next ≡ l.at + l.b-index * 3;
  fills : length l.out ≡ length l.initial.out;
  to_come : splice l.next (spaced (drop l.b-index l.bytes)) l.out ≡ splice l.at (spaced l.bytes) l.initial.out;
}
