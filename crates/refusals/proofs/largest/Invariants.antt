-- `refusals::largest` meets its contract: the largest byte so far and that of the bytes to come are the script's.
-- Assumes nothing.
use mathlib.Core.Path.{◌≡◌}
use Prim.Native.Nat.{max}
use lib.ListN.{drop}
use Rattle.refusals.specs.Largest.{largest_in}
use Rattle.refusals.proofs.largest.Given as goal

abbrev pub invariant-loop-byte : goal.invariant-loop-byte
invariant-loop-byte l = max l.most (largest_in (drop l.byte-index l.script)) ≡ largest_in l.script
