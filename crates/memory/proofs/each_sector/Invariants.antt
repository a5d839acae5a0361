-- `memory::each_sector` meets its contract: before sector s the sectors below it are done, and what is left of the set is that set divided by 2 s times.
-- Assumes nothing.
use mathlib.Core.Path.{◌≡◌}
use mathlib.Core.List.{List}
use Prim.Native.Nat.{ℕ}
use lib.ListN.{length}
use Rattle.geometry.specs.declared.Run.{Run}
use Rattle.memory.proofs.Lent.{Passed}
use Rattle.memory.proofs.each_sector.Given as goal

abbrev pub invariant-loop-s : goal.invariant-loop-s
invariant-loop-s g l =
    (length l.array ≡ length l.initial.array)
    × ((f : Run → List ℕ → List ℕ) → ((part : _) (r : Run) (left : _) → goal.F-post g l.act part r tt left → left.now ≡ f r part.now)
    → Passed f l.g l.sectors l.initial.array l.s l.left l.array)
