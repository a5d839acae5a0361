-- `slices::put` meets its contract: the part of `out` from `at` on becomes the piece.
-- Assumes nothing.
use Rattle.std.proofs.Common.{length, ◌+◌, ◌-◌, arith}
use Rattle.slices.proofs.Laws.{spliced}
use Rattle.slices.proofs.put.Goals as goal

pub returns-clause-laid : goal.returns-clause-laid
returns-clause-laid c =
    let a = c.args in
    spliced a.at a.out.now {k = a.at + length a.piece.now - a.at} (omega arith) (omega arith) c.copy.ensures
