-- `exchanges::put_outline` meets its contract: the six bytes are stored one by one.
-- Assumes nothing.
use native.Mathlib.Nat.{add_assoc}
use native.Mathlib.Omega.{arith}
use lib.ListN.{length-set}
use Rattle.slices.proofs.Laws.{splice_cons, splice_nil}
use Rattle.slots.specs.Calls.{outline}
use Rattle.exchanges.proofs.put_outline.Goals as goal

pub bounds-log-at-2 : goal.bounds-log-at-2
bounds-log-at-2 c = simp length-set (omega arith)

pub bounds-log-at-3 : goal.bounds-log-at-3
bounds-log-at-3 c = simp length-set (omega arith)

pub bounds-log-at-4 : goal.bounds-log-at-4
bounds-log-at-4 c = simp length-set (omega arith)

pub bounds-log-at-5 : goal.bounds-log-at-5
bounds-log-at-5 c = simp length-set (omega arith)

pub bounds-log-at-6 : goal.bounds-log-at-6
bounds-log-at-6 c = simp length-set (omega arith)

pub shape_of-log : goal.shape_of-log
shape_of-log c = simp length-set

pub returns : goal.returns
unfolding outline
returns c =
    simp (
      c.byte_or.ensures,
      c.byte_or-2.ensures,
      c.byte_or-3.ensures,
      c.byte_or-4.ensures,
      splice_cons,
      splice_nil,
      add_assoc,
    )
