-- `slices::ring_write` meets its contract: a turn stores a run of bytes that go together in the ring. Assumes nothing.
use Rattle.slices.proofs.Laws.{run_length}
use Rattle.slices.proofs.Runs.{writing_none, writing_more, writing_all}
use mathlib.Core.Path.{sym, ◌∙◌}
use native.Mathlib.Omega.{arith}
use Rattle.slices.proofs.ring_write.Goals as goal

pub loop-done-init : goal.loop-done-init
loop-done-init c = writing_none c.args.size c.args.start c.args.bytes.now c.args.ring.now c.requires.0

pub copy-requires : goal.copy-requires
copy-requires c =
    let n = c.min-n.result in
    run_length c.loop-done.at n c.loop-done.ring (omega arith)
    ∙ sym (run_length c.loop-done.done n c.args.bytes.now (omega arith))

pub loop-done-smaller : goal.loop-done-smaller
loop-done-smaller c = omega (arith, c.min-n.ensures, c.loop-done-test.true, c.loop-done.invariant)

pub loop-done-preserved : goal.loop-done-preserved
loop-done-preserved c =
    writing_more (omega (arith, c.loop-done.invariant, c.requires)) c.loop-done-test.true
    c.min-n.ensures
    c.copy.ensures
    c.loop-done.invariant

pub returns : goal.returns
returns c = writing_all c.loop-done-test.false c.loop-done.invariant
