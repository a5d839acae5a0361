-- `slices::ring_read` meets its contract: a turn stores a run of bytes that lie together in the ring. Assumes nothing.
use Rattle.slices.proofs.Laws.{run_length}
use Rattle.slices.specs.Lists.{ring_read}
use Rattle.slices.proofs.Loops.{stored-all}
use Rattle.slices.proofs.Runs.{reading-none, reading_more}
use mathlib.Core.Path.{sym, ◌∙◌}
use native.Mathlib.Omega.{arith}
use Rattle.slices.proofs.ring_read.Goals as goal

pub loop-done-init : goal.loop-done-init
loop-done-init c = reading-none c.args.ring.now c.args.size c.args.start c.args.part.now c.requires.0

pub copy-requires : goal.copy-requires
copy-requires c =
    let n = c.min-n.result in
    run_length c.loop-done.done n c.loop-done.part (omega arith)
    ∙ sym (run_length c.loop-done.from n c.args.ring.now (omega arith))

pub loop-done-smaller : goal.loop-done-smaller
loop-done-smaller c = omega (arith, c.min-n.ensures, c.loop-done-test.true, c.loop-done.invariant)

pub loop-done-preserved : goal.loop-done-preserved
loop-done-preserved c =
    reading_more c.requires.1 c.loop-done-test.true
    c.min-n.ensures
    c.copy.ensures
    c.loop-done.invariant

pub returns : goal.returns
unfolding ring_read
returns c = stored-all c.loop-done-test.false c.loop-done.invariant.stored
