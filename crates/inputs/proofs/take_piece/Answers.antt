-- `inputs::take_piece` meets its contract: after so many turns as many bytes are read; the text keeps its length. Assumes nothing.
use lib.Seq.{take_all}
use mathlib.Core.Path.{refl, ◌∙◌}
use native.Mathlib.Omega.{arith}
use Rattle.inputs.proofs.Laws.{reads_none, reads_more, reads_as, byte_more}
use Rattle.inputs.proofs.take_piece.Goals as goal

pub loop-byte-init : goal.loop-byte-init
loop-byte-init c = (refl, reads_none)

pub loop-byte-preserved : goal.loop-byte-preserved
loop-byte-preserved c = (c.feed-r.auto.text ∙ c.loop-byte.invariant.0, reads_as (reads_more _ _ c.loop-byte.invariant.1 c.feed-r.ensures) (byte_more c.loop-byte.byte-index c.args.piece.now c.loop-byte-test.true))

pub returns : goal.returns
returns c = reads_as c.loop-byte.invariant.1 (take_all c.loop-byte.byte-index c.args.piece.now (omega (arith, c.loop-byte-test.false)))
