-- `outline::read_all` meets its contract: each piece is read behind those before it; the text keeps its length. Assumes nothing.
use mathlib.Core.Path.{refl, ◌∙◌}
use Rattle.outline.proofs.Laws.{went_none, went_more}
use Rattle.outline.proofs.read_all.Goals as goal

pub loop-init : goal.loop-init
loop-init c = (refl, went_none _ _)

pub loop-preserved : goal.loop-preserved
loop-preserved c = (c.read_piece-i.auto.text ∙ c.loop.invariant.0, went_more c.loop.invariant.1 c.read_piece-i.ensures.went)
