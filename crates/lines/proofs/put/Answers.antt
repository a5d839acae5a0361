-- `lines::put` meets its contract: a piece laid over the bytes leaves their number as it is. Assumes nothing.
use Rattle.std.proofs.Common.{length, ap, ◌∙◌}
use Rattle.slices.proofs.Laws.{length-splice}
use Rattle.lines.proofs.put.Goals as goal

pub returns : goal.returns
returns c =
    let p = c.put.ensures in
    record { end = p.end; long = ap length p.laid ∙ length-splice c.args.at c.args.piece.now c.args.out.now; text = p.laid }
