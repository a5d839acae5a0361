-- `inputs::feed` meets its contract: LF ends the line, any other byte is kept. Assumes nothing.
use mathlib.Core.Path.{refl}
use borrow.Author.Tests.{eq-eqb, ne_eqb}
use Rattle.inputs.proofs.Laws.{fed-end, fed-kept}
use Rattle.inputs.proofs.feed.Goals as goal

pub returns-then-byte-eq10 : goal.returns-then-byte-eq10
returns-then-byte-eq10 c = fed-end c.args.byte (eq-eqb c.args.byte 10 c.if-byte-eq10.true) c.end_line.ensures

pub returns : goal.returns
returns c = fed-kept c.args.r c.args.byte (ne_eqb c.args.byte 10 c.if-byte-eq10.false) c.keep.ensures refl
