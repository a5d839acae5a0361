-- `outline::read_piece` meets its contract: the piece is counted, and read in a row behind what was read. Assumes nothing.
use mathlib.Core.Path.{sym}
use Rattle.inputs.proofs.Laws.{written_out}
use Rattle.outline.specs.declared.State.TheVariants as State
use Rattle.outline.proofs.Laws.{went_stopped, went_by}
use Rattle.outline.proofs.read_piece.Goals as goal

pub returns-in_default-clause-went : goal.returns-in_default-clause-went
returns-in_default-clause-went c = went_stopped c.args.i State.Unread c.args.room.now c.args.text.now c.args.line.now c.stopped.ensures

pub returns-then-n-eq0-clause-went : goal.returns-then-n-eq0-clause-went
returns-then-n-eq0-clause-went c = went_stopped c.args.i State.Ended c.args.room.now c.args.text.now c.args.line.now c.stopped-then-n-eq0.ensures

pub returns-in_default-checked_add-clause-went : goal.returns-in_default-checked_add-clause-went
returns-in_default-checked_add-clause-went c = went_stopped c.args.i State.Unread c.args.room.now c.args.text.now c.args.line.now c.stopped-in_default-checked_add.ensures

pub returns-clause-went : goal.returns-clause-went
returns-clause-went c =
    let r = c.take_piece-t.new.room in
    went_by _ (sym c.in-Some.ensures.1) c.in-Some-checked_add.ensures.1 c.take_piece-t.ensures (written_out r.block r.array r.log r.out _ c.write_out-reader.ensures.0 c.write_out-reader.ensures.1)
