-- `rulings::control_frame` meets its contract: the row that `decode` finds, if it is obeyed (`obeyed-row`, `refused-
-- row`); the frame holds what the row reads (`decoded-room`, `decoded-data`).
-- Assumes nothing.
use mathlib.Core.Path.{sym, ◌∙◌}
use Rattle.control.specs.Rulings.{applied, changed}
use Rattle.control.proofs.Steps.{obeyed-row, refused-row, decoded_room, decoded_data}
use Rattle.rulings.proofs.control_frame.Goals as goal

pub row-requires : goal.row-requires
row-requires c =
    let f = c.args.frame.now in
    let d = c.decode-d in
    (c.requires, decoded_room f d.result d.ensures, decoded_data f d.result d.ensures)

pub returns-then-is_obeyed : goal.returns-then-is_obeyed
returns-then-is_obeyed c =
    let s = c.args in
    let d = c.decode-d in
    λ r e.
    c.row.ensures r e
    ∙ obeyed-row s.g r s.frame.now d.result d.ensures (sym (c.is_obeyed.ensures r e) ∙ c.if-is_obeyed.true)

pub returns : goal.returns
unfolding applied changed
returns c =
    let s = c.args in
    let d = c.decode-d in
    λ r e.
    rw c.ignore.ensures
    (refused-row s.g r s.frame.now d.result d.ensures (sym (c.is_obeyed.ensures r e) ∙ c.if-is_obeyed.false))
