-- `obeying::obey` meets its contract: the kinds of order are told apart as in the definition. Assumes nothing.
use mathlib.Core.Path.{sym, ◌∙◌}
use native.Mathlib.Omega.{arith}
use Rattle.obeying.specs.Desk.{desk_in}
use Rattle.obeying.proofs.Laws.{step-obeyed, step-shown, obeyed_as, sum_done, part-done, part-whole}
use Rattle.obeying.proofs.obey.Goals as goal

pub step-requires : goal.step-requires
step-requires c = (c.requires.0, sym c.is_step.ensures ∙ c.if-is_step.true, c.requires.1)

pub returns-then-is_step : goal.returns-then-is_step
returns-then-is_step c =
    let d = desk_in c.args.s c.args.room.now in
    let e = sym c.is_step.ensures ∙ c.if-is_step.true in
    obeyed_as c.step.ensures (step-obeyed c.args.o c.args.line.now d e) (step-shown c.args.o c.args.line.now d e)

pub returns-then-is_sum : goal.returns-then-is_sum
returns-then-is_sum c = sum_done c.args.o c.args.line.now c.args.s (sym c.is_step.ensures ∙ c.if-is_step.false) (sym c.is_sum.ensures ∙ c.if-is_sum.true) c.sum.ensures.0 c.sum.ensures.1

pub part-requires : goal.part-requires
part-requires c = (omega arith, part-whole c.args.o.command c.args.o.number (sym c.is_step.ensures ∙ c.if-is_step.false) (sym c.is_sum.ensures ∙ c.if-is_sum.false) c.requires.1.number)

pub returns : goal.returns
returns c =
    let d = desk_in c.args.s c.args.room.now in
    part-done c.args.o c.args.line.now c.args.s d (sym c.is_step.ensures ∙ c.if-is_step.false) (sym c.is_sum.ensures ∙ c.if-is_sum.false) (c.part.ensures.0 c.args.room.now.log c.args.room.now.out) c.part.ensures.1
