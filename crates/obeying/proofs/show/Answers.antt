-- `obeying::show` meets its contract: a call and an event are told apart as in the definition. Assumes nothing.
use mathlib.Core.Bool.{Bool}
use mathlib.Core.Path.{sym, ap, ◌∙◌}
use Rattle.obeying.specs.Orders.{shown_by}
use Rattle.printing.proofs.Laws.{printed_as}
use Rattle.obeying.proofs.show.Goals as goal

pub returns-then-is_call : goal.returns-then-is_call
unfolding shown_by
returns-then-is_call c = printed_as c.print_call.ensures (ap (λ (b : Bool). shown_by b c.args.log.now c.args.t.frames c.args.t.polls c.args.t.answer) (sym c.if-is_call.true ∙ c.is_call.ensures))

pub returns : goal.returns
unfolding shown_by
returns c = printed_as c.print_answer.ensures (ap (λ (b : Bool). shown_by b c.args.log.now c.args.t.frames c.args.t.polls c.args.t.answer) (sym c.if-is_call.false ∙ c.is_call.ensures))
