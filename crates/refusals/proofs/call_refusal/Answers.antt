-- `refusals::call_refusal` meets its contract: 3, 4, 5 and 14 are the driver's, and then come 6 and 7.
-- Assumes nothing.
use mathlib.Core.Path.{ap}
use Rattle.state.specs.Answers.{number_of}
use Rattle.slots.specs.Lists.{asking}
use Rattle.refusals.proofs.Calls.{numbered, early_told, late_told, limit_few}
use Rattle.refusals.proofs.call_refusal.Goals as goal

pub bound_of-least-requires : goal.bound_of-least-requires
unfolding number_of
bound_of-least-requires c =
    let a = c.args in
    limit_few a.g a.array (asking a.r.kind a.r.slot a.r.limit) a.r.detail a.n a.lent c.requires.1 c.refusal.ensures (ap number_of c.in-Done.is)

pub returns-in-Done : goal.returns-in-Done
unfolding number_of
returns-in-Done c =
    let a = c.args in
    late_told a.g a.array (asking a.r.kind a.r.slot a.r.limit) a.r.detail a.n a.lent a.log a.script.now a.junk c.requires.1
    c.refusal.ensures (ap number_of c.in-Done.is) c.bound_of-least.ensures.0 c.late_refusal.ensures

pub returns-in_default : goal.returns-in_default
returns-in_default c =
    let a = c.args in
    early_told a.g a.array (asking a.r.kind a.r.slot a.r.limit) a.r.detail a.n a.lent a.log a.script.now a.junk c.requires.1
    c.refusal.ensures (numbered c.refusal.result c.in_default.not-Done)
