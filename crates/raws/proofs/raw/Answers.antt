-- `raws::raw` meets its contract: a frame is refused, or sent. Assumes nothing.
use Rattle.refusals.proofs.Calls.{numbered}
use Rattle.runs.proofs.Raws.{raw_unknown, raw-refused}
use Rattle.runs.proofs.Held.{part_held}
use Rattle.state.specs.Answers.{number_of}
use Rattle.registers.proofs.Places.{placed_sized}
use mathlib.Core.Path.{sym, ap, ◌∙◌}
use Rattle.raws.proofs.raw.Goals as goal

pub raw_refusal-requires : goal.raw_refusal-requires
raw_refusal-requires c = placed_sized _ _ _ (sym c.place.ensures ∙ c.in-Some.is)

pub returns-in_default : goal.returns-in_default
returns-in_default c =
    let a = c.args in
    raw-refused a.frame.now a.script.now a.junk.now a.log.now a.reply.now a.block.now a.array.now _
    (part_held a.block.now a.array.now c.operation.ensures.0 c.place.ensures c.in-Some.is) _ _ c.raw_refusal.ensures
    (numbered c.raw_refusal.result c.in_default.not-Done) c.refuse.ensures

pub raw_sent-requires : goal.raw_sent-requires
unfolding number_of
raw_sent-requires c =
    let a = c.args in (
      part_held a.block.now a.array.now c.operation.ensures.0 c.place.ensures c.in-Some.is,
      ap number_of (sym c.raw_refusal.ensures ∙ c.in-Done.is),
    )

pub returns-in-None : goal.returns-in-None
returns-in-None c =
    let a = c.args in
    raw_unknown a.frame.now a.script.now a.junk.now a.log.now a.reply.now a.block.now a.array.now
    (part_held a.block.now a.array.now c.operation.ensures.0 c.place.ensures c.in-None.is) _ c.refuse-in-None.ensures
