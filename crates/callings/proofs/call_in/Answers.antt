-- `callings::call_in` meets its contract: a call is refused, or starts and runs. Assumes nothing.
use Rattle.state.specs.Answers.{number_of}
use Rattle.refusals.proofs.Calls.{numbered}
use Rattle.runs.proofs.Calls.{sized_known, refused_known, started, as_asked}
use Rattle.slots.specs.Lists.{asking}
use mathlib.Core.Path.{ap}
use Rattle.callings.proofs.call_in.Goals as goal

pub call_refusal-requires : goal.call_refusal-requires
call_refusal-requires c =
    let a = c.args in
    sized_known (asking a.r.kind a.r.slot a.r.limit) a.r.detail a.payload.now a.buffer.now a.script.now a.junk.now a.log.now a.block.now a.array.now a.g c.requires

pub returns-in_default : goal.returns-in_default
returns-in_default c =
    let a = c.args in
    refused_known (asking a.r.kind a.r.slot a.r.limit) a.r.detail a.payload.now a.buffer.now a.script.now a.junk.now a.log.now a.block.now a.array.now a.g c.requires
    _ _ c.call_refusal.ensures (numbered c.call_refusal.result c.in_default.not-Done) c.refuse.ensures

pub run-requires : goal.run-requires
unfolding number_of
run-requires c =
    let a = c.args in (
      c.requires,
      started (asking a.r.kind a.r.slot a.r.limit) a.r.detail a.payload.now a.buffer.now a.script.now a.junk.now a.log.now a.block.now a.array.now a.g c.requires
          c.call_refusal.ensures (ap number_of c.in-Done.is) c.start-d.ensures,
    )

pub returns-in-Done : goal.returns-in-Done
unfolding number_of
returns-in-Done c =
    let a = c.args in
    as_asked (asking a.r.kind a.r.slot a.r.limit) a.r.detail a.payload.now a.buffer.now a.script.now a.junk.now a.log.now a.block.now a.array.now a.g c.requires
    c.call_refusal.ensures (ap number_of c.in-Done.is) c.start-d.ensures c.run.ensures
