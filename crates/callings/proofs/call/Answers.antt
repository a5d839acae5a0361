-- `callings::call` meets its contract. Assumes nothing.
use Rattle.slots.specs.Lists.{asking}
use Rattle.runs.proofs.Calls.{refused_unknown}
use Rattle.runs.proofs.Held.{part_held}
use Rattle.callings.proofs.call.Goals as goal

pub call_in-requires : goal.call_in-requires
call_in-requires c = part_held c.args.block.now c.args.array.now c.operation.ensures.0 c.place.ensures c.in-Some.is

pub returns-in-None : goal.returns-in-None
returns-in-None c =
    let a = c.args in
    refused_unknown (asking a.r.kind a.r.slot a.r.limit) a.r.detail a.payload.now a.buffer.now a.script.now a.junk.now a.log.now a.block.now a.array.now
    (part_held a.block.now a.array.now c.operation.ensures.0 c.place.ensures c.in-None.is) _ c.refuse.ensures
