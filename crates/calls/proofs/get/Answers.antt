-- `calls::get` meets its contract: it is the call of its kind, with the buffer lent on. Assumes nothing.
use mathlib.Core.List.{[]}
use Rattle.slots.specs.declared.Kind.TheVariants.{Get}
use Rattle.slots.specs.Lists.{asking}
use Rattle.calls.proofs.Told.{told}
use Rattle.calls.proofs.get.Goals as goal

pub returns : goal.returns
returns c =
    let a = c.args in
    told (asking Get a.slot a.limit) a.script.now [] a.junk.now a.log.now a.buffer.now a.block.now a.array.now c.reading.ensures c.call.ensures
