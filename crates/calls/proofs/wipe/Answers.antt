-- `calls::wipe` meets its contract. Assumes nothing.
use Rattle.runs.proofs.Promised.{leaves_none}
use lib.ListN.{length}
use mathlib.Core.Path.{◌≡◌}
use mathlib.Core.List.{[]}
use borrow.Author.Rules.{rules}
use Rattle.slots.specs.declared.Kind.TheVariants.{Wipe}
use Rattle.slots.specs.Lists.{asking}
use Rattle.calls.proofs.Told.{told}
use Rattle.calls.proofs.wipe.Goals as goal

pub returns : goal.returns
returns c =
    let a = c.args in
    let b = c.call.new.buffer in
    let e : length b ≡ 0 = search rules in
    leaves_none b e (told (asking Wipe a.slot a.limit) a.script.now [] a.junk.now a.log.now [] a.block.now a.array.now c.untold.ensures c.call.ensures)
