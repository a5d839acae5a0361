-- `obeying::renew` meets its contract: there is room for the part, and a fresh part depends on the array's length alone. Assumes nothing.
use native.Mathlib.Omega.{arith}
use lib.Seq.{length-take-le, take_at}
use mathlib.Core.Path.{ap, ◌∙◌}
use Rattle.state.specs.Outcomes.{Left}
use Rattle.blocks.specs.Promises.{stored_in}
use Rattle.obeying.proofs.Laws.{whole_room, fresh_part_lem, fresh_stored}
use Rattle.obeying.proofs.renew.Goals as goal

pub slice_bounds-slipknoll_fresh-end : goal.slice_bounds-slipknoll_fresh-end
slice_bounds-slipknoll_fresh-end c = omega (arith, whole_room c.args.n c.requires.1, c.requires.0)

pub returns : goal.returns
returns c =
    let n = c.args.n in
    let l = length-take-le n c.args.array.now (omega (arith, whole_room n c.requires.1, c.requires.0)) in
    let e = fresh_part_lem n _ l c.requires.1 in
    let f = c.slipknoll_fresh.ensures in
    (f.block ∙ ap (stored_in c.args.block.now) e ∙ fresh_stored n c.args.block.now c.requires.1, take_at _ _ n (c.slipknoll_fresh.auto.array ∙ l) ∙ f.array ∙ ap (λ (z : Left). z.state.memory.array) e)
