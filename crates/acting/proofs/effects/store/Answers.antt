-- `acting::effects::store` meets its contract: each arm is the put of its term. Assumes nothing.
use Rattle.acting.proofs.Steps.{put_alike}
use Rattle.acting.proofs.effects.store.Goals as goal

pub returns-in-Unlimited : goal.returns-in-Unlimited
returns-in-Unlimited c =
    let a = c.args in
    put_alike a.slot a.limit a.term a.script.now a.recipe.now a.junk.now a.log.now a.block.now a.array.now
    c.in-Unlimited.is c.slipknoll_put.ensures

pub returns-in-Between : goal.returns-in-Between
returns-in-Between c =
    let a = c.args in
    put_alike a.slot a.limit a.term a.script.now a.recipe.now a.junk.now a.log.now a.block.now a.array.now
    c.in-Between.is c.slipknoll_put_term.ensures
