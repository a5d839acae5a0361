-- `power_loss::spoil_array` meets its contract: the bytes of the operation's run, then those of the sectors of its set.
-- Assumes nothing.
use Rattle.geometry.proofs.Pages.{sized_own}
use Rattle.memory.specs.Pages.{junked}
use Rattle.state.specs.PowerLoss.{array_lost}
use Rattle.state.proofs.Arms.{target_has, target_sectors}
use Rattle.power_loss.proofs.spoil_array.Goals as goal

pub run_named-requires : goal.run_named-requires
run_named-requires c = (sized_own c.args.g _ c.requires.0, target_has c.args.g c.args.o c.target_of-n.ensures c.requires.1)

pub returns : goal.returns
unfolding array_lost
returns c =
    let a = c.args in
    target_sectors a.g a.o c.target_of-n.ensures (junked a.g a.junk.now) a.array.now _
    c.run_named.ensures.0 c.set_named.ensures
    c.spoil.ensures c.spoil_sectors.ensures
