-- `control::apply` meets its contract: each arm is a clause of `changed`.
-- Assumes nothing.
use Rattle.control.specs.Rulings.{changed}
use Rattle.control.proofs.apply.Goals as goal

pub returns-in-Nothing : goal.returns-in-Nothing
unfolding changed
returns-in-Nothing c = rw c.in-Nothing.is

pub returns-in-Start : goal.returns-in-Start
unfolding changed
returns-in-Start c = rw c.in-Start.is c.with_operation.ensures

pub returns-in-Protect : goal.returns-in-Protect
unfolding changed
returns-in-Protect c = rw c.in-Protect.is c.with_protect.ensures

pub returns-in-Sleep : goal.returns-in-Sleep
unfolding changed
returns-in-Sleep c = rw c.in-Sleep.is c.with_deep.ensures
