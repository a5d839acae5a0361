-- `register_ends::lose_operation` meets its contract: arm for arm the definition, by the operation's update; a lock names one of the 17 sectors (`lock_small`).
-- Assumes nothing.
use Rattle.control.proofs.Steps.{lock_small, update-lost}
use mathlib.Core.Path.{refl}
use mathlib.Core.Logic.{⊎_elim}
use Rattle.register_ends.proofs.lose_operation.Goals as goal

pub lose_lock-requires : goal.lose_lock-requires
lose_lock-requires c = (c.requires.0.short, c.requires.2, lock_small c.args.g _ c.in-Lock.sector c.args.o c.requires.0 c.requires.1 c.update_of.ensures c.in-Lock.is)

pub returns-in-Keep : goal.returns-in-Keep
returns-in-Keep c = update-lost c.args.g c.args.o c.args.r c.args.junk.now c.update_of.ensures c.in-Keep.is refl

pub returns-in-FillProtection : goal.returns-in-FillProtection
returns-in-FillProtection c =
    let s = c.args in
    ⊎_elim
    (λ e. update-lost s.g s.o s.r s.junk.now c.update_of.ensures e c.lose_protection.ensures)
    (λ d. update-lost s.g s.o s.r s.junk.now c.update_of.ensures d.1 c.lose_protection.ensures)
    c.in-FillProtection.is

pub returns-in-Lock : goal.returns-in-Lock
returns-in-Lock c = update-lost c.args.g c.args.o c.args.r c.args.junk.now c.update_of.ensures c.in-Lock.is c.lose_lock.ensures

pub returns-in-WriteUser : goal.returns-in-WriteUser
returns-in-WriteUser c = update-lost c.args.g c.args.o c.args.r c.args.junk.now c.update_of.ensures c.in-WriteUser.is c.lose_security.ensures
