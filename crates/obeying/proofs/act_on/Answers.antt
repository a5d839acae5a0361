-- `obeying::act_on` meets its contract: the line is read as in the definition. Assumes nothing.
use mathlib.Core.Path.{sym, subst, ◌∙◌}
use lib.ListN.{length}
use Rattle.orders.specs.Bounds.{SoundReading}
use Rattle.obeying.specs.Desk.{desk_in}
use Rattle.obeying.proofs.Laws.{order_done, fault_done}
use Rattle.obeying.proofs.act_on.Goals as goal

pub obey-requires : goal.obey-requires
obey-requires c = (c.requires, subst (SoundReading (length c.args.line.now)) c.in-Ok.is c.read.ensures.0)

pub returns-in-Ok : goal.returns-in-Ok
returns-in-Ok c =
    let r = c.args.room.now in
    order_done c.args.line.now (desk_in c.args.s r) c.args.s c.next_line-t.result (sym c.in-Ok.is ∙ c.read.ensures.1) (c.next_line-t.ensures.0 r.block r.array r.log r.out) c.next_line-t.ensures.1 c.obey.ensures

pub returns-in-Err : goal.returns-in-Err
returns-in-Err c =
    let r = c.args.room.now in
    fault_done c.args.line.now (desk_in c.args.s r) c.args.s c.next_line-t.result (sym c.in-Err.is ∙ c.read.ensures.1) (c.next_line-t.ensures.0 r.block r.array r.log r.out) c.next_line-t.ensures.1 c.tell.ensures.0 c.tell.ensures.1
