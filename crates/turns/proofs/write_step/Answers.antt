-- `turns::write_step` meets its contract: each arm writes the frame of its step.
-- Assumes nothing.
use mathlib.Core.Path.{refl, sym}
use Rattle.slices.proofs.Laws.{over_nil}
use Rattle.slots.specs.Driver.{shape_of}
use Rattle.steps.specs.Places.{page_by}
use Rattle.worlds.specs.Turns.{holding_of}
use Rattle.turns.proofs.Frames.{wait_form, protection_form, lockdown_form, read_form, send_form, end_form, address-fits, by_step, named-few}
use native.Mathlib.Omega.{arith}
use Rattle.turns.proofs.write_step.Goals as goal

pub overflow_add-g : goal.overflow_add-g
overflow_add-g c = omega (arith, c.requires.0.full)

pub write_long-requires : goal.write_long-requires
write_long-requires c = (omega arith, omega (arith, c.requires.0.full, c.requires.3))

pub overflow_add-g-in-Lockdown : goal.overflow_add-g-in-Lockdown
overflow_add-g-in-Lockdown c = omega (arith, c.requires.0.full)

pub write_long-requires-in-Lockdown : goal.write_long-requires-in-Lockdown
write_long-requires-in-Lockdown c = (omega arith, omega (arith, c.requires.0.full, c.requires.3))

pub overflow_mul-g : goal.overflow_mul-g
unfolding page_by
overflow_mul-g c = address-fits _ _ c.requires.0.named (named-few c.args.x c.requires.1 c.in-Read.is)

pub overflow_mul-g-in-Send : goal.overflow_mul-g-in-Send
unfolding page_by
overflow_mul-g-in-Send c = address-fits _ _ c.requires.0.named (named-few c.args.x c.requires.1 c.in-Send.is)

pub returns-in-Wait : goal.returns-in-Wait
unfolding shape_of
returns-in-Wait c =
    let a = c.args in
    let e = c.in-Wait.is in
    by_step a.g a.d a.payload.now a.staged.now a.frame.now e c.write_poll.ensures.0 c.write_poll.ensures.1 (wait_form a.g a.d.kind (holding_of a.d a.payload.now a.staged.now) c.in-Wait.checked)

pub returns-in-Protection : goal.returns-in-Protection
unfolding shape_of
returns-in-Protection c =
    let a = c.args in
    let e = c.in-Protection.is in
    by_step a.g a.d a.payload.now a.staged.now a.frame.now e c.write_long.ensures.0 c.write_long.ensures.1 (protection_form a.g a.d.kind (holding_of a.d a.payload.now a.staged.now))

pub returns-in-Lockdown : goal.returns-in-Lockdown
unfolding shape_of
returns-in-Lockdown c =
    let a = c.args in
    let e = c.in-Lockdown.is in
    by_step a.g a.d a.payload.now a.staged.now a.frame.now e c.write_long-in-Lockdown.ensures.0 c.write_long-in-Lockdown.ensures.1 (lockdown_form a.g a.d.kind (holding_of a.d a.payload.now a.staged.now))

pub returns-in-Read : goal.returns-in-Read
unfolding shape_of
returns-in-Read c =
    let a = c.args in
    let e = c.in-Read.is in
    by_step a.g a.d a.payload.now a.staged.now a.frame.now e c.write_long-in-Read.ensures.0 c.write_long-in-Read.ensures.1 (read_form a.g a.d.kind (holding_of a.d a.payload.now a.staged.now) _)

pub returns-in-Load : goal.returns-in-Load
unfolding shape_of
returns-in-Load c =
    let a = c.args in
    let e = c.in-Load.is in
    by_step a.g a.d a.payload.now a.staged.now a.frame.now e c.write_load.ensures.0 c.write_load.ensures.1 refl

pub returns-in-Send : goal.returns-in-Send
unfolding shape_of
returns-in-Send c =
    let a = c.args in
    let e = c.in-Send.is in
    by_step a.g a.d a.payload.now a.staged.now a.frame.now e c.write_send.ensures.0 c.write_send.ensures.1 (send_form a.g a.d.kind (holding_of a.d a.payload.now a.staged.now) _ _)

pub returns-in-End : goal.returns-in-End
unfolding shape_of
returns-in-End c =
    let a = c.args in
    by_step a.g a.d a.payload.now a.staged.now a.frame.now c.in-End.is refl (sym (over_nil a.frame.now)) (end_form a.g a.d.kind (holding_of a.d a.payload.now a.staged.now))
