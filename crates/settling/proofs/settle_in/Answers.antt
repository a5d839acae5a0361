-- `settling::settle_in` meets its contract: marks, operation and compare bit are stored anew, and the rest lies where it lay (`marked`).
-- Assumes nothing.
use mathlib.Core.Path.{ap, ◌∙◌}
use Rattle.control.specs.Rulings.{changed}
use Rattle.block_parts.specs.declared.Flags.{Flags}
use Rattle.blocks.specs.Block.{decode_registers, decode_chip, encode_chip}
use Rattle.blocks.proofs.Settled.{settled_chip}
use Rattle.settling.proofs.Marked.{marked}
use Rattle.settling.proofs.settle_in.Goals as goal

pub returns-in-Nothing : goal.returns-in-Nothing
unfolding changed decode_chip decode_registers
returns-in-Nothing c =
    let b = c.args.block.now in
    let f = c.flags_in-flags in
    rw c.in-Nothing.is
    (marked b f.result c.args.o c.told-block c.from.ensures c.put_operation.ensures
    ∙ (λ i. let m = f.ensures i in encode_chip (settled_chip b m.used m.protect m.wp m.deep (c.requires i))))

pub returns-in-Start : goal.returns-in-Start
unfolding changed decode_chip decode_registers
returns-in-Start c =
    let b = c.args.block.now in
    let f = c.flags_in-flags in
    let o = c.in-Start.operation in
    rw c.in-Start.is
    (marked b f.result o c.told-block c.from.ensures c.put_operation-in-Start.ensures
    ∙ ap (λ (m : Flags). encode_chip (settled_chip b m.used m.protect m.wp m.deep o)) f.ensures)

pub returns-in-Protect : goal.returns-in-Protect
unfolding changed decode_chip decode_registers
returns-in-Protect c =
    let b = c.args.block.now in
    let f = c.flags_in-flags in
    let on = c.in-Protect.on in
    rw c.in-Protect.is
    (marked b (record { used = f.result.used; protect = on; wp = f.result.wp; deep = f.result.deep }) c.args.o c.told-block c.from.ensures c.put_operation-in-Protect.ensures
    ∙ (λ i. let m = f.ensures i in encode_chip (settled_chip b m.used on m.wp m.deep (c.requires i))))

pub returns-in-Sleep : goal.returns-in-Sleep
unfolding changed decode_chip decode_registers
returns-in-Sleep c =
    let b = c.args.block.now in
    let f = c.flags_in-flags in
    let on = c.in-Sleep.on in
    rw c.in-Sleep.is
    (marked b (record { used = f.result.used; protect = f.result.protect; wp = f.result.wp; deep = on }) c.args.o c.told-block c.from.ensures c.put_operation-in-Sleep.ensures
    ∙ (λ i. let m = f.ensures i in encode_chip (settled_chip b m.used m.protect m.wp on (c.requires i))))
