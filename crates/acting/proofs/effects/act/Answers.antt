-- `acting::effects::act` meets its contract: each arm makes the one call that its command names, and what the call promises is what is seen of it. Assumes nothing.
use Rattle.acting.proofs.Steps.{call_took, raw_took, send_took, end_took, pin_took, cut_took, by_command}
use Rattle.acting.specs.Steps.{Spares}
use Rattle.words.specs.declared.Command.{Command}
use Rattle.words.specs.declared.Command.TheVariants.{Put, Patch, Get, Wipe, Raw, Send, End, Pin, Cut}
use mathlib.Core.Path.{refl, subst}
use Rattle.acting.proofs.effects.act.Goals as goal

pub returns-in-Put : goal.returns-in-Put
returns-in-Put c =
    let a = c.args in
    by_command a.o a.bytes.now a.script.now a.junk.now a.log.now a.out.now a.block.now a.array.now Put c.in-Put.is c.requires.0 (λ s. call_took s c.store.ensures)

pub returns-in-Patch : goal.returns-in-Patch
returns-in-Patch c =
    let a = c.args in
    by_command a.o a.bytes.now a.script.now a.junk.now a.log.now a.out.now a.block.now a.array.now Patch c.in-Patch.is c.requires.0 (λ s. call_took s c.slipknoll_patch.ensures)

pub returns-in-Get : goal.returns-in-Get
returns-in-Get c =
    let a = c.args in
    by_command a.o a.bytes.now a.script.now a.junk.now a.log.now a.out.now a.block.now a.array.now Get c.in-Get.is c.requires.0 (λ s. call_took refl c.slipknoll_get.ensures)

pub returns-in-Wipe : goal.returns-in-Wipe
returns-in-Wipe c =
    let a = c.args in
    by_command a.o a.bytes.now a.script.now a.junk.now a.log.now a.out.now a.block.now a.array.now Wipe c.in-Wipe.is c.requires.0 (λ s. call_took s c.slipknoll_wipe.ensures)

pub returns-in-Raw : goal.returns-in-Raw
returns-in-Raw c =
    let a = c.args in
    by_command a.o a.bytes.now a.script.now a.junk.now a.log.now a.out.now a.block.now a.array.now Raw c.in-Raw.is c.requires.0 (λ s. raw_took c.slipknoll_raw.ensures)

pub returns-in-Send : goal.returns-in-Send
returns-in-Send c =
    let a = c.args in
    by_command a.o a.bytes.now a.script.now a.junk.now a.log.now a.out.now a.block.now a.array.now Send c.in-Send.is c.requires.0 (λ s. send_took a.block.now a.array.now c.requires.1 s a.bytes.now a.out.now c.slipknoll_send.ensures)

pub returns-in-End : goal.returns-in-End
returns-in-End c =
    let a = c.args in
    by_command a.o a.bytes.now a.script.now a.junk.now a.log.now a.out.now a.block.now a.array.now End c.in-End.is c.requires.0 (λ s. end_took a.block.now a.array.now c.requires.1 s.0 s.1 c.slipknoll_end_busy.ensures)

pub returns-in-Pin : goal.returns-in-Pin
returns-in-Pin c =
    let a = c.args in
    by_command a.o a.bytes.now a.script.now a.junk.now a.log.now a.out.now a.block.now a.array.now Pin c.in-Pin.is c.requires.0 (λ s. pin_took a.block.now a.array.now c.requires.1 s.0 s.1 c.slipknoll_move_pin.ensures)

pub returns-in-Cut : goal.returns-in-Cut
returns-in-Cut c =
    let a = c.args in
    by_command a.o a.bytes.now a.script.now a.junk.now a.log.now a.out.now a.block.now a.array.now Cut c.in-Cut.is c.requires.0 (λ s. cut_took a.block.now a.array.now c.requires.1 s.0 a.junk.now s.1 c.slipknoll_cut.ensures)

pub returns-in-Part : goal.returns-in-Part
returns-in-Part c = absurd (subst (λ (k : Command). Spares k c.args.log.now c.args.out.now) c.in-Part.is c.requires.0)

pub returns-in-Sum : goal.returns-in-Sum
returns-in-Sum c = absurd (subst (λ (k : Command). Spares k c.args.log.now c.args.out.now) c.in-Sum.is c.requires.0)
