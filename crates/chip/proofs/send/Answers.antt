-- `chip::send` meets its contract: the part is looked up, and a known one's chip does the rest.
-- Assumes nothing.
use mathlib.Core.Path.{sym, ◌∙◌}
use Rattle.registers.proofs.Places.{placed_sized}
use Rattle.state.specs.declared.Answer.TheVariants as Answers
use Rattle.state.specs.Memory.{state_of}
use Rattle.state.proofs.Accepted.{leaves_as, leaves-refused, sent_known, sent-part}
use Rattle.chip.proofs.send.Goals as goal

pub send_to-requires : goal.send_to-requires
send_to-requires c = placed_sized _ _ _ (sym c.place.ensures ∙ c.in-Some.is)

pub returns-in-Some : goal.returns-in-Some
returns-in-Some c =
    let a = c.args in
    let e = sym c.place.ensures ∙ c.in-Some.is in
    leaves_as (sent_known (state_of a.c a.array.now) a.frame.now a.reply.now _ e) c.send_to.ensures

pub returns-in-None : goal.returns-in-None
returns-in-None c =
    let a = c.args in
    let e = sym c.place.ensures ∙ c.in-None.is in
    leaves-refused Answers.Part a.c a.array.now a.reply.now (sent-part (state_of a.c a.array.now) a.frame.now a.reply.now e)
