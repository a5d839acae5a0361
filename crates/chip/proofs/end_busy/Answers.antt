-- `chip::end_busy` meets its contract: the part is looked up, and a known one's chip does the rest.
-- Assumes nothing.
use mathlib.Core.Path.{sym, ◌∙◌}
use mathlib.Core.List.{[]}
use Rattle.registers.proofs.Places.{placed_known, placed_sized}
use Rattle.state.specs.declared.Answer.TheVariants as Answers
use Rattle.state.specs.Memory.{state_of}
use Rattle.state.proofs.Accepted.{leaves_as, leaves-refused, end_known, end-part}
use Rattle.chip.proofs.end_busy.Goals as goal

pub end_in-requires : goal.end_in-requires
end_in-requires c = let e = sym c.place.ensures ∙ c.in-Some.is in (placed_sized _ _ _ e, (placed_known _ _ _ e).1)

pub returns-in-Some : goal.returns-in-Some
returns-in-Some c =
    let a = c.args in
    let e = sym c.place.ensures ∙ c.in-Some.is in
    leaves_as (end_known (state_of a.c a.array.now) _ e) c.end_in.ensures

pub returns-in-None : goal.returns-in-None
returns-in-None c =
    let a = c.args in
    let e = sym c.place.ensures ∙ c.in-None.is in
    leaves-refused Answers.Part a.c a.array.now [] (end-part (state_of a.c a.array.now) e)
