-- `chip::cut` meets its contract: the part is looked up, and a known one's chip does the rest.
-- Assumes nothing.
use mathlib.Core.Path.{sym, ◌∙◌}
use mathlib.Core.List.{[]}
use Rattle.registers.proofs.Places.{placed_known, placed_sized}
use Rattle.state.specs.declared.Answer.TheVariants as Answers
use Rattle.state.specs.Memory.{state_of}
use Rattle.state.proofs.Accepted.{leaves_as, leaves-refused, cut_known, cut-part}
use Rattle.chip.proofs.cut.Goals as goal

pub cut_in-requires : goal.cut_in-requires
cut_in-requires c = let e = sym c.place.ensures ∙ c.in-Some.is in (placed_sized _ _ _ e, (placed_known _ _ _ e).1)

pub returns-in-Some : goal.returns-in-Some
returns-in-Some c =
    let a = c.args in
    let e = sym c.place.ensures ∙ c.in-Some.is in
    leaves_as (cut_known a.junk.now (state_of a.c a.array.now) _ e) c.cut_in.ensures

pub returns-in-None : goal.returns-in-None
returns-in-None c =
    let a = c.args in
    let e = sym c.place.ensures ∙ c.in-None.is in
    leaves-refused Answers.Part a.c a.array.now [] (cut-part a.junk.now (state_of a.c a.array.now) e)
