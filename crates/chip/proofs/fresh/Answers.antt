-- `chip::fresh` meets its contract: the array is filled where its length is a part's, and left as it is where not.
-- Assumes nothing.
use mathlib.Core.Path.{refl, sym, ◌∙◌}
use Rattle.state.specs.Outcomes.{fresh_state, fresh_registers}
use Rattle.state.proofs.Accepted.{leaves_as, fresh_done, fresh_part_lem}
use Rattle.chip.proofs.fresh.Goals as goal

pub returns-in-Some : goal.returns-in-Some
unfolding fresh_state fresh_registers
returns-in-Some c =
    let a = c.args in
    let e = sym c.part_of.ensures ∙ c.in-Some.is in
    leaves_as (fresh_done a.factory a.array.now _ e) (record { answer = refl; chip = refl; array = c.fill.ensures; reply = refl })

pub returns-in-None : goal.returns-in-None
unfolding fresh_state fresh_registers
returns-in-None c =
    let a = c.args in
    let e = sym c.part_of.ensures ∙ c.in-None.is in
    leaves_as (fresh_part_lem a.factory a.array.now e) (record { answer = refl; chip = refl; array = refl; reply = refl })
