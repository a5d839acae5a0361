-- `driver::write_on` meets its contract: a state that counts as ended has no frame, any other that of its step.
-- Assumes nothing.
use mathlib.Core.Path.{sym, ◌∙◌}
use Rattle.records.proofs.Parts.{part_pages}
use Rattle.turns.proofs.Turns.{sound-slot}
use Rattle.driver.proofs.Frames.{nothing, ended-frame, written}
use Rattle.worlds.proofs.Going.{going-sound}
use Rattle.driver.proofs.write_on.Goals as goal

pub returns-then-is_over_on : goal.returns-then-is_over_on
returns-then-is_over_on c =
    let a = c.args in
    nothing _ a.frame.now (ended-frame a.d a.payload.now a.staged.now a.g (sym c.is_over_on.ensures ∙ c.if-is_over_on.true))

pub step_at-x-requires : goal.step_at-x-requires
step_at-x-requires c = sound-slot (going-sound c.args.g c.args.d c.requires.0 (sym c.is_over_on.ensures ∙ c.if-is_over_on.false))

pub write_step-requires : goal.write_step-requires
write_step-requires c = (part_pages _ _ c.requires.0, c.step_at-x.ensures.1, c.requires.1, c.requires.2)

pub returns : goal.returns
returns c =
    let a = c.args in
    written a.d a.payload.now a.staged.now a.g a.frame.now (sym c.is_over_on.ensures ∙ c.if-is_over_on.false) (c.step_at-x.ensures.0 a.g) c.write_step.ensures
