-- `driver::take_on` meets its contract: a state that counts as ended takes nothing in, any other goes by its step.
-- Assumes nothing.
use Rattle.state.specs.declared.Answer.{Answer}
use Rattle.geometry.specs.declared.Geometry.{Geometry}
use Rattle.std.specs.Prelude.{Option}
use mathlib.Core.Bool.{Bool, false}
use mathlib.Core.Path.{◌≡◌, sym, ap, ◌∙◌}
use Rattle.slots.specs.declared.Driver.{Driver}
use Rattle.slots.specs.Driver.{is_ended}
use Rattle.turns.proofs.Turns.{sound-slot}
use Rattle.worlds.specs.Step.{stage_by}
use Rattle.worlds.proofs.Going.{going-sound}
use Rattle.driver.proofs.States.{ended_took, going_took}
use Rattle.driver.proofs.take_on.Goals as goal

-- behind the test the state counts as going
going : (p : Option Geometry) (d : Driver) {s : Option Answer} {b : Bool} → s ≡ stage_by p d → b ≡ is_ended s → b ≡ false → is_ended (stage_by p d) ≡ false
going p d s b e = ap is_ended (sym s) ∙ sym b ∙ e

pub stage-s-requires : goal.stage-s-requires
stage-s-requires c = sym c.requires.0

pub returns-then-has_ended : goal.returns-then-has_ended
returns-then-has_ended c =
    let a = c.args in
    ended_took a.g a.d a.payload.now a.staged.now a.reply.now c.stage-s.ensures (sym c.has_ended.ensures ∙ c.if-has_ended.true) c.with_stage.ensures

pub step_at-requires : goal.step_at-requires
step_at-requires c = sound-slot (going-sound c.args.g c.args.d c.requires.0 (going _ _ c.stage-s.ensures c.has_ended.ensures c.if-has_ended.false))

pub take_step-requires : goal.take_step-requires
take_step-requires c = (going-sound c.args.g c.args.d c.requires.0 (going _ _ c.stage-s.ensures c.has_ended.ensures c.if-has_ended.false), c.step_at.ensures.0 c.args.g, c.requires.1)

pub returns : goal.returns
returns c =
    let a = c.args in
    going_took a.g a.d a.payload.now a.staged.now a.reply.now (going _ _ c.stage-s.ensures c.has_ended.ensures c.if-has_ended.false) c.take_step.ensures
