-- `power_loss::cut_in` meets its contract: junk of another length is refused; else array, buffers and registers go by the definitions.
-- Assumes nothing.
use mathlib.Core.Path.{refl, ◌∙◌}
use mathlib.Core.List.{[]}
use native.Mathlib.Omega.{arith}
use Rattle.geometry.proofs.Pages.{sized_own}
use Rattle.state.specs.PowerLoss.{lost_memory}
use Rattle.state.specs.Memory.{state_of, with_registers}
use Rattle.state.specs.Outcomes.{cut_state}
use Rattle.state.specs.declared.Answer.TheVariants as Answers
use Rattle.state.proofs.Arms.{sized_room}
use Rattle.state.proofs.Accepted.{leaves_as, leaves-refused, known_script, known_cut}
use Rattle.power_loss.proofs.cut_in.Goals as goal

pub returns-then-junk-g : goal.returns-then-junk-g
returns-then-junk-g c =
    let a = c.args in
    leaves-refused Answers.Script a.c a.array.now [] (known_script a.junk.now (state_of a.c a.array.now) a.g c.if-junk-g.true)

pub lose-after-requires : goal.lose-after-requires
lose-after-requires c = (sized_own c.args.g _ c.requires.0, c.requires.1, omega (arith, sized_room c.args.g _ c.requires.0, c.if-junk-g.false))

pub returns : goal.returns
unfolding cut_state lost_memory
returns c =
    let a = c.args in
    leaves_as (known_cut a.junk.now (state_of a.c a.array.now) a.g c.if-junk-g.false)
    (record {
      answer = refl;
      chip = c.with_registers.ensures ∙ (λ i. with_registers (c.spoil_buffers-n.ensures i) (c.lose-after.ensures i));
      array = c.spoil_array.ensures;
      reply = refl;
    })
