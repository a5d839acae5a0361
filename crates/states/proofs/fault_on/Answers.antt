-- `states::fault_on` meets its contract: the refusals of the start come first, and what they let pass has a slot of the part's.
-- Assumes nothing.
use mathlib.Core.Path.{sym, ap, ◌∙◌}
use lib.Dec.{eqb}
use Rattle.state.specs.Answers.{number_of}
use Rattle.state.specs.declared.Answer.{Answer}
use Rattle.worlds.proofs.Going.{asked_slot}
use Rattle.states.proofs.fault_on.Goals as goal

pub stray_refusal-requires : goal.stray_refusal-requires
unfolding number_of
stray_refusal-requires c =
    asked_slot c.args.g c.args.d c.requires (ap (λ (x : Answer). eqb (number_of x) 0) (sym c.early_refusal.ensures ∙ c.in-Done.is))
