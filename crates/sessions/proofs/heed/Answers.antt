-- `sessions::heed` meets its contract. Assumes nothing.
use Rattle.worlds.specs.Turns.{with}
use Rattle.slots.specs.Driver.{ended}
use Rattle.slots.specs.declared.Course.{Course}
use Rattle.state.specs.declared.Answer.TheVariants as Answers
use borrow.Author.Tests.{eq-eqb, ne_eqb}
use mathlib.Core.Bool.{Bool, cond}
use mathlib.Core.Path.{sym, ap, ◌∙◌}
use Rattle.sessions.proofs.heed.Goals as goal

pub returns-then-b-eq2 : goal.returns-then-b-eq2
returns-then-b-eq2 c =
    let a = c.args in
    ap (λ (h : Course). with a.e a.e.verdict h) c.end_with.ensures
    ∙ ap (λ (b : Bool). with a.e a.e.verdict (cond b (ended Answers.Cut a.d.course) a.e.course)) (sym (eq-eqb a.b 2 c.if-b-eq2.true))

pub returns : goal.returns
returns c =
    let a = c.args in
    ap (λ (b : Bool). with a.e a.e.verdict (cond b (ended Answers.Cut a.d.course) a.e.course)) (sym (ne_eqb a.b 2 c.if-b-eq2.false))
