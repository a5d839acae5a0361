-- `courses::take_course` meets its contract: each step's course is the definition's clause for it, and a wait hears the status that it polls.
-- Assumes nothing.
use Prim.Native.Nat.{ℕ}
use mathlib.Core.Path.{ap, ◌∙◌}
use Rattle.slots.specs.declared.Step.TheVariants.{Wait}
use Rattle.slots.specs.Driver.{heard, status_heard, course_by}
use Rattle.courses.proofs.Control.{by_step}
use Rattle.courses.proofs.take_course.Goals as goal

pub returns-in-Wait : goal.returns-in-Wait
unfolding heard
returns-in-Wait c =
    let a = c.args in
    λ g q.
    by_step g a.c a.limit a.sector a.reply.now c.in-Wait.is
    (λ next e. c.poll.ensures c.in-Wait.checked next e ∙ ap (λ (s : ℕ). course_by (Wait c.in-Wait.checked) next a.limit a.c (status_heard s)) c.byte_or.ensures)
