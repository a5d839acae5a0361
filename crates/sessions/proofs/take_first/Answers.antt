-- `sessions::take_first` meets its contract: course and data are taken from the same bytes of the reply.
-- Assumes nothing.
use lib.Seq.{length-take-le}
use mathlib.Core.Path.{sym, ◌∙◌}
use Rattle.worlds.specs.Turns.{with}
use Rattle.sessions.proofs.take_first.Goals as goal

pub slice_bounds-take_course-end : goal.slice_bounds-take_course-end
slice_bounds-take_course-end c = sym (length-take-le c.args.n c.args.reply.now c.requires.3)

pub slice_bounds-take_data-end : goal.slice_bounds-take_data-end
slice_bounds-take_data-end c = sym (length-take-le c.args.n c.args.reply.now c.requires.3)

pub returns : goal.returns
returns c =
    let d = c.args.d in
    let took = c.take_data-verdict.ensures in
    (c.with.ensures ∙ (λ i. with d (took.0 i) (c.take_course-course.ensures i)), took.1)
