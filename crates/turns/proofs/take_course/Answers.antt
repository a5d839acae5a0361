-- `turns::take_course` meets its contract: the course goes by the step at the state's place, and by the one behind it.
-- Assumes nothing.
use Prim.Native.Nat.{suc}
use native.Mathlib.Omega.{arith}
use mathlib.Core.Path.{sym, ◌∙◌}
use Rattle.slots.specs.Plans.{plan_by, step_at}
use Rattle.slots.specs.Driver.{heard, course_by}
use Rattle.turns.proofs.Turns.{sound-pages, sound_sized, sound_sector, sound-place}
use Rattle.turns.proofs.take_course.Goals as goal

pub overflow_mul-d : goal.overflow_mul-d
overflow_mul-d c = omega (arith, c.requires.0.slot, (sound_sized c.requires.0).few)

pub sector_of-sector-requires : goal.sector_of-sector-requires
sector_of-sector-requires c = sound_sized c.requires.0

pub take_course-requires : goal.take_course-requires
take_course-requires c = (sound-place c.requires.0, sound_sector c.requires.0 c.sector_of-sector.ensures)

pub returns : goal.returns
returns c =
    let a = c.args in
    let d = a.d in
    let next = step_at (plan_by d.kind a.g d.slot) (suc d.course.place) in
    c.take_course.ensures a.g (sound-pages c.requires.0).full next (sym (c.is_last-last.ensures a.g d.slot))
    ∙ (λ i. course_by (c.requires.1 i) next d.limit d.course (heard a.g (c.requires.1 i) (c.sector_of-sector.ensures i) a.reply.now))
