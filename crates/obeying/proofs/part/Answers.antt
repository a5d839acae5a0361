-- `obeying::part` meets its contract: the array begins with the part. Assumes nothing.
use mathlib.Core.Path.{refl, ap}
use Rattle.obeying.specs.declared.Session.{Session}
use Rattle.obeying.specs.Desk.{desk_of}
use Rattle.obeying.specs.Promises.{after_step}
use Rattle.obeying.proofs.Laws.{part-renewed}
use Rattle.obeying.proofs.part.Goals as goal

pub returns : goal.returns
returns c =
    let a = c.args in
    let p = c.renew in (
      (λ log out. part-renewed a.s a.n (desk_of a.s a.block.now a.array.now log out) p.new.array log out refl p.ensures.0 p.ensures.1 c.after_step.ensures),
      ap (λ (z : Session). z.output) {y = after_step a.s a.n 0 0 0 a.s.output} c.after_step.ensures,
    )
