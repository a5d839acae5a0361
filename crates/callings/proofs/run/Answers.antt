-- `callings::run` meets its contract. Assumes nothing.
use Rattle.runs.proofs.Calls.{starts, cut_fits_lem, finished}
use mathlib.Core.Path.{refl}
use Rattle.callings.proofs.run.Goals as goal

pub drive-e-requires : goal.drive-e-requires
drive-e-requires c =
    let a = c.args in
    starts a.g a.d a.payload.now a.buffer.now a.script.now a.junk.now a.log.now a.block.now a.array.now c.requires.0 c.requires.1

pub lose-requires : goal.lose-requires
lose-requires c =
    let a = c.args in (
      c.drive-e.ensures.0.part,
      c.drive-e.ensures.1,
      cut_fits_lem a.g a.d a.payload.now a.buffer.now a.script.now a.junk.now a.log.now a.block.now a.array.now c.requires.0 c.requires.1 refl
          c.drive-e.ensures.0,
    )

pub returns : goal.returns
returns c =
    let a = c.args in
    finished a.g a.d a.payload.now a.buffer.now a.script.now a.junk.now a.log.now a.block.now a.array.now c.requires.0 c.requires.1 refl
    c.drive-e.ensures.0 _ _ _ _ _ c.answer-a.ensures c.deliver-n.ensures.0 c.deliver-n.ensures.1 c.lose.ensures.0 c.lose.ensures.1
