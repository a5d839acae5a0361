-- `sessions::drive` meets its contract. Assumes nothing.
use Rattle.runs.proofs.Loop.{along_start, start-going, along_going, along_turned, turned_less, along_ended}
use Rattle.blocks.specs.Promises.{held_in}
use Rattle.slots.proofs.Places.{never}
use Prim.Native.Nat.{◌-◌}
use mathlib.Core.Bool.{true}
use mathlib.Core.Path.{sym, ◌∙◌}
use borrow.Author.Tests.{not-true, not-false}
use Rattle.sessions.proofs.drive.Goals as goal

pub loop-g-init : goal.loop-g-init
loop-g-init c =
    let a = c.args in
    let t = held_in a.block.now a.array.now in (
      along_start a.g t a.start a.payload.now a.staged.now a.script.now a.log.now c.requires,
      λ e. never (sym (start-going a.g t a.start a.payload.now a.staged.now a.script.now a.log.now c.requires) ∙ e),
    )

pub turn-s-requires : goal.turn-s-requires
turn-s-requires c =
    let a = c.args in
    along_going a.g (held_in a.block.now a.array.now) a.start a.payload.now a.staged.now a.script.now a.log.now c.requires _ _ _ _ c.loop-g.invariant.0
    (not-true _ (sym c.is_going.ensures ∙ c.loop-g-test.true))

pub loop-g-smaller : goal.loop-g-smaller
loop-g-smaller c =
    let a = c.args in
    turned_less a.g (held_in a.block.now a.array.now) a.start a.payload.now a.staged.now a.script.now a.log.now c.requires _ _ _ _ c.loop-g.invariant.0
    (not-true _ (sym c.is_going.ensures ∙ c.loop-g-test.true)) _ _ _ _ c.turn-s.ensures.0

pub loop-g-preserved : goal.loop-g-preserved
loop-g-preserved c =
    let a = c.args in (
      along_turned a.g (held_in a.block.now a.array.now) a.start a.payload.now a.staged.now a.script.now a.log.now c.requires _ _ _ _ c.loop-g.invariant.0
          (not-true _ (sym c.is_going.ensures ∙ c.loop-g-test.true)) _ _ _ _ c.turn-s.ensures.0,
      λ e. c.turn-s.ensures.1,
    )

pub shape_of-array : goal.shape_of-array
shape_of-array c = c.loop-g.invariant.0.long

pub shape_of-log : goal.shape_of-log
shape_of-log c = c.loop-g.invariant.0.room

pub returns : goal.returns
returns c =
    let a = c.args in
    let e = not-false _ (sym c.is_going.ensures ∙ c.loop-g-test.false) in (
      along_ended a.g (held_in a.block.now a.array.now) a.start a.payload.now a.staged.now a.script.now a.log.now c.requires _ _ _ _ c.loop-g.invariant.0 e,
      c.loop-g.invariant.1 e,
    )
