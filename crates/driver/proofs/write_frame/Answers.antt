-- `driver::write_frame` meets its contract: the part is looked up, and a known one's frame is written; no frame is longer than the buffer.
-- Assumes nothing.
use native.Mathlib.Omega.{arith}
use mathlib.Core.List.{[]}
use mathlib.Core.Path.{◌≡◌, refl, sym, ◌∙◌}
use lib.ListN.{length}
use Rattle.slots.specs.Driver.{frame_room}
use Rattle.worlds.specs.Step.{frame_by}
use Rattle.driver.proofs.Frames.{nothing, frame-fits, framed}
use borrow.Author.Rules.{rules}
use Rattle.driver.proofs.write_frame.Goals as goal

pub write_on-requires : goal.write_on-requires
write_on-requires c = (sym c.part_of.ensures ∙ c.in-Some.is, search rules, search rules)

pub returns-in-Some : goal.returns-in-Some
returns-in-Some c =
    let a = c.args in
    let p = sym c.part_of.ensures ∙ c.in-Some.is in
    let long : length a.frame.now ≡ frame_room = search rules in
    framed a.d a.payload.now a.staged.now a.frame.now (sym p) (omega (arith, long, frame-fits a.d a.payload.now a.staged.now _ p)) c.write_on.ensures

pub returns-in-None : goal.returns-in-None
unfolding frame_by
returns-in-None c =
    let a = c.args in
    framed a.d a.payload.now a.staged.now a.frame.now (sym c.in-None.is ∙ c.part_of.ensures) (omega arith) (nothing [] a.frame.now refl)
