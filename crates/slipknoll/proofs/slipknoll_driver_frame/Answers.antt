-- `slipknoll::slipknoll_driver_frame` meets its contract: the frame is that of the state that the block holds. Assumes nothing.
use mathlib.Core.Path.{ap, ◌∙◌}
use mathlib.Core.List.{List}
use Prim.Native.Nat.{ℕ}
use lib.ListN.{length}
use Rattle.slices.specs.Lists.{over}
use Rattle.slots.specs.declared.Driver.{Driver}
use Rattle.worlds.specs.Step.{frame_in}
use Rattle.slipknoll.proofs.slipknoll_driver_frame.Goals as goal

pub returns : goal.returns
returns c =
    let a = c.args in
    let f = ap (λ (d : Driver). frame_in d a.payload.now a.staged.now) c.decode-d.ensures in
    let w = c.write_frame.ensures in
    (w.0 ∙ ap length f, w.1 ∙ f, w.2 ∙ ap (λ (l : List ℕ). over l a.frame.now) f)
