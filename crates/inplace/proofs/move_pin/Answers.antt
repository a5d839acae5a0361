-- `inplace::move_pin` meets its contract: the pin's byte is stored, and the block holds the chip with the pin moved.
-- Assumes nothing.
use Rattle.inplace.proofs.Kept.{met-pin}
use Rattle.inplace.proofs.move_pin.Goals as goal

pub returns : goal.returns
returns c =
    let a = c.args in
    met-pin a.block.now a.high c.told-block c.move_pin.ensures
