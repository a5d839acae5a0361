-- `driver_storing::put_head` meets its contract: the part that is lent comes back as the head. Assumes nothing.
use native.Mathlib.Omega.{arith}
use mathlib.Core.Path.{refl, ◌∙◌}
use Rattle.slices.proofs.Laws.{head-over}
use Rattle.driver_blocks.specs.Block.{head_bytes}
use Rattle.driver_storing.proofs.put_head.Goals as goal

pub returns : goal.returns
unfolding head_bytes
returns c = head-over c.args.block.now (omega (arith, c.told-block)) refl (c.copy_from_slice.ensures.after ∙ c.head_bytes.ensures)
