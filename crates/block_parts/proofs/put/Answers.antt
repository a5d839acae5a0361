-- `block_parts::put` meets its contract: the part of the block that is lent comes back as `part`. Assumes nothing.
use lib.ListN.{length}
use Prim.Native.Nat.{◌-◌, ◌+◌}
use Rattle.slices.proofs.Laws.{kept_spliced}
use native.Mathlib.Omega.{arith}
use Rattle.block_parts.proofs.put.Goals as goal

pub returns : goal.returns
returns c = kept_spliced c.args.at (c.args.at + length c.args.part.now - c.args.at) c.args.block.now (omega arith) c.copy_from_slice.auto.self c.copy_from_slice.ensures.after
