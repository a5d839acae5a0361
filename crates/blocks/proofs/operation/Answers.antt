-- `blocks::operation` meets its contract: tag and buffer 0 are no operation, and any other is told by `operation_in`.
-- Assumes nothing.
use mathlib.Core.Path.{refl}
use Rattle.blocks.specs.Block.{plain_of, operation_of, decode_operation}
use Rattle.blocks.proofs.Decoded.{holds_decode}
use Rattle.blocks.proofs.operation.Goals as goal

pub returns-then-block-eq0-2 : goal.returns-then-block-eq0-2
unfolding decode_operation operation_of plain_of
returns-then-block-eq0-2 c = (rw c.if-block-eq0.true (rw c.if-block-eq0-2.true refl), holds_decode c.args.block.now c.told-block (λ k _. c.fits-block k))

pub returns : goal.returns
returns c = (c.operation_in.ensures, holds_decode c.args.block.now c.told-block (λ k _. c.fits-block k))
