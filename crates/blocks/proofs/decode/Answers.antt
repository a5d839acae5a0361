-- `blocks::decode` meets its contract: each field is what its reader ensures. Assumes nothing.
use Rattle.blocks.specs.Block.{decode_chip}
use Rattle.blocks.proofs.Decoded.{holds_decode}
use Rattle.blocks.proofs.decode.Goals as goal

pub returns : goal.returns
unfolding decode_chip
returns c = (
  cc,
  holds_decode c.args.block.now c.told-block (λ k _. c.fits-block k),
)
