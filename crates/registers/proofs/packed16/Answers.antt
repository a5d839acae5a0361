-- `registers::packed16` meets its contract, word for word.
-- Assumes nothing.
use Rattle.registers.specs.Data.{pack16}
use Rattle.registers.proofs.packed16.Goals as goal

pub returns : goal.returns
unfolding pack16
returns c = rw (c.word_at.ensures, c.word_at-2.ensures)
