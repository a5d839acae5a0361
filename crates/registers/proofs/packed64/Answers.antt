-- `registers::packed64` meets its contract, word for word.
-- Assumes nothing.
use Rattle.registers.specs.Data.{pack64}
use Rattle.registers.proofs.packed64.Goals as goal

pub returns : goal.returns
unfolding pack64
returns c =
    rw (
      c.word_at.ensures,
      c.word_at-2.ensures,
      c.word_at-3.ensures,
      c.word_at-4.ensures,
      c.word_at-5.ensures,
      c.word_at-6.ensures,
      c.word_at-7.ensures,
      c.word_at-8.ensures,
    )
