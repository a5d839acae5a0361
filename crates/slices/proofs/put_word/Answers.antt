-- `slices::put_word` meets its contract: eight bytes stored at once are a part laid over the list, and std's bytes of a number are its digits to
-- the base 256, first byte highest. Assumes nothing.
use Rattle.std.proofs.Common.{◌∙◌, arith}
use Rattle.slices.specs.Words.{word_bytes}
use Rattle.slices.proofs.Laws.{spliced}
use Rattle.slices.proofs.put_word.Goals as goal

pub returns : goal.returns
unfolding word_bytes
returns c = spliced c.args.at c.args.bytes.now (omega arith) (omega arith) (c.copy_from_slice.ensures.after ∙ c.to_be_bytes.ensures)
