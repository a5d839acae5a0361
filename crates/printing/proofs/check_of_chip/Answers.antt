-- `printing::check_of_chip` meets its contract: the state after the block, taken on through the array, is that after both in a row.
-- Assumes nothing.
use Rattle.printing.proofs.Laws.{crc_append}
use Rattle.checksum.specs.Checksum.{crc_of}
use lib.Bits.{bit_xor}
use Prim.Native.Nat.{ℕ}
use mathlib.Core.Path.{sym, ap, ◌∙◌}
use Rattle.printing.specs.Texts.{checksum}
use Rattle.printing.proofs.check_of_chip.Goals as goal

pub returns : goal.returns
unfolding checksum
returns c =
    c.crc_end.ensures ∙ ap (λ (k : ℕ). bit_xor k 0xFFFF_FFFF)
    (c.crc-2.ensures ∙ ap (λ (k : ℕ). crc_of k c.args.array.now) c.crc.ensures ∙ sym (crc_append 0xFFFF_FFFF c.args.block.now c.args.array.now))
