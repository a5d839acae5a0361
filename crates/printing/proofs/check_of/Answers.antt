-- `printing::check_of` meets its contract: the checksum ends the state after the bytes. Assumes nothing.
use lib.Bits.{bit_xor}
use Prim.Native.Nat.{ℕ}
use mathlib.Core.Path.{ap, ◌∙◌}
use Rattle.printing.specs.Texts.{checksum}
use Rattle.printing.proofs.check_of.Goals as goal

pub returns : goal.returns
unfolding checksum
returns c = c.crc_end.ensures ∙ ap (λ (k : ℕ). bit_xor k 0xFFFF_FFFF) c.crc.ensures
