-- `checksum::crc_byte` meets its contract: the high part of the state is shifted, and the table has the steps of its low byte. Assumes nothing.
use mathlib.Core.Path.{sym, ap, ◌∙◌}
use Prim.Native.Nat.{ℕ, ◌/◌, ◌%◌}
use native.Mathlib.Omega.{arith}
use lib.Bits.{bit_xor}
use Rattle.checksum.specs.Checksum.{crc_bits}
use Rattle.checksum.proofs.Table.{byte_split}
use Rattle.checksum.proofs.crc_byte.Goals as goal

pub returns : goal.returns
returns c =
    let s = bit_xor c.args.state c.from.result in
    ap (bit_xor (s / 256)) (c.requires.entry (s % 256) (omega arith)) ∙ sym (byte_split s)
    ∙ ap (λ (byte : ℕ). crc_bits 8 (bit_xor c.args.state byte)) c.from.ensures
