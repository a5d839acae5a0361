-- The lengths of what is stored: the head is twelve bytes and the data 64, whatever the operation is, so with arrays of their lengths the
-- registers take 236 bytes and the chip 765.
-- Assumes nothing.
use mathlib.Core.Path.{◌≡◌, refl}
use lib.ListN.{length, length-append}
use Rattle.slices.specs.Words.{word_bytes}
use Rattle.registers.specs.declared.Operation.{Operation}
use Rattle.registers.specs.declared.Registers.{Registers}
use Rattle.registers.specs.declared.Update.{Update}
use Rattle.registers.specs.declared.Update.TheVariants.{Keep, FillProtection, MaskProtection, Lock, WriteUser}
use Rattle.registers.specs.Data.{bytes16, bytes64}
use Rattle.registers.specs.Facts.{update_of}
use Rattle.control.specs.Starts.{Lengths}
use Rattle.state.specs.declared.Chip.{Chip}
use Rattle.state.specs.Whole.{Whole}
use Rattle.blocks.specs.declared.Heading.{Heading}
use Rattle.blocks.specs.Block.{head_of, head_bytes, bytes_held, data_bytes, encode_registers, encode_chip}

pub length-head_bytes : (r : Registers) (h : Heading) → length (head_bytes r h) ≡ 12
unfolding head_bytes
length-head_bytes r h = refl

length-held : (u : Update) → length (bytes_held u) ≡ 64
unfolding bytes16 bytes64 word_bytes
length-held Keep = refl
length-held FillProtection = refl
length-held (MaskProtection d) = refl
length-held (Lock s) = refl
length-held (WriteUser d) = refl

pub length-data_bytes : (o : Operation) → length (data_bytes o) ≡ 64
unfolding data_bytes
length-data_bytes o = length-held (update_of o)

pub length-encode_registers : (r : Registers) → Lengths r → length (encode_registers r) ≡ 236
unfolding encode_registers
length-encode_registers r a =
    simp (length-append, a.protection, a.lockdown, a.user, a.factory, length-head_bytes r (head_of r.operation), length-data_bytes r.operation)

pub length-encode_chip : (c : Chip) → Whole c → length (encode_chip c) ≡ 765
unfolding encode_chip
length-encode_chip c s = simp (length-append, length-encode_registers c.registers s.registers, s.buffer1, s.buffer2)
