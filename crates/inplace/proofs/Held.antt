-- A block that holds a chip, and whose buffers are lent and come back, holds the chip with those buffers; what the outcome of an accepted
-- call leaves in the block is its chip.
-- Assumes nothing.
use mathlib.Core.Path.{◌≡◌, refl, ap, ◌∙◌}
use mathlib.Core.Bool.{Bool, true}
use mathlib.Core.List.{List, [], ◌++◌}
use Prim.Native.Nat.{ℕ, ◌*◌}
use lib.ListN.{length, set, take, drop}
use Rattle.geometry.specs.Parts.{page_room}
use Rattle.commands.specs.declared.Buffer.TheVariants.{One, Two}
use Rattle.registers.specs.declared.Registers.{Registers}
use Rattle.registers.specs.declared.Update.{Update}
use Rattle.registers.specs.declared.Update.TheVariants.{Keep, FillProtection, MaskProtection, Lock, WriteUser}
use Rattle.control.specs.declared.Change.{Change}
use Rattle.control.specs.declared.Change.TheVariants.{Nothing, Start, Protect, Sleep}
use Rattle.control.specs.Rulings.{changed}
use Rattle.control.specs.Starts.{Lengths}
use Rattle.state.specs.declared.Chip.{Chip}
use Rattle.state.specs.Lent.{memory_in}
use Rattle.state.specs.Memory.{memory_of, chip_of, with_registers}
use Rattle.state.specs.Whole.{Whole}
use Rattle.state.proofs.Lent.{lent_length, memory-joined}
use Rattle.blocks.specs.Block.{flag_byte, decode_registers, decode_chip, encode_chip}
use Rattle.inplace.specs.Plain.{is_keep}
use Rattle.blocks.proofs.Decoded.{whole_decode}
use Rattle.blocks.proofs.Lends.{stored_buffers, stored_back, stored_bit}

pub plain_keeps : (u : Update) → is_keep u ≡ true → u ≡ Keep
plain_keeps Keep e = refl
plain_keeps FillProtection e = cc
plain_keeps (MaskProtection d) e = cc
plain_keeps (Lock s) e = cc
plain_keeps (WriteUser d) e = cc

-- a change keeps the registers' lengths
changed-lengths : (c : Change) (r : Registers) → Lengths r → Lengths (changed c r)
unfolding changed
changed-lengths Nothing r a = a
changed-lengths (Start o) r a = record { protection = a.protection; lockdown = a.lockdown; user = a.user; factory = a.factory }
changed-lengths (Protect on) r a = record { protection = a.protection; lockdown = a.lockdown; user = a.user; factory = a.factory }
changed-lengths (Sleep on) r a = record { protection = a.protection; lockdown = a.lockdown; user = a.user; factory = a.factory }

-- the chip of a block of 765 bytes, after a change
abbrev pub settled_of : List ℕ → Change → Chip
settled_of b k = with_registers (decode_chip b) (changed k (decode_registers b))

pub settled_whole : (b : List ℕ) (k : Change) → length b ≡ 765 → Whole (settled_of b k)
unfolding decode_chip
settled_whole b k l = let s = whole_decode b l in record { registers = changed-lengths k (decode_registers b) s.registers; buffer1 = s.buffer1; buffer2 = s.buffer2 }

module _ (b : List ℕ) (k : Change) (l : length b ≡ 765) (y : List ℕ) (e : y ≡ encode_chip (settled_of b k)) where
  -- the buffers that are lent
  pub lent_both : (xs : List ℕ) → memory_in xs (take (2 * page_room) (drop 236 y)) (decode_chip b).compare ≡ memory_of (decode_chip b) xs
  lent_both xs =
      let c = settled_of b k in
      let s = settled_whole b k l in
      ap (λ (t : List ℕ). memory_in xs (take (2 * page_room) (drop 236 t)) c.compare) e
      ∙ ap (λ (t : List ℕ). memory_in xs t c.compare) (stored_buffers c s)
      ∙ memory-joined c xs s.buffer1 s.buffer2

  -- .. and that come back
  pub back : (zs : List ℕ) → length zs ≡ 2 * page_room
      → take 236 y ++ (zs ++ drop (2 * page_room) (drop 236 y)) ≡ encode_chip (chip_of (changed k (decode_registers b)) (memory_in [] zs (decode_chip b).compare))
  back zs n = ap (λ (t : List ℕ). take 236 t ++ (zs ++ drop (2 * page_room) (drop 236 t))) e ∙ stored_back (settled_of b k) (settled_whole b k l) zs n

  -- .. with another compare bit
  pub back_bit : (zs : List ℕ) (bit : Bool) → length zs ≡ 2 * page_room
      → set (take 236 y ++ (zs ++ drop (2 * page_room) (drop 236 y))) 764 (flag_byte bit) ≡ encode_chip (chip_of (changed k (decode_registers b)) (memory_in [] zs bit))
  back_bit zs bit n =
      let s = settled_whole b k l in
      let c = chip_of (changed k (decode_registers b)) (memory_in [] zs (decode_chip b).compare) in
      ap (λ (t : List ℕ). set t 764 (flag_byte bit)) (back zs n)
      ∙ stored_bit c (record { registers = s.registers; buffer1 = lent_length zs n One; buffer2 = lent_length zs n Two }) bit
