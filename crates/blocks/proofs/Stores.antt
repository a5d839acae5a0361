-- What a call leaves in the block: an accepted one the chip of its outcome, a refused one the block as it was; and a pin move of the block
-- is the chip's, since it sets the WP byte and no other.
-- Assumes nothing.
use mathlib.Core.Path.{◌≡◌, refl, ap, ◌∙◌}
use mathlib.Core.Bool.{Bool, true, false, cond}
use mathlib.Core.List.{List}
use Prim.Native.Nat.{ℕ, ◌+◌, ◌*◌, ◌<◌, ◌≤◌}
use native.Mathlib.Omega.{arith}
use lib.ListN.{length, set, take, drop, get_or}
use lib.Seq.{get_or-set_same, get_or-set_other, take-set-le, drop-set-lt, drop-set-add}
use lib.Dec.{eqb, lit<, lit≤}
use borrow.Author.Tests.{eqb-false}
use Rattle.geometry.specs.Parts.{page_room}
use Rattle.registers.specs.Fields.{with_wp}
use Rattle.state.specs.declared.Answer.{Answer}
use Rattle.state.specs.declared.Answer.TheVariants as Answers
use Rattle.state.specs.declared.Chip.{Chip}
use Rattle.state.specs.Answers.{number_of}
use Rattle.state.specs.Memory.{with_registers}
use Rattle.blocks.specs.Block.{field, flag, flag_byte, operation_of, decode_operation, decode_registers, decode_chip, encode_chip}
use Rattle.blocks.specs.Holds.{Holds}
use Rattle.blocks.specs.Promises.{stored_by, pin_moved}
use Rattle.blocks.proofs.RoundTrip.{decode_encode, flag_back}

-- ---- after a call

-- an accepted one's chip is read back
pub stored-done : (held : List ℕ) (c : Chip) → Holds c → decode_chip (stored_by held Answers.Done c) ≡ c
unfolding stored_by number_of
stored-done held c h = decode_encode c h

-- so is the block's own, stored or not
pub stored_same : (held : List ℕ) (a : Answer) → Holds (decode_chip held) → decode_chip (stored_by held a (decode_chip held)) ≡ decode_chip held
unfolding stored_by
stored_same held a h = go (eqb (number_of a) 0)
  where
    go : (b : Bool) → decode_chip (cond b (encode_chip (decode_chip held)) held) ≡ decode_chip held
    go true = decode_encode (decode_chip held) h
    go false = refl

-- ---- one byte set: a part before it, a part after it, another byte
pub part_before : (a n k : ℕ) (xs : List ℕ) (x : ℕ) → n ≤ k → field a n (set xs (a + k) x) ≡ field a n xs
part_before a n k xs x h = ap (λ (t : List ℕ). take n t) (drop-set-add a xs k x) ∙ take-set-le n (drop a xs) k x h

part-after : (a n k : ℕ) (xs : List ℕ) (x : ℕ) → k < a → field a n (set xs k x) ≡ field a n xs
part-after a n k xs x h = ap (λ (t : List ℕ). take n t) (drop-set-lt a xs k x h)

other : (k : ℕ) (xs : List ℕ) (x : ℕ) → eqb k 162 ≡ false → get_or (set xs 162 x) k 0 ≡ get_or xs k 0
other k xs x e = get_or-set_other xs 162 k x 0 (eqb-false k 162 e)

-- ---- a pin move
pub pin-moved : (block : List ℕ) (high : Bool) → length block ≡ 765 → decode_chip (pin_moved block high) ≡ with_registers (decode_chip block) (with_wp (decode_chip block).registers high)
unfolding pin_moved decode_chip decode_registers decode_operation
pin-moved block high l =
    let x = flag_byte high in
    λ i.
    record {
      registers =
          record {
            protection = part_before 0 16 162 block x (lit≤ tt) i;
            lockdown = part_before 16 16 146 block x (lit≤ tt) i;
            user = part_before 32 64 130 block x (lit≤ tt) i;
            factory = part_before 96 64 66 block x (lit≤ tt) i;
            used = flag (other 160 block x refl i);
            protect = flag (other 161 block x refl i);
            wp = (ap flag (get_or-set_same block 162 x 0 (omega arith)) ∙ flag_back high) i;
            deep = flag (other 163 block x refl i);
            operation =
                operation_of (other 164 block x refl i) (other 165 block x refl i) (other 166 block x refl i * 256 + other 167 block x refl i)
                (other 168 block x refl i * 16777216 + other 169 block x refl i * 65536 + other 170 block x refl i * 256 + other 171 block x refl i)
                (part-after 172 64 162 block x (lit< tt) i);
          };
      buffer1 = part-after 236 page_room 162 block x (lit< tt) i;
      buffer2 = part-after 500 page_room 162 block x (lit< tt) i;
      compare = flag (other 764 block x refl i);
    }
