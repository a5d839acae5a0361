-- The parts of a block that are lent to a call: what they are of the chip that the block holds, and what the block holds when the buffers
-- come back.
-- Assumes nothing.
use mathlib.Core.Path.{◌≡◌, refl, sym, ap, ◌∙◌}
use mathlib.Core.Bool.{Bool}
use mathlib.Core.List.{List, [], ◌∷◌, ◌++◌, append_assoc}
use Prim.Native.Nat.{ℕ, ◌+◌, ◌*◌, ◌≤◌}
use native.Mathlib.Omega.{arith}
use lib.ListN.{length, set, take, drop, get_or, length-append, length-drop, take-append-drop}
use lib.Seq.{take_at, drop_at, drop-drop, take-take, take_all, take-append-add, length-take-le}
use lib.Dec.{lit≤}
use Rattle.slices.proofs.Laws.{over_append, over-whole}
use Rattle.geometry.specs.Parts.{page_room}
use Rattle.state.specs.declared.Chip.{Chip}
use Rattle.state.specs.Lent.{memory_in}
use Rattle.state.specs.Memory.{memory_of, chip_of}
use Rattle.state.specs.Whole.{Whole}
use Rattle.blocks.specs.Block.{field, flag, flag_byte, decode_registers, decode_chip, encode_registers, encode_chip}
use Rattle.blocks.proofs.Lengths.{length-encode_registers}
use Rattle.blocks.proofs.Stored.{Stored, stored_more, splice_one}

-- ---- what is lent

-- a part twice as long is the two parts
twice : (k : ℕ) (xs : List ℕ) → k ≤ length xs → take (k + k) xs ≡ take k xs ++ take k (drop k xs)
twice k xs h =
    ap (λ (t : List ℕ). take (k + k) t) (sym (take-append-drop k xs))
    ∙ ap (λ (n : ℕ). take (n + k) (take k xs ++ drop k xs)) (sym (length-take-le k xs h))
    ∙ take-append-add (take k xs) (drop k xs) k

pub security_lent : (b : List ℕ) → length b ≡ 765 → take 128 (drop 32 b) ≡ (decode_registers b).user ++ (decode_registers b).factory
unfolding decode_registers
security_lent b l =
    twice 64 (drop 32 b) (omega (arith, length-drop 32 b)) ∙ ap (λ (t : List ℕ). field 32 64 b ++ take 64 t) (drop-drop 64 32 b)

pub buffers_lent : (b xs : List ℕ) → length b ≡ 765 → memory_in xs (take (2 * page_room) (drop 236 b)) (flag (get_or b 764 0)) ≡ memory_of (decode_chip b) xs
unfolding decode_chip
buffers_lent b xs l =
    let ys = drop 236 b in
    let h : page_room ≤ length (drop 236 b) = omega (arith, length-drop 236 b) in
    λ i.
    record {
      array = xs;
      buffer1 = take-take page_room (2 * page_room) ys (lit≤ tt) i;
      buffer2 =
          (ap (λ (t : List ℕ). take page_room (drop page_room t)) (twice page_room ys h)
          ∙ ap (λ (t : List ℕ). take page_room t) (drop_at (take page_room ys) (take page_room (drop page_room ys)) page_room (length-take-le page_room ys h))
          ∙ take-take page_room page_room (drop page_room ys) (lit≤ tt) ∙ ap (λ (t : List ℕ). take page_room t) (drop-drop page_room 236 b)) i;
      compare = flag (get_or b 764 0);
    }

-- ---- what comes back to a block that holds the chip
module _ (c : Chip) (s : Whole c) where
  -- what lies behind the registers, and behind the buffers
  behind : drop 236 (encode_chip c) ≡ (c.buffer1 ++ c.buffer2) ++ (flag_byte c.compare ∷ [])
  unfolding encode_chip
  behind =
      drop_at (encode_registers c.registers) (c.buffer1 ++ (c.buffer2 ++ (flag_byte c.compare ∷ []))) 236 (length-encode_registers c.registers s.registers)
      ∙ sym (append_assoc c.buffer1 c.buffer2 (flag_byte c.compare ∷ []))

  both : length (c.buffer1 ++ c.buffer2) ≡ 2 * page_room
  both = length-append c.buffer1 c.buffer2 ∙ omega (arith, s.buffer1, s.buffer2)

  pub stored_buffers : take (2 * page_room) (drop 236 (encode_chip c)) ≡ c.buffer1 ++ c.buffer2
  stored_buffers = ap (λ (t : List ℕ). take (2 * page_room) t) behind ∙ take_at (c.buffer1 ++ c.buffer2) (flag_byte c.compare ∷ []) (2 * page_room) both

  pub stored_back : (zs : List ℕ) → length zs ≡ 2 * page_room → take 236 (encode_chip c) ++ (zs ++ drop (2 * page_room) (drop 236 (encode_chip c))) ≡ encode_chip (chip_of c.registers (memory_in [] zs c.compare))
  unfolding encode_chip
  stored_back zs l =
      let r = encode_registers c.registers in
      let x = flag_byte c.compare ∷ [] in
      let w : take page_room (drop page_room zs) ≡ drop page_room zs = take_all page_room (drop page_room zs) (omega (arith, length-drop page_room zs)) in
      (λ i. take_at r (c.buffer1 ++ (c.buffer2 ++ x)) 236 (length-encode_registers c.registers s.registers) i
      ++ (zs ++ (ap (λ (t : List ℕ). drop (2 * page_room) t) behind ∙ drop_at (c.buffer1 ++ c.buffer2) x (2 * page_room) both) i))
      ∙ ap (λ (t : List ℕ). r ++ (t ++ x)) (sym (take-append-drop page_room zs))
      ∙ ap (λ (t : List ℕ). r ++ t) (append_assoc (take page_room zs) (drop page_room zs) x)
      ∙ ap (λ (t : List ℕ). r ++ (take page_room zs ++ (t ++ x))) (sym w)

  -- the last byte stored anew
  pub stored_bit : (bit : Bool) → set (encode_chip c) 764 (flag_byte bit) ≡ encode_chip (record { registers = c.registers; buffer1 = c.buffer1; buffer2 = c.buffer2; compare = bit })
  unfolding encode_chip
  stored_bit bit =
      let r = encode_registers c.registers in
      let x = flag_byte c.compare ∷ [] in
      let y = flag_byte bit ∷ [] in
      let p = r ++ (c.buffer1 ++ c.buffer2) in
      let e : encode_chip c ≡ p ++ x = ap (λ (t : List ℕ). r ++ t) (sym (append_assoc c.buffer1 c.buffer2 x)) ∙ sym (append_assoc r (c.buffer1 ++ c.buffer2) x) in
      let n : length p ≡ 764 = length-append r (c.buffer1 ++ c.buffer2) ∙ omega (arith, length-encode_registers c.registers s.registers, both) in
      let k : length (p ++ x) ≡ 765 = length-append p x ∙ omega (arith, n) in
      let z : Stored p (p ++ x) (p ++ x) 764 = record { long = n; same = sym (over_append p (p ++ x) (omega arith) ∙ ap (λ (t : List ℕ). p ++ t) (ap (λ (m : ℕ). drop m (p ++ x)) n ∙ drop_at p x 764 n)) } in
      let q = stored_more y 1 refl z (splice_one 764 (flag_byte bit) (p ++ x)) in
      ap (λ (t : List ℕ). set t 764 (flag_byte bit)) e ∙ q.same ∙ over-whole _ _ (q.long ∙ sym k)
      ∙ append_assoc r (c.buffer1 ++ c.buffer2) y ∙ ap (λ (t : List ℕ). r ++ t) (append_assoc c.buffer1 c.buffer2 y)
