-- Every block of 765 bytes reads as a chip that a block can hold: its parts have their lengths, two bytes make a number below 65536, four
-- one below 2 ^ 32, eight one below 2 ^ 64. A tag or a buffer that does not fit reads as an operation that no part takes.
-- Assumes nothing.
use Rattle.geometry.specs.declared.Geometry.{Geometry}
use Rattle.std.specs.Prelude.{None, Option, Some}
use mathlib.Core.Path.{◌≡◌, refl}
use mathlib.Core.Bool.{Bool, true, false, cond}
use mathlib.Core.List.{List, [], ◌∷◌}
use Prim.Native.Nat.{ℕ, zero, suc, ◌+◌, ◌^◌, ◌<◌, ◌≤◌}
use native.Mathlib.Omega.{arith}
use lib.ListN.{length, take, drop, get_or, length-take, length-drop}
use lib.Seq.{get_or-take, get_or-drop}
use lib.Dec.{eqb, lit<}
use borrow.Author.Tests.{le-ltb}
use Rattle.slices.proofs.Words.{word_at-small}
use Rattle.commands.specs.declared.Buffer.{Buffer}
use Rattle.commands.specs.declared.Buffer.TheVariants.{One, Two}
use Rattle.geometry.specs.Parts.{page_room, part_of}
use Rattle.geometry.proofs.Pages.{sized}
use Rattle.registers.specs.declared.Operation.{Operation}
use Rattle.registers.specs.Data.{pack16, pack64}
use Rattle.registers.specs.Operations.{within, placed}
use Rattle.registers.proofs.Places.{known_beyond, unknown_placed}
use Rattle.state.specs.Whole.{Whole}
use Rattle.blocks.specs.Block.{field, beyond, buffered_of, plain_of, operation_of, number_in, sectors_in, decode_operation, decode_registers, decode_chip, encode_chip}
use Rattle.blocks.specs.Holds.{Words16, Words64, Fitting, Holds}
use Rattle.blocks.proofs.RoundTrip.{decode_encode}

-- ---- the lengths
length-field : (a n : ℕ) (xs : List ℕ) → a + n ≤ length xs → length (field a n xs) ≡ n
length-field a n xs h = simp (length-take, length-drop) (omega arith)

pub whole_decode : (block : List ℕ) → length block ≡ 765 → Whole (decode_chip block)
unfolding decode_chip decode_registers
whole_decode block l =
    record {
      registers =
          record {
            protection = length-field 0 16 block (omega arith);
            lockdown = length-field 16 16 block (omega arith);
            user = length-field 32 64 block (omega arith);
            factory = length-field 96 64 block (omega arith);
          };
      buffer1 = length-field 236 page_room block (omega arith);
      buffer2 = length-field 500 page_room block (omega arith);
    }

-- ---- bytes: a part of a list of bytes is one
bytes : (xs : List ℕ) → ((k : ℕ) → k < length xs → get_or xs k 0 < 256) → (k : ℕ) → get_or xs k 0 < 256
bytes [] h k = lit< tt
bytes (x ∷ xs) h zero = h zero (omega arith)
bytes (x ∷ xs) h (suc k) = bytes xs (λ j l. h (suc j) (omega arith)) k

bytes-field : (a n : ℕ) (xs : List ℕ) → ((k : ℕ) → get_or xs k 0 < 256) → (k : ℕ) → get_or (field a n xs) k 0 < 256
bytes-field a n xs h = bytes (field a n xs) (λ k l. rw (get_or-take n (drop a xs) k 0 (omega (arith, length-take n (drop a xs))), get_or-drop a xs k 0) (h (a + k)))

words16 : (xs : List ℕ) → ((k : ℕ) → get_or xs k 0 < 256) → Words16 (pack16 xs)
unfolding pack16
words16 xs h = record { a = word_at-small xs 0 (λ k _. h (0 + k)); b = word_at-small xs 8 (λ k _. h (8 + k)) }

words64 : (xs : List ℕ) → ((k : ℕ) → get_or xs k 0 < 256) → Words64 (pack64 xs)
unfolding pack64
words64 xs h =
    record {
      a = word_at-small xs 0 (λ k _. h (0 + k));
      b = word_at-small xs 8 (λ k _. h (8 + k));
      c = word_at-small xs 16 (λ k _. h (16 + k));
      d = word_at-small xs 24 (λ k _. h (24 + k));
      e = word_at-small xs 32 (λ k _. h (32 + k));
      f = word_at-small xs 40 (λ k _. h (40 + k));
      g = word_at-small xs 48 (λ k _. h (48 + k));
      h = word_at-small xs 56 (λ k _. h (56 + k));
    }

-- ---- the operation under way
cases : (Q : Operation → Type 0) (b : Bool) {x y : Operation} → Q x → Q y → Q (cond b x y)
cases Q true h k = h
cases Q false h k = k

beyond-fits : Fitting beyond
beyond-fits = (lit< tt, tt)

buffered_fits : (tag : ℕ) (b : Buffer) (n : ℕ) → n < 65536 → Fitting (buffered_of tag b n)
unfolding buffered_of
buffered_fits tag b n h =
    cases Fitting (eqb tag 0x83) (h, tt)
    (cases Fitting (eqb tag 0x88) (h, tt)
    (cases Fitting (eqb tag 0x53) (h, tt)
    (cases Fitting (eqb tag 0x60) (h, tt)
    (cases Fitting (eqb tag 0x58) (h, tt)
    beyond-fits))))

plain_fits : (tag n sectors : ℕ) (xs : List ℕ) → n < 65536 → sectors < 2 ^ 32 → ((k : ℕ) → get_or xs k 0 < 256) → Fitting (plain_of tag n sectors xs)
unfolding plain_of
plain_fits tag n sectors xs h s b =
    cases Fitting (eqb tag 0x00) (tt, tt)
    (cases Fitting (eqb tag 0x81) (h, tt)
    (cases Fitting (eqb tag 0x50) (h, tt)
    (cases Fitting (eqb tag 0x7C) (h, tt)
    (cases Fitting (eqb tag 0xC7) (s, tt)
    (cases Fitting (eqb tag 0xCF) (tt, tt)
    (cases Fitting (eqb tag 0xFC) (tt, words16 (take 16 xs) (bytes-field 0 16 xs b))
    (cases Fitting (eqb tag 0x30) (h, tt)
    (cases Fitting (eqb tag 0x9B) (tt, words64 xs b)
    beyond-fits))))))))

operation-fits : (tag buffer n sectors : ℕ) (xs : List ℕ) → n < 65536 → sectors < 2 ^ 32 → ((k : ℕ) → get_or xs k 0 < 256)
    → Fitting (operation_of tag buffer n sectors xs)
unfolding operation_of
operation-fits tag buffer n sectors xs h s b =
    cases Fitting (eqb buffer 0) (plain_fits tag n sectors xs h s b)
    (cases Fitting (eqb buffer 1) (buffered_fits tag One n h)
    (cases Fitting (eqb buffer 2) (buffered_fits tag Two n h)
    beyond-fits))

-- ---- the chip
pub holds_decode : (block : List ℕ) → length block ≡ 765 → ((k : ℕ) → k < length block → get_or block k 0 < 256) → Holds (decode_chip block)
unfolding decode_chip decode_registers decode_operation
holds_decode block l h =
    let b = bytes block h in
    record {
      whole = whole_decode block l;
      operation =
          operation-fits (get_or block 164 0) (get_or block 165 0) (number_in block) (sectors_in block) (field 172 64 block)
          (omega (arith, b 166, b 167)) (omega (arith, b 168, b 169, b 170, b 171)) (bytes-field 172 64 block b);
    }

-- storing what was read changes nothing of what is read
pub decode_encode_decode : (block : List ℕ) → length block ≡ 765 → ((k : ℕ) → k < length block → get_or block k 0 < 256)
    → decode_chip (encode_chip (decode_chip block)) ≡ decode_chip block
decode_encode_decode block l h = decode_encode (decode_chip block) (holds_decode block l h)

-- an operation beyond every part: with it, every array meets answer 1
pub beyond-placed : (n : ℕ) → placed n beyond ≡ None
unfolding within
beyond-placed n = go (part_of n) refl
  where
    go : (p : Option Geometry) → part_of n ≡ p → placed n beyond ≡ None
    go (Some g) e = known_beyond n beyond g e (le-ltb 65535 g.pages (omega (arith, (sized n g e).few)))
    go None e = unknown_placed n beyond e
