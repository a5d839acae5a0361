-- What is stored is read back. Each part of the block lies where its offset says, since the parts before it have their lengths; a number
-- that fits its bytes is the number that they make.
-- Assumes nothing.
use mir.Val.{bool_byte}
use mathlib.Core.Path.{◌≡◌, refl, sym, ap, ◌∙◌}
use mathlib.Core.Bool.{Bool, true, false}
use mathlib.Core.List.{List, [], ◌∷◌, ◌++◌, append_assoc}
use Prim.Native.Nat.{ℕ, ◌+◌, ◌*◌, ◌/◌, ◌%◌, ◌^◌, ◌<◌}
use native.Mathlib.Nat.{mod-eq_of_lt}
use native.Mathlib.Omega.{arith}
use lib.ListN.{length, take, drop, get_or, replicate, get_or-append}
use lib.Seq.{take_at, drop_at, drop-drop, get_or-drop}
use lib.Dec.{lit<}
use lib.Pow.{mod-pow-add}
use Rattle.geometry.specs.Parts.{page_room}
use Rattle.commands.specs.declared.Buffer.TheVariants.{One, Two}
use Rattle.registers.specs.declared.Operation.{Operation}
use Rattle.registers.specs.declared.Operation.TheVariants.{Idle, Program, ProgramOver, Transfer, Compare, Rewrite, ErasePage, EraseBlock, EraseSector, EraseChip, EraseProtection, ProgramProtection, LockSector, ProgramSecurity}
use Rattle.registers.specs.Data.{pack16, bytes16}
use Rattle.registers.proofs.Data.{length-bytes16, pack16-bytes16, pack64-bytes64}
use Rattle.state.specs.declared.Chip.{Chip}
use Rattle.blocks.specs.Block.{field, flag, flag_byte, buffered_of, plain_of, operation_of, head_of, head_bytes, data_bytes, decode_operation, decode_registers, decode_chip, encode_registers, encode_chip}
use Rattle.blocks.specs.Holds.{Fitting, Holds}
use Rattle.blocks.proofs.Lengths.{length-head_bytes, length-data_bytes}

-- ---- parts that lie one behind the other
joined : List (List ℕ) → List ℕ
joined [] = []
joined (p ∷ ps) = p ++ joined ps

-- from index m on, `xs` is these parts
record Lies (xs : List ℕ) (m : ℕ) (ps : List (List ℕ)) : Type 0 where
  same : drop m xs ≡ joined ps

-- the first of them, a byte of it, and what lies behind it
here : {xs part : List ℕ} {m : ℕ} {ps : List (List ℕ)} (n : ℕ) → length part ≡ n → Lies xs m (part ∷ ps) → field m n xs ≡ part
unfolding joined
here {xs} {part} {m} {ps} n l z = ap (λ (t : List ℕ). take n t) z.same ∙ take_at part (joined ps) n l

byte : {xs part : List ℕ} {m : ℕ} {ps : List (List ℕ)} (k : ℕ) → k < length part → Lies xs m (part ∷ ps) → get_or xs (m + k) 0 ≡ get_or part k 0
unfolding joined
byte {xs} {part} {m} {ps} k h z =
    sym (get_or-drop m xs k 0) ∙ ap (λ (t : List ℕ). get_or t k 0) z.same ∙ get_or-append part (joined ps) 0 k h

past : {xs part : List ℕ} {m : ℕ} {ps : List (List ℕ)} (n : ℕ) → length part ≡ n → Lies xs m (part ∷ ps) → Lies xs (m + n) ps
unfolding joined
past {xs} {part} {m} {ps} n l z =
    record { same = sym (drop-drop n m xs) ∙ ap (λ (t : List ℕ). drop n t) z.same ∙ drop_at part (joined ps) n l }

lies : (c : Chip)
    → Lies (encode_chip c) 0
    (c.registers.protection ∷ c.registers.lockdown ∷ c.registers.user ∷ c.registers.factory
    ∷ head_bytes c.registers (head_of c.registers.operation) ∷ data_bytes c.registers.operation
    ∷ c.buffer1 ∷ c.buffer2 ∷ (flag_byte c.compare ∷ []) ∷ [])
unfolding joined encode_chip encode_registers
lies c = record { same = simp append_assoc }

-- ---- flags and numbers
-- a flag's byte is what `u8::from` makes of it
pub from_flag : (b : Bool) → bool_byte b ≡ flag_byte b
from_flag true = refl
from_flag false = refl

pub flag_back : (b : Bool) → flag (flag_byte b) ≡ b
flag_back true = refl
flag_back false = refl

two_back : (n : ℕ) → n < 65536 → n / 256 % 256 * 256 + n % 256 ≡ n
two_back n h = omega arith

four_back : (n : ℕ) → n < 2 ^ 32 → n / 16777216 % 256 * 16777216 + n / 65536 % 256 * 65536 + n / 256 % 256 * 256 + n % 256 ≡ n
four_back n h = omega (arith, mod-pow-add n 8 24, mod-pow-add n 8 16, mod-pow-add n 8 8, mod-eq_of_lt h)

-- ---- the operation under way
operation_back : (o : Operation) → Fitting o
    → operation_of (head_of o).tag (head_of o).buffer ((head_of o).number / 256 % 256 * 256 + (head_of o).number % 256)
    ((head_of o).sectors / 16777216 % 256 * 16777216 + (head_of o).sectors / 65536 % 256 * 65536 + (head_of o).sectors / 256 % 256 * 256 + (head_of o).sectors % 256)
    (data_bytes o)
    ≡ o
unfolding operation_of plain_of buffered_of head_of data_bytes
operation_back Idle h = refl
operation_back (Program One page) h = ap (Program One) (two_back page h.0)
operation_back (Program Two page) h = ap (Program Two) (two_back page h.0)
operation_back (ProgramOver One page) h = ap (ProgramOver One) (two_back page h.0)
operation_back (ProgramOver Two page) h = ap (ProgramOver Two) (two_back page h.0)
operation_back (Transfer One page) h = ap (Transfer One) (two_back page h.0)
operation_back (Transfer Two page) h = ap (Transfer Two) (two_back page h.0)
operation_back (Compare One page) h = ap (Compare One) (two_back page h.0)
operation_back (Compare Two page) h = ap (Compare Two) (two_back page h.0)
operation_back (Rewrite One page) h = ap (Rewrite One) (two_back page h.0)
operation_back (Rewrite Two page) h = ap (Rewrite Two) (two_back page h.0)
operation_back (ErasePage page) h = ap ErasePage (two_back page h.0)
operation_back (EraseBlock block) h = ap EraseBlock (two_back block h.0)
operation_back (EraseSector s) h = ap EraseSector (two_back s h.0)
operation_back (EraseChip sectors) h = ap EraseChip (four_back sectors h.0)
operation_back EraseProtection h = refl
operation_back (ProgramProtection d) h =
    ap ProgramProtection (ap pack16 (take_at (bytes16 d) (replicate 48 0) 16 (length-bytes16 d)) ∙ pack16-bytes16 d h.1.a h.1.b)
operation_back (LockSector s) h = ap LockSector (two_back s h.0)
operation_back (ProgramSecurity d) h =
    ap ProgramSecurity (pack64-bytes64 d h.1.a h.1.b h.1.c h.1.d h.1.e h.1.f h.1.g h.1.h)

-- ---- the chip
pub decode_encode : (c : Chip) → Holds c → decode_chip (encode_chip c) ≡ c
unfolding decode_chip decode_registers decode_operation head_bytes
decode_encode c h =
    let r = c.registers in
    let o = r.operation in
    let s = h.whole in
    let z0 = lies c in
    let z1 = past 16 s.registers.protection z0 in
    let z2 = past 16 s.registers.lockdown z1 in
    let z3 = past 64 s.registers.user z2 in
    let z4 = past 64 s.registers.factory z3 in
    let z5 = past 12 (length-head_bytes r (head_of o)) z4 in
    let z6 = past 64 (length-data_bytes o) z5 in
    let z7 = past page_room s.buffer1 z6 in
    let z8 = past page_room s.buffer2 z7 in
    let e : decode_operation (encode_chip c) ≡ o =
    (λ i.
    operation_of (byte 4 (lit< tt) z4 i) (byte 5 (lit< tt) z4 i) (byte 6 (lit< tt) z4 i * 256 + byte 7 (lit< tt) z4 i)
    (byte 8 (lit< tt) z4 i * 16777216 + byte 9 (lit< tt) z4 i * 65536 + byte 10 (lit< tt) z4 i * 256 + byte 11 (lit< tt) z4 i)
    (here 64 (length-data_bytes o) z5 i))
    ∙ operation_back o h.operation
    in
    λ i.
    record {
      registers =
          record {
            protection = here 16 s.registers.protection z0 i;
            lockdown = here 16 s.registers.lockdown z1 i;
            user = here 64 s.registers.user z2 i;
            factory = here 64 s.registers.factory z3 i;
            used = (ap flag (byte 0 (lit< tt) z4) ∙ flag_back r.used) i;
            protect = (ap flag (byte 1 (lit< tt) z4) ∙ flag_back r.protect) i;
            wp = (ap flag (byte 2 (lit< tt) z4) ∙ flag_back r.wp) i;
            deep = (ap flag (byte 3 (lit< tt) z4) ∙ flag_back r.deep) i;
            operation = e i;
          };
      buffer1 = here page_room s.buffer1 z6 i;
      buffer2 = here page_room s.buffer2 z7 i;
      compare = (ap flag (byte 0 (lit< tt) z8) ∙ flag_back c.compare) i;
    }

pub encode_decode_encode : (c : Chip) → Holds c → encode_chip (decode_chip (encode_chip c)) ≡ encode_chip c
encode_decode_encode c h = ap encode_chip (decode_encode c h)
