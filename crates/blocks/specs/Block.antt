-- The record block of the C interface: 765 bytes that hold a chip record. `decode_chip` reads a block of any content, `encode_chip`
-- writes one. Offsets: protection 0, lockdown 16, user 32, factory 96, then at 160 used, protect mark, WP high, deep, at 164
-- operation tag, buffer, number (2), at 168 sector set (4), data 172, buffer 1 236, buffer 2 500, compare bit 764.
-- Assumes nothing.
use Rattle.std.specs.Prelude.{ℕ, ◌+◌, ◌*◌, ◌/◌, ◌%◌, Bool, cond, not, List, [], ◌∷◌, ◌++◌, get_or, take, drop, replicate, eqb}
use Rattle.commands.specs.declared.Buffer.{Buffer}
use Rattle.commands.specs.declared.Buffer.TheVariants.{One, Two}
use Rattle.registers.specs.declared.Operation.{Operation}
use Rattle.registers.specs.declared.Operation.TheVariants.{Idle, Program, ProgramOver, Transfer, Compare, Rewrite, ErasePage, EraseBlock, EraseSector, EraseChip, EraseProtection, ProgramProtection, LockSector, ProgramSecurity}
use Rattle.registers.specs.declared.Registers.{Registers}
use Rattle.registers.specs.declared.Update.{Update}
use Rattle.registers.specs.declared.Update.TheVariants.{Keep, FillProtection, MaskProtection, Lock, WriteUser}
use Rattle.registers.specs.Facts.{update_of}
use Rattle.registers.specs.Data.{pack16, pack64, bytes16, bytes64}
use Rattle.state.specs.declared.Chip.{Chip}
use Rattle.state.specs.Memory.{buffer_size}
use Rattle.blocks.specs.declared.Heading.{Heading}

-- (13.1) n bytes from index a on
abbrev pub field : ℕ → ℕ → List ℕ → List ℕ
field a n block = take n (drop a block)

-- (13.2) 0 is off, any other byte on
abbrev pub flag : ℕ → Bool
flag x = not (eqb x 0)

-- (13.2) written as 0 or 1
abbrev pub flag_byte : Bool → ℕ
flag_byte b = cond b 1 0

-- ---- the operation under way: tag, buffer, number, sector set, data

-- (13.5) an operation beyond every part: what a tag that is none, or a buffer that the tag does not fit, reads as (answer 1)
abbrev pub beyond : Operation
beyond = ErasePage 65535

-- (13.4) the operation of a tag that goes with a buffer
unfoldable pub buffered_of : ℕ → Buffer → ℕ → Operation
buffered_of tag b n =
    cond (eqb tag 0x83) (Program b n)
    (cond (eqb tag 0x88) (ProgramOver b n)
    (cond (eqb tag 0x53) (Transfer b n)
    (cond (eqb tag 0x60) (Compare b n)
    (cond (eqb tag 0x58) (Rewrite b n)
    beyond))))

-- (13.4) the operation of a tag that goes with none; the sector set, and the 64 data bytes
unfoldable pub plain_of : ℕ → ℕ → ℕ → List ℕ → Operation
plain_of tag n sectors bytes =
    cond (eqb tag 0x00) Idle
    (cond (eqb tag 0x81) (ErasePage n)
    (cond (eqb tag 0x50) (EraseBlock n)
    (cond (eqb tag 0x7C) (EraseSector n)
    (cond (eqb tag 0xC7) (EraseChip sectors)
    (cond (eqb tag 0xCF) EraseProtection
    (cond (eqb tag 0xFC) (ProgramProtection (pack16 (take 16 bytes)))
    (cond (eqb tag 0x30) (LockSector n)
    (cond (eqb tag 0x9B) (ProgramSecurity (pack64 bytes))
    beyond))))))))

-- (13.4) the operation of tag, buffer, number, sector set and data
unfoldable pub operation_of : ℕ → ℕ → ℕ → ℕ → List ℕ → Operation
operation_of tag buffer n sectors bytes =
    cond (eqb buffer 0) (plain_of tag n sectors bytes)
    (cond (eqb buffer 1) (buffered_of tag One n)
    (cond (eqb buffer 2) (buffered_of tag Two n)
    beyond))

-- Aid: tag, buffer, number and sector set
abbrev pub head : ℕ → ℕ → ℕ → ℕ → Heading
head tag buffer n sectors = record { tag = tag; buffer = buffer; number = n; sectors = sectors }

-- (13.4) 1 or 2
abbrev pub buffer_number : Buffer → ℕ
buffer_number One = 1
buffer_number Two = 2

-- (13.4) tag, buffer, number and sector set of an operation
-- (13.6) zero where it has none
unfoldable pub head_of : Operation → Heading
head_of Idle = head 0x00 0 0 0
head_of (Program b page) = head 0x83 (buffer_number b) page 0
head_of (ProgramOver b page) = head 0x88 (buffer_number b) page 0
head_of (Transfer b page) = head 0x53 (buffer_number b) page 0
head_of (Compare b page) = head 0x60 (buffer_number b) page 0
head_of (Rewrite b page) = head 0x58 (buffer_number b) page 0
head_of (ErasePage page) = head 0x81 0 page 0
head_of (EraseBlock block) = head 0x50 0 block 0
head_of (EraseSector s) = head 0x7C 0 s 0
head_of (EraseChip sectors) = head 0xC7 0 0 sectors
head_of EraseProtection = head 0xCF 0 0 0
head_of (ProgramProtection d) = head 0xFC 0 0 0
head_of (LockSector s) = head 0x30 0 s 0
head_of (ProgramSecurity d) = head 0x9B 0 0 0

-- (13.6) the 64 data bytes: those of an FC (16) or a 9B, zeros elsewhere
abbrev pub bytes_held : Update → List ℕ
bytes_held Keep = replicate 64 0
bytes_held FillProtection = replicate 64 0
bytes_held (MaskProtection d) = bytes16 d ++ replicate 48 0
bytes_held (Lock s) = replicate 64 0
bytes_held (WriteUser d) = bytes64 d

-- (13.6) of an operation
unfoldable pub data_bytes : Operation → List ℕ
data_bytes o = bytes_held (update_of o)

-- ---- the block

-- (13.3) page, block or sector
abbrev pub number_in : List ℕ → ℕ
number_in block = get_or block 166 0 * 256 + get_or block 167 0

-- (13.3) the sector set: bit i is sector i
abbrev pub sectors_in : List ℕ → ℕ
sectors_in block = get_or block 168 0 * 16777216 + get_or block 169 0 * 65536 + get_or block 170 0 * 256 + get_or block 171 0

-- (13.4) the operation that a block holds
unfoldable pub decode_operation : List ℕ → Operation
decode_operation block = operation_of (get_or block 164 0) (get_or block 165 0) (number_in block) (sectors_in block) (field 172 64 block)

-- (13.1) the registers that a block holds
unfoldable pub decode_registers : List ℕ → Registers
decode_registers block =
    record {
      protection = field 0 16 block;
      lockdown = field 16 16 block;
      user = field 32 64 block;
      factory = field 96 64 block;
      used = flag (get_or block 160 0);
      protect = flag (get_or block 161 0);
      wp = flag (get_or block 162 0);
      deep = flag (get_or block 163 0);
      operation = decode_operation block;
    }

-- (13.1) the chip that a block holds
unfoldable pub decode_chip : List ℕ → Chip
decode_chip block =
    record { registers = decode_registers block; buffer1 = field 236 buffer_size block; buffer2 = field 500 buffer_size block; compare = flag (get_or block 764 0) }

-- (13.1) the twelve bytes from 160 on
unfoldable pub head_bytes : Registers → Heading → List ℕ
head_bytes r h =
    flag_byte r.used ∷ flag_byte r.protect ∷ flag_byte r.wp ∷ flag_byte r.deep ∷
    h.tag ∷ h.buffer ∷ h.number / 256 % 256 ∷ h.number % 256 ∷
    h.sectors / 16777216 % 256 ∷ h.sectors / 65536 % 256 ∷ h.sectors / 256 % 256 ∷ h.sectors % 256 ∷ []

-- (13.1) the block up to the buffers
unfoldable pub encode_registers : Registers → List ℕ
encode_registers r =
    r.protection ++ (r.lockdown ++ (r.user ++ (r.factory ++ (head_bytes r (head_of r.operation) ++ data_bytes r.operation))))

-- (13.1) the whole block
unfoldable pub encode_chip : Chip → List ℕ
encode_chip c = encode_registers c.registers ++ (c.buffer1 ++ (c.buffer2 ++ (flag_byte c.compare ∷ [])))

-- ---- Aid: registers with these marks, to give the twelve bytes their four flags

abbrev pub flagged : Bool → Bool → Bool → Bool → Registers
flagged used protect wp deep =
    record {
      protection = [];
      lockdown = [];
      user = [];
      factory = [];
      used = used;
      protect = protect;
      wp = wp;
      deep = deep;
      operation = Idle;
    }
