-- What the program holds between lines.
-- Assumes nothing.
use Rattle.std.specs.Prelude.{ℕ, ◌+◌, min, List, [], take, replicate}
use Rattle.state.specs.Outcomes.{Left, fresh_outcome}
use Rattle.state.specs.Memory.{chip_in}
use Rattle.blocks.specs.Block.{encode_chip}
use Rattle.word_values.specs.Values.{first_length, parts}
use Rattle.operands.specs.Bounds.{Among}
use Rattle.obeying.specs.declared.Session.{Session}
use Rattle.obeying.specs.declared.Room.{Room}

-- the record block and the chip's array; of the last step the lent log, the lent get buffer or reply, and n of a get; how many lines there were
pub record Desk : Type 0 where
  pub block : List ℕ
  pub array : List ℕ
  pub log : List ℕ
  pub out : List ℕ
  pub given : ℕ
  pub lines : ℕ

-- Aid: the desk that a session and its buffers hold: the first bytes of each
abbrev pub desk_of : Session → (block array log out : List ℕ) → Desk
desk_of s block array log out =
    record {
      block = block;
      array = take s.size array;
      log = take s.log log;
      out = take s.out out;
      given = s.given;
      lines = s.lines;
    }

-- Aid: the same of a session and the program's room
abbrev pub desk_in : Session → Room → Desk
desk_in s r = desk_of s r.block r.array r.log r.out

-- a line more; they are counted up to 2^64 - 1
unfoldable pub counted : Desk → Desk
counted d =
    record {
      block = d.block;
      array = d.array;
      log = d.log;
      out = d.out;
      given = d.given;
      lines = min (d.lines + 1) 0xFFFF_FFFF_FFFF_FFFF;
    }

-- ---- a fresh part

-- Aid: n bytes are the array of a part that a line can bring
abbrev pub Whole : ℕ → Type 0
Whole n = Among n parts

-- of n bytes, with factory bytes 0
unfoldable pub fresh_part : ℕ → Left
fresh_part n = fresh_outcome (replicate 64 0) (replicate n 0)

-- the chip is fresh, and nothing was lent
unfoldable pub renewed : ℕ → Desk → Desk
renewed n d =
    record {
      block = encode_chip (chip_in (fresh_part n).state);
      array = (fresh_part n).state.memory.array;
      log = [];
      out = [];
      given = 0;
      lines = d.lines;
    }

-- before the first line: a fresh short part
unfoldable pub begun : Desk
begun = renewed first_length (record { block = []; array = []; log = []; out = []; given = 0; lines = 0 })
