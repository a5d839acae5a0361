-- The bench table: addresses, sectors, status, pages, records, answers, frames, and the program's example; then the same of pages of 256 bytes.
-- Assumes nothing.
use Rattle.std.specs.Prelude.{ℕ, ◌+◌, ◌≡◌, true, false, List, [], ◌∷◌, ◌++◌, length, take, drop, replicate, Some}
use Rattle.dates.specs.declared.Date.{Date}
use Rattle.dates.specs.declared.Term.TheVariants.{Unlimited, Between}
use Rattle.dates.specs.Calendar.{date}
use Rattle.geometry.specs.declared.Geometry.{Geometry}
use Rattle.geometry.specs.Parts.{row, part_of, address_at, page_at, byte_at}
use Rattle.geometry.specs.Sectors.{sector_of}
use Rattle.commands.specs.declared.Buffer.TheVariants.{One}
use Rattle.registers.specs.declared.Operation.TheVariants.{Idle, Program}
use Rattle.state.specs.Memory.{State}
use Rattle.slots.specs.Calls.{Out}
use Rattle.slots.specs.Lists.{Op, put, patch, get, wipe, straight, busy_end, out_of, next_of, left_by}
use Rattle.bench.specs.Start.{fresh_short, fresh_short256, log, answers}

-- the reply to a frame sent straight
abbrev pub reply_to : List ℕ → State → List ℕ
reply_to f s = (out_of (straight f (replicate (length f) 0)) s).lent

-- the state after a frame sent straight
abbrev pub sent : List ℕ → State → State
sent f s = next_of (straight f (replicate (length f) 0)) s

abbrev pub status : List ℕ
status = 0xD7 ∷ 0x00 ∷ []

abbrev pub lent_buffer : List ℕ
lent_buffer = replicate 2109 0

-- a put of a recipe into slot 0 of a fresh part, poll limit 1, empty script
abbrev pub put_fresh : List ℕ → Op
put_fresh recipe = put 0 1 Unlimited [] recipe [] log

-- the same with a term
abbrev pub put_term : Date → Date → List ℕ → Op
put_term first last recipe = put 0 1 (Between first last) [] recipe [] log

-- a get of slot 0 on a day
abbrev pub get_on : Date → Op
get_on today = get 0 1 today [] [] log lent_buffer

-- the first n bytes of the array afterwards
abbrev pub stored_on : State → ℕ → List ℕ → List ℕ
stored_on s n recipe = take n (next_of (put_fresh recipe) s).memory.array

-- slot 0 of a fresh part with pages of 264 bytes
abbrev pub stored : List ℕ → List ℕ
stored recipe = stored_on fresh_short 2112 recipe

-- a frame sent straight, as a list's element
abbrev pub sending : List ℕ → Op
sending f = straight f (replicate (length f) 0)

-- a 60 of page 0 of a fresh part, whose page and buffer differ, to its end
abbrev pub compared : List Op
compared = sending (0x60 ∷ 0x00 ∷ 0x00 ∷ 0x00 ∷ []) ∷ busy_end ∷ []

-- page 0's first byte becomes F0h by 84 and 83, then 88 with 3Ch in the buffer
abbrev pub over_f0 : List Op
over_f0 =
    sending (0x84 ∷ 0x00 ∷ 0x00 ∷ 0x00 ∷ 0xF0 ∷ []) ∷ sending (0x83 ∷ 0x00 ∷ 0x00 ∷ 0x00 ∷ []) ∷ busy_end
    ∷ sending (0x84 ∷ 0x00 ∷ 0x00 ∷ 0x00 ∷ 0x3C ∷ []) ∷ sending (0x88 ∷ 0x00 ∷ 0x00 ∷ 0x00 ∷ []) ∷ busy_end ∷ []

-- frames and polls
abbrev pub counts : Out → List ℕ
counts o = o.frames ∷ o.polls ∷ []

-- the parts of 4,096 pages
abbrev pub full : Geometry
full = row 264 4096 512 false

abbrev pub full256 : Geometry
full256 = row 256 4096 256 true

-- the address behind an opcode
abbrev pub address_in : List ℕ → ℕ
address_in f = address_at f 1

-- `wipe 2`, empty script, B 1
abbrev pub wipe_two : Op
wipe_two = wipe 2 1 [] [] log

-- addresses, sectors, status, and a page programmed over
pub record Chip : Type 0 where
  -- addresses: 83 00 0A 00 names page 5, as the chip takes it; 1F FE 00 and FF FE 00 name 4,095 of 4,096
  pub page_5 : (sent (0x83 ∷ 0x00 ∷ 0x0A ∷ 0x00 ∷ []) fresh_short).registers.operation ≡ Program One 5
  pub part-full : part_of 1081344 ≡ Some full
  pub page_last : page_at full (address_in (0x83 ∷ 0x1F ∷ 0xFE ∷ 0x00 ∷ [])) ≡ 4095
  pub page_high : page_at full (address_in (0x83 ∷ 0xFF ∷ 0xFE ∷ 0x00 ∷ [])) ≡ 4095
  -- byte field 263 is byte 263, 264 is byte 0
  pub byte_263 : byte_at full (address_in (0x84 ∷ 0x00 ∷ 0x01 ∷ 0x07 ∷ [])) ≡ 263
  pub byte_264 : byte_at full (address_in (0x84 ∷ 0x00 ∷ 0x01 ∷ 0x08 ∷ [])) ≡ 0
  -- pages 7, 8, 255, 256 lie in 0a, 0b, 0b, 1, which are numbered 0, 1, 1, 2
  pub sector_7 : sector_of full 7 ≡ 0
  pub sector_8 : sector_of full 8 ≡ 1
  pub sector_255 : sector_of full 255 ≡ 1
  pub sector_256 : sector_of full 256 ≡ 2
  -- status: fresh, mark set, busy
  pub status_fresh : reply_to status fresh_short ≡ 0xFF ∷ 0xA4 ∷ []
  pub status-guarded : reply_to status (sent (0x3D ∷ 0x2A ∷ 0x7F ∷ 0xA9 ∷ []) fresh_short) ≡ 0xFF ∷ 0xA6 ∷ []
  pub status-busy : reply_to status (sent (0x83 ∷ 0x00 ∷ 0x0A ∷ 0x00 ∷ []) fresh_short) ≡ 0xFF ∷ 0x24 ∷ []
  -- 88 over F0h with 3Ch gives 30h
  pub over : reply_to (0xD2 ∷ replicate 8 0x00) (left_by over_f0 fresh_short) ≡ replicate 8 0xFF ++ 0x30 ∷ []

-- what a put stores, and the answers of put and get
pub record Records : Type 0 where
  -- records: of two bytes, of none, of the longest; 2,110 bytes meet 5
  pub two_bytes : stored (0x41 ∷ 0x42 ∷ []) ≡ 0x01 ∷ 0x00 ∷ 0x02 ∷ 0x41 ∷ 0x42 ∷ replicate 2107 0
  pub no_byte : stored [] ≡ 0x01 ∷ 0x00 ∷ 0x00 ∷ replicate 2109 0
  pub longest : take 3 (stored (replicate 2109 7)) ≡ 0x01 ∷ 0x08 ∷ 0x3D ∷ []
  pub too_long : answers (put_fresh (replicate 2110 7) ∷ []) fresh_short ≡ 5 ∷ []
  -- a get of a fresh slot meets 12
  pub blank : answers (get 0 1 (date 2000 1 1) [] [] log lent_buffer ∷ []) fresh_short ≡ 12 ∷ []
  -- a record with a term: version 2, the body's length, days 0 and 73,048, the body; 2,102 bytes meet 5
  pub termed : take 14 (next_of (put_term (date 2000 1 1) (date 2199 12 31) (0x41 ∷ 0x42 ∷ [])) fresh_short).memory.array
      ≡ 0x02 ∷ 0x00 ∷ 0x02 ∷ 0x00 ∷ 0x00 ∷ 0x00 ∷ 0x00 ∷ 0x00 ∷ 0x01 ∷ 0x1D ∷ 0x58 ∷ 0x41 ∷ 0x42 ∷ 0x00 ∷ []
  pub termed_too_long : answers (put_term (date 2000 1 1) (date 2199 12 31) (replicate 2102 7) ∷ []) fresh_short ≡ 5 ∷ []
  -- the day before the first meets 15, the first and the last day do not, the day after the last does
  pub inside : answers (put_term (date 2027 5 1) (date 2027 5 31) (0x41 ∷ []) ∷ get_on (date 2027 4 30) ∷ get_on (date 2027 5 1) ∷ get_on (date 2027 5 31) ∷ get_on (date 2027 6 1) ∷ []) fresh_short
      ≡ 0 ∷ 15 ∷ 0 ∷ 0 ∷ 15 ∷ []
  -- 29 February is a day of 2096 and none of 2100; 1999 and 2200 are outside; a first day after the last is no term
  pub dates : answers (get_on (date 2096 2 29) ∷ get_on (date 2100 2 29) ∷ get_on (date 1999 12 31) ∷ get_on (date 2200 1 1) ∷ put_term (date 2027 6 1) (date 2027 5 31) [] ∷ []) fresh_short
      ≡ 12 ∷ 14 ∷ 14 ∷ 14 ∷ 14 ∷ []

-- frames, polls and log lines, and the program's example
pub record Frames : Type 0 where
  -- frames and polls with an empty script
  pub put-counts : counts (out_of (put_fresh (0x41 ∷ [])) fresh_short) ≡ 43 ∷ 17 ∷ []
  pub patch-counts : counts (out_of (patch 0 1 0 [] (0x41 ∷ []) [] log) fresh_short) ≡ 51 ∷ 17 ∷ []
  pub get-frames : (out_of (get 0 1 (date 2000 1 1) [] [] log lent_buffer) fresh_short).frames ≡ 9
  pub wipe-frames : (out_of wipe_two fresh_short).frames ≡ 5
  -- of a put's second page: 84, 83, a wait, 60 with the page's address, a wait
  pub put_page_lem : take 30 (drop 48 (out_of (put_fresh (0x41 ∷ [])) fresh_short).lines)
      ≡ 1 ∷ 12 ∷ 0x84 ∷ 0x00 ∷ 0x00 ∷ 0x00 ∷ 0 ∷ 4 ∷ 0x83 ∷ 0x00 ∷ 0x02 ∷ 0x00 ∷ 0 ∷ 2 ∷ 0xD7 ∷ 0x00 ∷ 0xFF ∷ 0xFF
      ∷ 0 ∷ 4 ∷ 0x60 ∷ 0x00 ∷ 0x02 ∷ 0x00 ∷ 0 ∷ 2 ∷ 0xD7 ∷ 0x00 ∷ 0xFF ∷ 0xFF ∷ []
  -- a compare bit of 1 before the put, by a 60 of the caller's, does not lead to 16
  pub compare-set : reply_to status (left_by compared fresh_short) ≡ 0xFF ∷ 0xE4 ∷ []
  pub compare_old : answers (put_fresh (0x41 ∷ []) ∷ []) (left_by compared fresh_short) ≡ 0 ∷ []
  -- the program's example: its lines, its polls, its answer
  pub wipe-lines : (out_of wipe_two fresh_short).lines
      ≡ 0 ∷ 2 ∷ 0xD7 ∷ 0x00 ∷ 0xFF ∷ 0xFF ∷ 0 ∷ 20 ∷ 0x32 ∷ 0x00 ∷ 0x00 ∷ 0x00 ∷ 0 ∷ 20 ∷ 0x35 ∷ 0x00 ∷ 0x00 ∷ 0x00
      ∷ 0 ∷ 4 ∷ 0x50 ∷ 0x00 ∷ 0x20 ∷ 0x00 ∷ 0 ∷ 2 ∷ 0xD7 ∷ 0x00 ∷ 0xFF ∷ 0xFF ∷ []
  pub wipe-polls : (out_of wipe_two fresh_short).polls ≡ 2
  pub wipe-answer : answers (wipe_two ∷ []) fresh_short ≡ 0 ∷ []

-- the same of pages of 256 bytes
pub record Binary : Type 0 where
  -- pages of 256 bytes: 83 00 05 00 names page 5; 0F FF 00 and FF FF 00 name 4,095 of 4,096
  pub page_5_of_256 : (sent (0x83 ∷ 0x00 ∷ 0x05 ∷ 0x00 ∷ []) fresh_short256).registers.operation ≡ Program One 5
  pub part-full_256 : part_of 1048576 ≡ Some full256
  pub page_last_256 : page_at full256 (address_in (0x83 ∷ 0x0F ∷ 0xFF ∷ 0x00 ∷ [])) ≡ 4095
  pub page_high_256 : page_at full256 (address_in (0x83 ∷ 0xFF ∷ 0xFF ∷ 0x00 ∷ [])) ≡ 4095
  -- byte field 255 is byte 255 of page 0; the next number names page 1
  pub byte_255 : byte_at full256 (address_in (0x84 ∷ 0x00 ∷ 0x00 ∷ 0xFF ∷ [])) ≡ 255
  pub page_of_255 : page_at full256 (address_in (0x84 ∷ 0x00 ∷ 0x00 ∷ 0xFF ∷ [])) ≡ 0
  pub page_of_256 : page_at full256 (address_in (0x84 ∷ 0x00 ∷ 0x01 ∷ 0x00 ∷ [])) ≡ 1
  pub sector_255_of_256 : sector_of full256 255 ≡ 1
  pub sector_256_of_256 : sector_of full256 256 ≡ 2
  -- status: fresh, mark set, busy
  pub status_fresh_256 : reply_to status fresh_short256 ≡ 0xFF ∷ 0xA5 ∷ []
  pub status-guarded_256 : reply_to status (sent (0x3D ∷ 0x2A ∷ 0x7F ∷ 0xA9 ∷ []) fresh_short256) ≡ 0xFF ∷ 0xA7 ∷ []
  pub status-busy_256 : reply_to status (sent (0x83 ∷ 0x00 ∷ 0x05 ∷ 0x00 ∷ []) fresh_short256) ≡ 0xFF ∷ 0x25 ∷ []
  -- the command that would set the page size is ignored
  pub preset : (sent (0x3D ∷ 0x2A ∷ 0x80 ∷ 0xA6 ∷ []) fresh_short256).registers.operation ≡ Idle
  -- records: of none, of the longest; 2,046 bytes meet 5
  pub no_byte_256 : stored_on fresh_short256 2048 [] ≡ 0x01 ∷ 0x00 ∷ 0x00 ∷ replicate 2045 0
  pub longest_256 : stored_on fresh_short256 3 (replicate 2045 7) ≡ 0x01 ∷ 0x07 ∷ 0xFD ∷ []
  pub too_long_256 : answers (put_fresh (replicate 2046 7) ∷ []) fresh_short256 ≡ 5 ∷ []
  -- a get buffer of 2,044 bytes meets 5; one of 2,045 does not, and the fresh slot meets 12
  pub short-buffer_256 : answers (get 0 1 (date 2000 1 1) [] [] log (replicate 2044 0) ∷ []) fresh_short256 ≡ 5 ∷ []
  pub blank_256 : answers (get 0 1 (date 2000 1 1) [] [] log (replicate 2045 0) ∷ []) fresh_short256 ≡ 12 ∷ []
  -- frames with an empty script: as many, an 84 of 260 bytes, a D2 of 264 at the slot's address, 2,048 times its number
  pub put-frames_256 : (out_of (put_fresh (0x41 ∷ [])) fresh_short256).frames ≡ 43
  pub load_256 : take 6 (drop 18 (out_of (put_fresh (0x41 ∷ [])) fresh_short256).lines) ≡ 1 ∷ 4 ∷ 0x84 ∷ 0x00 ∷ 0x00 ∷ 0x00 ∷ []
  pub read_256 : take 6 (drop 6 (out_of (get 2 1 (date 2000 1 1) [] [] log (replicate 2045 0)) fresh_short256).lines) ≡ 1 ∷ 8 ∷ 0xD2 ∷ 0x00 ∷ 0x10 ∷ 0x00 ∷ []
  pub erase_256 : take 6 (drop 18 (out_of wipe_two fresh_short256).lines) ≡ 0 ∷ 4 ∷ 0x50 ∷ 0x00 ∷ 0x10 ∷ 0x00 ∷ []

-- the whole table
pub record Bench : Type 0 where
  pub chip : Chip
  pub records : Records
  pub frames : Frames
  pub binary : Binary
