-- What a call and a sum show.
-- Assumes nothing.
use Rattle.std.specs.Prelude.{ℕ, zero, suc, ◌*◌, ◌/◌, min, List, [], ◌++◌, length, take, drop}
use Rattle.std.specs.Int.Bits.{bit_xor}
use Rattle.checksum.specs.Checksum.{crc_of}
use Rattle.lines.specs.Texts.{frame_text, totals_text, sum_text}

-- a line for each of the first n frames of the log, six bytes a frame
unfoldable pub frames_text : ℕ → List ℕ → List ℕ
frames_text zero log = []
frames_text (suc n) log = frames_text n log ++ frame_text (take 6 (drop (6 * n) log))

-- a call's frames, as far as the log has them, and its totals
unfoldable pub call_text : List ℕ → ℕ → ℕ → ℕ → List ℕ
call_text log frames polls answer = frames_text (min frames (length log / 6)) log ++ totals_text frames polls answer

-- CRC-32, initial and final FFFFFFFFh
unfoldable pub checksum : List ℕ → ℕ
checksum xs = bit_xor (crc_of 0xFFFF_FFFF xs) 0xFFFF_FFFF

-- the sum: of the record block followed by the array, of the lent log, of the lent get buffer or reply; and n
unfoldable pub sum_line : List ℕ → List ℕ → List ℕ → List ℕ → ℕ → List ℕ
sum_line block array log given n = sum_text (checksum (block ++ array)) (checksum log) (checksum given) n
