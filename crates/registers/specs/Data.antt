-- The data of an FC (16 bytes) and of a 9B (64 bytes).
-- Assumes nothing.
use Rattle.std.specs.Prelude.{ℕ, List, ◌++◌, replicate}
use Rattle.slices.specs.Lists.{ring_write}
use Rattle.slices.specs.Words.{word_at, word_bytes}
use Rattle.registers.specs.declared.Data16.{Data16}
use Rattle.registers.specs.declared.Data64.{Data64}

-- (6.9) the n bytes of data that a frame's bytes make: they wrap at n, the later byte for a place stays, and a place that got none has FFh
unfoldable pub padded : ℕ → List ℕ → List ℕ
padded n bytes = ring_write n 0 bytes (replicate n 255)

-- ---- Aid: the data as the operation under way holds them, in 64-bit words, first byte highest

unfoldable pub pack16 : List ℕ → Data16
pack16 l = record { a = word_at l 0; b = word_at l 8 }

unfoldable pub bytes16 : Data16 → List ℕ
bytes16 d = word_bytes d.a ++ word_bytes d.b

unfoldable pub pack64 : List ℕ → Data64
pack64 l =
    record {
      a = word_at l 0;
      b = word_at l 8;
      c = word_at l 16;
      d = word_at l 24;
      e = word_at l 32;
      f = word_at l 40;
      g = word_at l 48;
      h = word_at l 56;
    }

unfoldable pub bytes64 : Data64 → List ℕ
bytes64 d =
    word_bytes d.a ++ word_bytes d.b ++ word_bytes d.c ++ word_bytes d.d ++
    word_bytes d.e ++ word_bytes d.f ++ word_bytes d.g ++ word_bytes d.h
