-- The driver's C functions on a block of 72 bytes, one after another: a start, then a frame and a reply in turn, to the end.
-- Assumes nothing.
use Rattle.std.specs.Prelude.{ℕ, zero, suc, ◌+◌, ◌≤◌, ◌≡◌, true, false, cond, List, [], ◌∷◌, ◌++◌, ◌⊎◌, length, eqb}
use Rattle.geometry.specs.declared.Geometry.{Geometry}
use Rattle.slots.specs.Calls.{outline}
use Rattle.slots.specs.Exchanges.{Exchange, miscompared}
use Rattle.worlds.specs.Step.{frame_in, poll_in, took_in, staged_in, told_in}
use Rattle.worlds.specs.Chains.{heard_in}
use Rattle.driver_blocks.specs.Block.{told_number, decode_driver, encode_driver}
use Rattle.chains.specs.Chains.{DataNumber}

-- (14.28) the block, the bytes read so far, the outlines of the frames that slipknoll_driver_frame and _next gave, how many frames and how many polls
pub record Held : Type 0 where
  pub block : List ℕ
  pub staged : List ℕ
  pub lines : List ℕ
  pub frames : ℕ
  pub polls : ℕ

-- Aid: nothing is sent yet
abbrev pub begun : List ℕ → List ℕ → Held
begun block staged = record { block = block; staged = staged; lines = []; frames = 0; polls = 0 }

-- Aid: the frame that there is to send; [] at the end
abbrev pub sends : List ℕ → Held → List ℕ
sends payload z = frame_in (decode_driver z.block) payload z.staged

-- (14.28) it is sent, and reply number `frames` handed to slipknoll_driver_next; after the end nothing
unfoldable pub linked : List ℕ → (ℕ → List ℕ) → Held → Held
linked payload replies z =
    cond (eqb (length (sends payload z)) 0) z
    (record {
      block = encode_driver (took_in (decode_driver z.block) payload z.staged (replies z.frames));
      staged = staged_in (decode_driver z.block) payload z.staged (replies z.frames);
      lines = z.lines ++ outline (sends payload z);
      frames = z.frames + 1;
      polls = z.polls + cond (poll_in (decode_driver z.block)) 1 0;
    })

-- (14.28) n of them
unfoldable pub chain : ℕ → List ℕ → (ℕ → List ℕ) → Held → Held
chain zero payload replies z = z
chain (suc n) payload replies z = chain n payload replies (linked payload replies z)

-- (14.29) the exchanges of these; nothing cuts a call here
unfoldable pub exchanged : ℕ → List ℕ → (ℕ → List ℕ) → Held → List Exchange
exchanged zero payload replies z = []
exchanged (suc n) payload replies z =
    cond (eqb (length (sends payload z)) 0) []
    (record { frame = sends payload z; reply = replies z.frames; byte = 1 } ∷ exchanged n payload replies (linked payload replies z))

-- (14.29) a number that is told, 16 exactly if it is none of 8 to 13 and a wait after a 60 ended on a status with bit 6 set
pub record ExactlyTold (es : List Exchange) (n : ℕ) : Type 0 where
  pub only : n ≡ 16 → miscompared false es ≡ true
  pub due : miscompared false es ≡ true → ((8 ≤ n) × (n ≤ 13)) ⊎ (n ≡ 16)

-- Aid: what slipknoll_driver_answer tells
abbrev pub told_of : Held → ℕ
told_of z = told_number (told_in (decode_driver z.block))

-- (14.28) the replies of two worlds agree in what is heard of each of the next n frames; frame by frame, as the first world has them
abbrev pub Agree : ℕ → Geometry → List ℕ → (replies others : ℕ → List ℕ) → Held → Type 0
Agree zero g payload replies others z = Unit {0}
Agree (suc n) g payload replies others z =
    (eqb (length (sends payload z)) 0 ≡ false → heard_in g (decode_driver z.block) (replies z.frames) ≡ heard_in g (decode_driver z.block) (others z.frames))
    × Agree n g payload replies others (linked payload replies z)

-- (14.28) what is the same of both: the frames' outlines, their number, the polls, and what is told (0, 12, 13, 15 and 16 as one)
pub record Same (y z : Held) : Type 0 where
  pub lines : y.lines ≡ z.lines
  pub frames : y.frames ≡ z.frames
  pub polls : y.polls ≡ z.polls
  pub answer : (told_of y ≡ told_of z) ⊎ (DataNumber (told_of y) × DataNumber (told_of z))
