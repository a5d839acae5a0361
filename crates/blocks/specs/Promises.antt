-- What the functions of the C interface leave in the record block: the new chip where the call was accepted, else the block as it
-- was, byte for byte.
-- Assumes nothing.
use Rattle.std.specs.Prelude.{ℕ, ◌≡◌, Bool, cond, List, set, eqb}
use Rattle.state.specs.declared.Answer.{Answer}
use Rattle.state.specs.declared.Chip.{Chip}
use Rattle.state.specs.Answers.{number_of}
use Rattle.state.specs.Memory.{State, state_of, chip_in}
use Rattle.state.specs.Outcomes.{Left, pin_outcome}
use Rattle.blocks.specs.Block.{decode_chip, encode_chip, flag_byte}

-- (13.10) the state that block and array hold
abbrev pub held_in : List ℕ → List ℕ → State
held_in block xs = state_of (decode_chip block) xs

-- Aid: the answer's number
abbrev pub answered : Left → ℕ
answered o = number_of o.answer

-- (13.7) the block at exit: under answer 0 it holds the chip
unfoldable pub stored_by : List ℕ → Answer → Chip → List ℕ
stored_by held a c = cond (eqb (number_of a) 0) (encode_chip c) held

-- (13.7) of what an entry point leaves
abbrev pub stored_in : List ℕ → Left → List ℕ
stored_in held o = stored_by held o.answer (chip_in o.state)

-- (13.7) a function of the C interface on the block `held`, whose entry point leaves o: its result r, and block, array and reply at exit
-- (13.10) the block reads back as the chip that is left
pub record Met (held : List ℕ) (o : Left) (r : ℕ) (kept xs ys : List ℕ) : Type 0 where
  pub answer : r ≡ answered o
  pub block : kept ≡ stored_in held o
  pub array : xs ≡ o.state.memory.array
  pub reply : ys ≡ o.reply
  pub holds : held_in kept xs ≡ o.state

-- (13.7) the same of a fresh chip, which is none where the array is refused
pub record MetFresh (held : List ℕ) (o : Left) (r : ℕ) (kept xs : List ℕ) : Type 0 where
  pub answer : r ≡ answered o
  pub block : kept ≡ stored_in held o
  pub array : xs ≡ o.state.memory.array
  pub holds : r ≡ 0 → held_in kept xs ≡ o.state

-- ---- a pin move

-- (13.8) the WP byte, and no other
unfoldable pub pin_moved : List ℕ → Bool → List ℕ
pin_moved block high = set block 162 (flag_byte high)

-- (13.8) answer 0, and the chip with WP at its new level
pub record MetPin (held : List ℕ) (high : Bool) (r : ℕ) (kept : List ℕ) : Type 0 where
  pub answer : r ≡ 0
  pub block : kept ≡ pin_moved held high
  pub holds : (xs : List ℕ) → held_in kept xs ≡ (pin_outcome high (held_in held xs)).state
