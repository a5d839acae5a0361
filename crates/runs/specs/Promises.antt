-- What the five calls promise, for accepted and refused input, on the chip that the record block holds: each part of what a call leaves is what
-- its definition says. The definitions are `out_of` and `next_of` (crate slots), the same that `run_list` folds over lists of calls.
-- Assumes nothing.
use Rattle.std.specs.Prelude.{ℕ, ◌≡◌, cond, List, [], ◌∷◌}
use Rattle.slices.specs.Lists.{over}
use Rattle.state.specs.declared.Answer.{Answer}
use Rattle.state.specs.declared.Chip.{Chip}
use Rattle.state.specs.Answers.{number_of}
use Rattle.state.specs.Memory.{State, chip_in}
use Rattle.blocks.specs.Block.{encode_chip}
use Rattle.slots.specs.Calls.{Out}
use Rattle.slots.specs.Lists.{Op, out_of, next_of, is_refusal, log_of}
use Rattle.blocks.specs.Promises.{held_in}
use Rattle.runs.specs.declared.Done.{Done}

-- (13.9) the block at exit: under 1 to 7 and 14 it stays, byte for byte; else it holds the new chip
unfoldable pub kept_in : List ℕ → Answer → Chip → List ℕ
kept_in block a c = cond (is_refusal a) block (encode_chip c)

-- (11.6) the log l, which was l₀, begins with the lines
-- (13.9) a call whose outcome is o and whose state after it is t, on the block `held`: it hands back r, and leaves the block `kept`, the array ys, the
-- log, and what was lent for output as b. The block reads back as the chip that is left
pub record Leaves (o : Out) (t : State) (held l₀ : List ℕ) (r : Done) (kept ys l b : List ℕ) : Type 0 where
  pub answer : r.answer ≡ o.answer
  pub block : kept ≡ kept_in held o.answer (chip_in t)
  pub array : ys ≡ t.memory.array
  pub log : l ≡ over o.lines l₀
  pub frames : r.frames ≡ o.frames
  pub polls : r.polls ≡ o.polls
  pub count : r.count ≡ o.count
  pub lent : b ≡ o.lent
  pub holds : held_in kept ys ≡ t

-- (13.9) of a call or raw
abbrev pub Promise : Op → (held xs : List ℕ) → Done → (kept ys l b : List ℕ) → Type 0
Promise o held xs r kept ys l b = Leaves (out_of o (held_in held xs)) (next_of o (held_in held xs)) held (log_of o) r kept ys l b

-- ---- the same for a caller of the C interface, who is told the answer's number, and frames, polls and n as three counts

-- (13.11) frames, polls and n
abbrev pub counts_of : Done → List ℕ
counts_of d = d.frames ∷ d.polls ∷ d.count ∷ []

-- (13.11) the answer's number, and the counts; all else as above
pub record Called (o : Op) (held xs : List ℕ) (r : ℕ) (kept ys l told b : List ℕ) : Type 0 where
  pub answer : r ≡ number_of (out_of o (held_in held xs)).answer
  pub block : kept ≡ kept_in held (out_of o (held_in held xs)).answer (chip_in (next_of o (held_in held xs)))
  pub array : ys ≡ (next_of o (held_in held xs)).memory.array
  pub log : l ≡ over (out_of o (held_in held xs)).lines (log_of o)
  pub counts : told ≡ (out_of o (held_in held xs)).frames ∷ (out_of o (held_in held xs)).polls ∷ (out_of o (held_in held xs)).count ∷ []
  pub lent : b ≡ (out_of o (held_in held xs)).lent
  pub holds : held_in kept ys ≡ next_of o (held_in held xs)
