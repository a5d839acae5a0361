-- The whole run.
-- Assumes nothing.
use Rattle.std.specs.Prelude.{ℕ, ◌+◌, ◌≤◌, ◌≡◌, Bool, true, false, List, length}
use Rattle.inputs.specs.Output.{due_for}
use Rattle.inputs.specs.Places.{Place, Reads}
use Rattle.outline.specs.declared.Ended.{Ended}
use Rattle.outline.specs.declared.State.{State}

-- Aid: the input cannot be read
abbrev pub is_unread : State → Bool
is_unread State.Open = false
is_unread State.Ended = false
is_unread State.Unread = true

-- Aid: there may be more to read
abbrev pub is_open : State → Bool
is_open State.Open = true
is_open State.Ended = false
is_open State.Unread = false

-- Aid: some bytes have been read on the way, after `before` of them: `after` in all
pub record Went (before : ℕ) (x : Place) (after : ℕ) (y : Place) : Type 0 where
  pub input : List ℕ
  pub counted : after ≡ before + length input
  pub reads : Reads input x y

-- of what is due for the input, of which so many bytes were read, so many have been written: all, or where writing has failed a beginning. What is due
-- for an input read to its end is `output_of` of its bytes
pub record Said (e : Ended) : Type 0 where
  pub input : List ℕ
  pub counted : e.read ≡ length input
  pub begun : e.written ≤ length (due_for e.unread input)
  pub all : e.unwritten ≡ false → e.written ≡ length (due_for e.unread input)
