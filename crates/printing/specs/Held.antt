-- What is due has been written, or waits in a buffer to be written.
-- Assumes nothing.
use Rattle.std.specs.Prelude.{ℕ, ◌≤◌, ◌≡◌, false, List, ◌++◌, length, take}
use Rattle.printing.specs.declared.Output.{Output}

-- of the text `due` the first bytes have been written, o.written of them; unless writing has failed, the rest waits at the start of the buffer xs, all of
-- it and in order
pub record Held (due : List ℕ) (o : Output) (xs : List ℕ) : Type 0 where
  pub fits : o.waiting ≤ length xs
  pub begun : o.written ≤ length due
  pub whole : o.failed ≡ false → take o.written due ++ take o.waiting xs ≡ due

-- the text l is printed: it is due behind all that was
pub record Printed (l : List ℕ) (o : Output) (xs : List ℕ) (r : Output) (ys : List ℕ) : Type 0 where
  pub held : (due : List ℕ) → Held due o xs → Held (due ++ l) r ys

-- what waited is written: nothing more waits, unless writing has failed
pub record Flushed (o : Output) (xs : List ℕ) (r : Output) : Type 0 where
  pub held : (due : List ℕ) → Held due o xs → Held due r xs
  pub all : r.failed ≡ false → r.waiting ≡ 0
