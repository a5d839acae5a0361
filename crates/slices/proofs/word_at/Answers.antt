-- `slices::word_at` meets its contract: std's number of eight bytes is that of their digits to the base 256, first byte highest. Assumes nothing.
use Rattle.std.proofs.Common.{◌≡◌, ◌∙◌, ap, arith, List, ℕ}
use Rattle.std.specs.Int.{from_be_bytes, w64}
use Rattle.slices.specs.Words.{word_at}
use Rattle.slices.proofs.Laws.{run-part}
use Rattle.slices.proofs.Words.{word_at-part}
use Rattle.slices.proofs.word_at.Goals as goal

number : (xs : List ℕ) → from_be_bytes w64 xs ≡ word_at xs 0
unfolding word_at
number xs = omega arith

pub returns : goal.returns
returns c =
    let xs = c.args.bytes.now in
    c.from_be_bytes.ensures ∙ number _ ∙ ap (λ (l : List ℕ). word_at l 0) (c.copy_from_slice.ensures.after ∙ run-part c.args.at 8 xs) ∙ word_at-part xs c.args.at
