-- `registers::unpacked16` meets its contract: the words' bytes, one word after the other, over all 16 places.
-- Assumes nothing.
use mathlib.Core.List.{List}
use mathlib.Core.Path.{ap, ◌∙◌}
use Prim.Native.Nat.{ℕ}
use Rattle.slices.specs.Lists.{splice}
use Rattle.slices.specs.Words.{word_bytes}
use Rattle.registers.proofs.Data.{put16}
use Rattle.registers.proofs.unpacked16.Goals as goal

pub returns : goal.returns
returns c =
    let d = c.args.«data» in
    c.put_word-2.ensures ∙ ap (λ (l : List ℕ). splice 8 (word_bytes d.b) l) c.put_word.ensures ∙ put16 d
