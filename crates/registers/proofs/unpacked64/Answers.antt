-- `registers::unpacked64` meets its contract: the words' bytes, one word after the other, over all 64 places.
-- Assumes nothing.
use mathlib.Core.List.{List}
use mathlib.Core.Path.{ap, ◌∙◌}
use Prim.Native.Nat.{ℕ}
use Rattle.slices.specs.Lists.{splice}
use Rattle.slices.specs.Words.{word_bytes}
use Rattle.registers.proofs.Data.{put64}
use Rattle.registers.proofs.unpacked64.Goals as goal

pub returns : goal.returns
returns c =
    let d = c.args.«data» in
    c.put_word-8.ensures
    ∙ ap (λ (l : List ℕ). splice 56 (word_bytes d.h) l) (c.put_word-7.ensures
    ∙ ap (λ (l : List ℕ). splice 48 (word_bytes d.g) l) (c.put_word-6.ensures
    ∙ ap (λ (l : List ℕ). splice 40 (word_bytes d.f) l) (c.put_word-5.ensures
    ∙ ap (λ (l : List ℕ). splice 32 (word_bytes d.e) l) (c.put_word-4.ensures
    ∙ ap (λ (l : List ℕ). splice 24 (word_bytes d.d) l) (c.put_word-3.ensures
    ∙ ap (λ (l : List ℕ). splice 16 (word_bytes d.c) l) (c.put_word-2.ensures
    ∙ ap (λ (l : List ℕ). splice 8 (word_bytes d.b) l) c.put_word.ensures))))))
    ∙ put64 d
