-- The head and eight words stored one behind the other from a block's first byte on are the whole block, since a part laid right
-- behind another is the two laid as one, and together they have 72 bytes.
-- Assumes nothing.
use mathlib.Core.Path.{◌≡◌, refl, sym, ◌∙◌}
use mathlib.Core.List.{List, ◌++◌}
use Prim.Native.Nat.{ℕ}
use lib.ListN.{length}
use Rattle.slices.specs.Lists.{over, splice}
use Rattle.slices.specs.Words.{word_bytes}
use Rattle.slices.proofs.Laws.{over-whole, over_two}
use Rattle.slots.specs.declared.Driver.{Driver}
use Rattle.driver_blocks.specs.Block.{first_of, last_of, head_bytes, day_words, encode_driver}

-- one part more
more : (front part xs : List ℕ) (n : ℕ) {block next : List ℕ} → length front ≡ n → block ≡ over front xs → next ≡ splice n part block
    → next ≡ over (front ++ part) xs
more front part xs n l b e = e ∙ (λ i. splice (sym l i) part (b i)) ∙ sym (over_two front part xs)

pub all-stored : (d : Driver) (xs : List ℕ) {b₀ b₁ b₂ b₃ b₄ b₅ b₆ b₇ b₈ : List ℕ} → length xs ≡ 72
    → b₀ ≡ over (head_bytes d.kind d.verdict d.course d.aim.period) xs
    → b₁ ≡ splice 8 (word_bytes d.array) b₀
    → b₂ ≡ splice 16 (word_bytes d.slot) b₁
    → b₃ ≡ splice 24 (word_bytes d.limit) b₂
    → b₄ ≡ splice 32 (word_bytes d.aim.place) b₃
    → b₅ ≡ splice 40 (word_bytes d.course.left) b₄
    → b₆ ≡ splice 48 (word_bytes (first_of d.aim.period)) b₅
    → b₇ ≡ splice 56 (word_bytes (last_of d.aim.period)) b₆
    → b₈ ≡ splice 64 (word_bytes d.aim.today) b₇
    → b₈ ≡ encode_driver d
unfolding head_bytes word_bytes day_words encode_driver
all-stored d xs l e₀ e₁ e₂ e₃ e₄ e₅ e₆ e₇ e₈ =
    let h = head_bytes d.kind d.verdict d.course d.aim.period in
    let a = word_bytes d.array in
    let s = word_bytes d.slot in
    let m = word_bytes d.limit in
    let p = word_bytes d.aim.place in
    let r = word_bytes d.course.left in
    let f = word_bytes (first_of d.aim.period) in
    let n = word_bytes (last_of d.aim.period) in
    let t = word_bytes d.aim.today in
    more (((((((h ++ a) ++ s) ++ m) ++ p) ++ r) ++ f) ++ n) t xs 64 refl
    (more ((((((h ++ a) ++ s) ++ m) ++ p) ++ r) ++ f) n xs 56 refl
    (more (((((h ++ a) ++ s) ++ m) ++ p) ++ r) f xs 48 refl
    (more ((((h ++ a) ++ s) ++ m) ++ p) r xs 40 refl
    (more (((h ++ a) ++ s) ++ m) p xs 32 refl
    (more ((h ++ a) ++ s) m xs 24 refl
    (more (h ++ a) s xs 16 refl
    (more h a xs 8 refl e₀ e₁)
    e₂)
    e₃)
    e₄)
    e₅)
    e₆)
    e₇)
    e₈
    ∙ over-whole (encode_driver d) xs (sym l)
