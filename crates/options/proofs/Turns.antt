-- The loop over the words behind the operands. Each word begins behind the one before it, so a line of n bytes has fewer than n
-- words, and any number of turns from there on gives the same.
-- Assumes nothing.
use mathlib.Core.Path.{◌≡◌, refl, sym, ap, ◌∙◌}
use mathlib.Core.Bool.{Bool, true, false, cond}
use mathlib.Core.List.{List}
use Prim.Native.Nat.{ℕ, zero, suc, ◌+◌, ◌≤◌, ◌<◌}
use native.Mathlib.Omega.{arith}
use lib.ListN.{length}
use lib.Dec.{ltb}
use borrow.Author.Tests.{ltb-true, ltb-false, lt-ltb, le-ltb}
use Rattle.words.specs.Words.{word_from}
use Rattle.options.specs.Options.{take_word, take_words, words_of}
use Rattle.settings.specs.Settings.{unset_of}
use Rattle.words.specs.Bounds.{Within}
use Rattle.words.specs.declared.Command.{Command}
use Rattle.words.specs.declared.Span.{Span}
use Rattle.settings.specs.declared.Settings.{Settings}
use Rattle.words.proofs.Spans.{word-within, word_on}
use Rattle.faults.specs.declared.Fault.{Fault}
use Rattle.std.specs.Prelude.{Result, Ok, Err}

module _ (xs : List ℕ) (c : Command) where
  turn : (n : ℕ) (s : Result Settings Fault) (w : Span) → w.start < w.end
      → take_words (suc n) xs c s w ≡ take_words n xs c (take_word xs c s w) (word_from xs w.end)
  unfolding take_words
  turn n s w h = ap (λ (b : Bool). cond b (take_words n xs c (take_word xs c s w) (word_from xs w.end)) s) (lt-ltb w.start w.end h)

  pub stop : (n : ℕ) (s : Result Settings Fault) (w : Span) → w.end ≤ w.start → take_words n xs c s w ≡ s
  unfolding take_words
  stop zero s w h = refl
  stop (suc n) s w h = ap (λ (b : Bool). cond b (take_words n xs c (take_word xs c s w) (word_from xs w.end)) s) (le-ltb w.start w.end h)

  -- a fault stays
  pub stuck : (n : ℕ) (f : Fault) (w : Span) → take_words n xs c (Err f) w ≡ Err f
  unfolding take_words take_word
  stuck zero f w = refl
  stuck (suc n) f w = go (ltb w.start w.end) (stuck n f (word_from xs w.end))
    where
      go : (b : Bool) → take_words n xs c (Err f) (word_from xs w.end) ≡ Err f → cond b (take_words n xs c (Err f) (word_from xs w.end)) (Err f) ≡ Err f
      go true e = e
      go false e = refl

  enough : (n m : ℕ) (s : Result Settings Fault) (w : Span) → Within (length xs) w → length xs ≤ n + w.start → length xs ≤ m + w.start
      → take_words n xs c s w ≡ take_words m xs c s w
  enough zero m s w i h k = stop zero s w (omega arith) ∙ sym (stop m s w (omega arith))
  enough (suc n) zero s w i h k = stop (suc n) s w (omega arith) ∙ sym (stop zero s w (omega arith))
  enough (suc n) (suc m) s w i h k =
      go (ltb w.start w.end) refl
      (λ l.
      let v = word_from xs w.end in
      let o : w.end ≤ v.start = word_on xs w.end i.1 in
      enough n m (take_word xs c s w) v (word-within xs w.end) (omega arith) (omega arith))
    where
      go : (b : Bool) → ltb w.start w.end ≡ b
          → (w.start < w.end → take_words n xs c (take_word xs c s w) (word_from xs w.end) ≡ take_words m xs c (take_word xs c s w) (word_from xs w.end))
          → take_words (suc n) xs c s w ≡ take_words (suc m) xs c s w
      go true e f =
          let l : w.start < w.end = ltb-true w.start w.end e in
          turn n s w l ∙ f l ∙ sym (turn m s w l)
      go false e f =
          let l : w.end ≤ w.start = ltb-false w.start w.end e in
          stop (suc n) s w l ∙ sym (stop (suc m) s w l)

  -- one turn of the loop
  pub turned : (at : ℕ) (s r : Result Settings Fault) (w v : Span) → Within (length xs) w → w.start < w.end
      → take_words (length xs) xs c s w ≡ words_of xs c at → r ≡ take_word xs c s w → v ≡ word_from xs w.end
      → take_words (length xs) xs c r v ≡ words_of xs c at
  turned at s r w v i h e p q =
      ap (λ (d : Result Settings Fault). take_words (length xs) xs c d v) p
      ∙ ap (take_words (length xs) xs c (take_word xs c s w)) q
      ∙ sym (turn (length xs) s w h)
      ∙ enough (suc (length xs)) (length xs) s w i (omega arith) (omega arith)
      ∙ e

  pub begun : (at : ℕ) (s : Settings) (w : Span) → s ≡ unset_of → w ≡ word_from xs at → take_words (length xs) xs c (Ok s) w ≡ words_of xs c at
  unfolding words_of
  begun at s w p q =
      ap (λ (d : Settings). take_words (length xs) xs c (Ok d) w) p ∙ ap (take_words (length xs) xs c (Ok unset_of)) q
