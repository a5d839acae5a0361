-- The bytes of a word that is a part of the line: two digits make one, so a buffer half as long as the line holds them all.
-- Assumes nothing.
use mathlib.Core.Path.{◌≡◌, ap, ◌∙◌}
use mathlib.Core.List.{List}
use Prim.Native.Nat.{ℕ, ◌-◌, ◌*◌, ◌/◌, ◌≤◌, min}
use native.Mathlib.Omega.{arith}
use lib.ListN.{length, take, drop, length-take, length-drop}
use Rattle.slices.specs.Lists.{over}
use Rattle.slices.proofs.Laws.{over_front}
use Rattle.text.specs.Hexadecimal.{bytes_of}
use Rattle.hexadecimal.proofs.Pairs.{length_pairs}
use Rattle.words.specs.declared.Span.{Span}
use Rattle.words.specs.Words.{part_of}
use Rattle.words.specs.Bounds.{Within}

few_bytes : (xs : List ℕ) → length (bytes_of xs) ≤ length xs / 2
unfolding bytes_of
few_bytes xs = simp length-take (omega (arith, length_pairs xs))

pub read_whole : (line out last : List ℕ) (word : Span) (s e r : ℕ) → s ≡ min word.start (length line) → e ≡ min word.end (length line)
    → r ≡ min (length (bytes_of (take (e - s) (drop s line)))) (length out) → last ≡ over (bytes_of (take (e - s) (drop s line))) out
    → Within (length line) word → length line ≤ 2 * length out → take r last ≡ bytes_of (part_of line word)
read_whole line out last word s e r a b m q w h =
    let s' : s ≡ word.start = omega (arith, w.0, w.1) in
    let e' : e ≡ word.end = omega (arith, w.0, w.1) in
    let p : take (e - s) (drop s line) ≡ part_of line word = λ i. take (e' i - s' i) (drop (s' i) line) in
    let n : length (take (e - s) (drop s line)) ≤ length line = simp (length-take, length-drop) (omega arith) in
    let f : length (bytes_of (take (e - s) (drop s line))) ≤ length out = omega (arith, few_bytes (take (e - s) (drop s line))) in
    let k : r ≡ length (bytes_of (take (e - s) (drop s line))) = omega arith in
    over_front (bytes_of (take (e - s) (drop s line))) out k f q ∙ ap bytes_of p
