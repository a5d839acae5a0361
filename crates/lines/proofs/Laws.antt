-- Laws of the printed lines. A piece put behind another stands behind it, since a part laid over a list leaves what is in front of it;
-- and the fewest digits that hold a number are its digits with no 0 in front, by recursion on how many there are.
-- Assumes nothing.
use mathlib.Core.Path.{◌≡◌, refl, sym, ap, subst, ◌∙◌}
use mathlib.Core.List.{List, [], ◌∷◌, ◌++◌}
use mathlib.Core.Bool.{Bool, true, false}
use Prim.Native.Nat.{ℕ, zero, suc, ◌+◌, ◌*◌, ◌-◌, ◌/◌, ◌%◌, ◌^◌, ◌≤◌, ◌<◌}
use native.Mathlib.Nat.{pow-suc, one-le-pow, pow-le-pow_right, mod-mod}
use native.Mathlib.Omega.{arith}
use lib.ListN.{length, take, drop, length-append, length-take}
use lib.Seq.{take_at}
use lib.Dec.{leb}
use borrow.Author.Tests.{lt-ltb, le-ltb, leb-true, leb-false}
use Rattle.io.specs.Digits.{last_digits, hex_digit_ascii, IsDigitCount}
use Rattle.io.specs.Counts.{IsPrefixLen}
use Rattle.slices.specs.Lists.{over, splice}
use Rattle.text.specs.Hexadecimal.{digit_of}
use Rattle.slices.proofs.Laws.{splice_append, splice-zero, over_append}
use Rattle.lines.specs.Texts.{Stands, decimal_in, decimal}

-- ---- pieces
pub stands_more : {at a r : ℕ} {l m xs ys zs : List ℕ} → Stands at l a xs ys → Stands a m r ys zs → Stands at (l ++ m) r xs zs
stands_more {at} {a} {r} {l} {m} {xs} {ys} {zs} s t =
    record {
      end = simp length-append (omega (arith, s.end, t.end));
      long = t.long ∙ s.long;
      text = t.text ∙ ap (λ (k : ℕ). splice k m ys) s.end ∙ ap (splice (at + length l) m) s.text ∙ sym (splice_append at l m xs);
    }

-- the piece is another name of the same bytes
pub stands_as : {at r : ℕ} {l m xs ys : List ℕ} → Stands at l r xs ys → l ≡ m → Stands at m r xs ys
stands_as {at} {r} {l} {m} {xs} {ys} s e = subst (λ (k : List ℕ). Stands at k r xs ys) e s

-- what stands at the start is the first r bytes
pub stood : {r : ℕ} {l xs ys : List ℕ} → Stands 0 l r xs ys → length l ≤ length xs → take r ys ≡ l
stood {r} {l} {xs} {ys} s h =
    rw (s.text, splice-zero, over_append l xs h) (take_at l (drop (length l) xs) r (omega (arith, s.end)))

pub stands_counts : {r : ℕ} {l xs ys : List ℕ} → Stands 0 l r xs ys → r ≤ length xs → IsPrefixLen r ys
stands_counts {r} {l} {xs} {ys} s h = (omega (arith, s.long), simp length-take (omega (arith, s.long)))

-- ---- decimal digits
glyph_digit : (n : ℕ) → hex_digit_ascii (n % 10) ≡ 48 + n % 10
glyph_digit n = rw (lt-ltb (n % 10) 10 (omega arith))

one_digit : (n : ℕ) → n < 10 → (hex_digit_ascii (n % 10) ∷ []) ≡ (48 + n) ∷ []
one_digit n h =
    let e : n % 10 ≡ n = omega arith in
    ap (λ (k : ℕ). k ∷ []) (glyph_digit n ∙ ap (λ (k : ℕ). 48 + k) e)

digits_in : (k j n : ℕ) → n < 10 ^ suc k → (0 < k → 10 ^ k ≤ n) → k ≤ j → last_digits 10 (suc k) n ≡ decimal_in j n
unfolding decimal_in
digits_in zero zero n h l m = one_digit n h
digits_in zero (suc j) n h l m = rw (lt-ltb n 10 h) (one_digit n h)
digits_in (suc k) zero n h l m = absurd (omega arith)
digits_in (suc k) (suc j) n h l m =
    let p : 10 ^ suc k ≡ 10 ^ k * 10 = pow-suc 10 k in
    let q : 10 ^ suc (suc k) ≡ 10 ^ suc k * 10 = pow-suc 10 (suc k) in
    let o : 1 ≤ 10 ^ k = one-le-pow k 10 (omega arith) in
    let g : 10 ^ suc k ≤ n = l (omega arith) in
    rw (le-ltb n 10 (omega arith))
    (λ i. digits_in k j (n / 10) (omega arith) (λ _. omega arith) (omega arith) i ++ (glyph_digit n i ∷ []))

-- a number below 2^64 has at most 20 digits
pub few_digits : (n k : ℕ) → n < 2 ^ 64 → IsDigitCount 10 1 n k → k ≤ 20
few_digits n k h f = go (leb k 20) refl
  where
    late : 20 < k → ⊥
    late l =
        let p : 10 ^ 20 ≤ 10 ^ (k - 1) = pow-le-pow_right {n = 10} (omega arith) {i = 20} {j = k - 1} (omega arith) in
        omega (arith, f.2 (omega arith))

    go : (b : Bool) → leb k 20 ≡ b → k ≤ 20
    go true e = leb-true k 20 e
    go false e = absurd (late (leb-false k 20 e))

pub digits_all : (n k : ℕ) → IsDigitCount 10 1 n k → k ≤ 20 → last_digits 10 k n ≡ decimal n
unfolding decimal
digits_all n zero f h = absurd (omega (arith, f.0))
digits_all n (suc k) f h =
    let e : suc k - 1 ≡ k = omega arith in
    digits_in k 19 n f.1 (λ z. subst (λ (j : ℕ). 10 ^ j ≤ n) e (f.2 (omega arith))) (omega arith)

-- ---- hexadecimal digits
pub digit_low : (n : ℕ) → digit_of (n % 16) ≡ digit_of n
unfolding digit_of
digit_low n = rw (mod-mod n 16)

-- ---- the text of a frame, laid over the start of a buffer
pub laid-over : {r : ℕ} {l ys : List ℕ} (xs : List ℕ) → ys ≡ over l xs → r ≡ length l → r ≤ length xs → take r ys ≡ l
laid-over {r} {l} {ys} xs e h k = rw (e, over_append l xs (omega arith)) (take_at l (drop (length l) xs) r (omega arith))
