-- Laws of eight bytes as one number. A number's digits to the base 256 are bytes, and bytes are the digits of the number that they
-- make, so `word_bytes` and `word_at` undo one another.
-- Assumes nothing.
use mathlib.Core.Path.{◌≡◌, refl, sym, ap, ◌∙◌}
use mathlib.Core.List.{List, [], ◌∷◌, ◌++◌}
use Prim.Native.Nat.{ℕ, zero, suc, ◌+◌, ◌*◌, ◌/◌, ◌%◌, ◌^◌, ◌<◌, ◌≤◌}
use native.Mathlib.Nat.{add-zero, mod-eq_of_lt, mod-lt}
use native.Mathlib.Omega.{arith}
use lib.ListN.{length, take, drop, get_or}
use lib.Seq.{get_or-take, get_or-drop, drop-append_seam, take_at}
use lib.Pow.{high, low, mod-pow-add}
use lib.Dec.{lit<}
use Rattle.slices.specs.Lists.{tabulate, splice}
use Rattle.slices.specs.Words.{word_at, word_bytes}
use Rattle.slices.proofs.Laws.{tabulate-part, splice-part}

pub length-word_bytes : (w : ℕ) → length (word_bytes w) ≡ 8
unfolding word_bytes
length-word_bytes w = refl

-- each byte of a number is one
pub word_bytes-small : (w k d : ℕ) → k < 8 → get_or (word_bytes w) k d < 256
unfolding word_bytes
word_bytes-small w zero d h = mod-lt _ (lit< tt)
word_bytes-small w (suc zero) d h = mod-lt _ (lit< tt)
word_bytes-small w (suc (suc zero)) d h = mod-lt _ (lit< tt)
word_bytes-small w (suc (suc (suc zero))) d h = mod-lt _ (lit< tt)
word_bytes-small w (suc (suc (suc (suc zero)))) d h = mod-lt _ (lit< tt)
word_bytes-small w (suc (suc (suc (suc (suc zero))))) d h = mod-lt _ (lit< tt)
word_bytes-small w (suc (suc (suc (suc (suc (suc zero)))))) d h = mod-lt _ (lit< tt)
word_bytes-small w (suc (suc (suc (suc (suc (suc (suc zero))))))) d h = mod-lt _ (lit< tt)
word_bytes-small w (suc (suc (suc (suc (suc (suc (suc (suc k)))))))) d h = absurd (omega arith)

-- eight bytes make a number below 2 ^ 64
pub word_at-small : (xs : List ℕ) (a : ℕ) → ((k : ℕ) → k < 8 → get_or xs (a + k) 0 < 256) → word_at xs a < 2 ^ 64
unfolding word_at
word_at-small xs a h =
    omega (arith, rw add-zero at (h 0 (lit< tt)), h 1 (lit< tt), h 2 (lit< tt), h 3 (lit< tt), h 4 (lit< tt), h 5 (lit< tt), h 6 (lit< tt), h 7 (lit< tt))

byte : (xs : List ℕ) (a k : ℕ) → k < 8 → get_or (take 8 (drop a xs)) k 0 ≡ get_or xs (a + k) 0
byte xs a k h = get_or-take 8 (drop a xs) k 0 h ∙ get_or-drop a xs k 0

-- a word is that of its eight bytes alone
pub word_at-part : (xs : List ℕ) (a : ℕ) → word_at (take 8 (drop a xs)) 0 ≡ word_at xs a
unfolding word_at
word_at-part xs a =
    rw (
      byte xs a 0 (lit< tt),
      byte xs a 1 (lit< tt),
      byte xs a 2 (lit< tt),
      byte xs a 3 (lit< tt),
      byte xs a 4 (lit< tt),
      byte xs a 5 (lit< tt),
      byte xs a 6 (lit< tt),
      byte xs a 7 (lit< tt),
      add-zero a,
    )

-- ---- from a number to its bytes and back
digits : (d₀ d₁ d₂ d₃ d₄ d₅ d₆ d₇ r₂ r₃ r₄ r₅ r₆ r₇ r : ℕ)
    → r ≡ d₇ * 2 ^ 56 + r₇ → r₇ ≡ d₆ * 2 ^ 48 + r₆ → r₆ ≡ d₅ * 2 ^ 40 + r₅ → r₅ ≡ d₄ * 2 ^ 32 + r₄
    → r₄ ≡ d₃ * 2 ^ 24 + r₃ → r₃ ≡ d₂ * 2 ^ 16 + r₂ → r₂ ≡ d₁ * 2 ^ 8 + d₀
    → d₇ * 2 ^ 56 + d₆ * 2 ^ 48 + d₅ * 2 ^ 40 + d₄ * 2 ^ 32 + d₃ * 2 ^ 24 + d₂ * 2 ^ 16 + d₁ * 2 ^ 8 + d₀ ≡ r
digits d₀ d₁ d₂ d₃ d₄ d₅ d₆ d₇ r₂ r₃ r₄ r₅ r₆ r₇ r e₇ e₆ e₅ e₄ e₃ e₂ e₁ = omega arith

pub word_at-word_bytes : (w : ℕ) → w < 2 ^ 64 → word_at (word_bytes w) 0 ≡ w
unfolding word_at word_bytes
word_at-word_bytes w h =
    digits _ _ _ _ _ _ _ _ _ _ _ _ _ _ _
    (mod-pow-add w 8 56) (mod-pow-add w 8 48) (mod-pow-add w 8 40) (mod-pow-add w 8 32) (mod-pow-add w 8 24) (mod-pow-add w 8 16) (mod-pow-add w 8 8)
    ∙ mod-eq_of_lt h

-- a word that stands in a list
pub word_at_append : (ys : List ℕ) (w : ℕ) (zs : List ℕ) → w < 2 ^ 64 → word_at (ys ++ (word_bytes w ++ zs)) (length ys) ≡ w
word_at_append ys w zs h =
    sym (word_at-part (ys ++ (word_bytes w ++ zs)) (length ys))
    ∙ ap (λ (l : List ℕ). word_at l 0) (ap (λ (l : List ℕ). take 8 l) (drop-append_seam ys (word_bytes w ++ zs)) ∙ take_at (word_bytes w) zs 8 (length-word_bytes w))
    ∙ word_at-word_bytes w h

pub word_at-splice : (a w : ℕ) (xs : List ℕ) → w < 2 ^ 64 → a + 8 ≤ length xs → word_at (splice a (word_bytes w) xs) a ≡ w
word_at-splice a w xs h l =
    sym (word_at-part (splice a (word_bytes w) xs) a)
    ∙ ap (λ (l : List ℕ). word_at l 0) (ap (λ (n : ℕ). take n (drop a (splice a (word_bytes w) xs))) (sym (length-word_bytes w)) ∙ splice-part a (word_bytes w) xs (omega (arith, length-word_bytes w)))
    ∙ word_at-word_bytes w h

-- ---- from bytes to their number and back
digit : (k n h x l : ℕ) → n ≡ (h * 256 + x) * 2 ^ k + l → l < 2 ^ k → x < 256 → n / 2 ^ k % 256 ≡ x
digit k n h x l e m s = rw (e, high (h * 256 + x) k m) (low h 8 s)

word_bytes_digits : (x₇ x₆ x₅ x₄ x₃ x₂ x₁ x₀ : ℕ)
    → x₇ < 256 → x₆ < 256 → x₅ < 256 → x₄ < 256 → x₃ < 256 → x₂ < 256 → x₁ < 256 → x₀ < 256
    → word_bytes (x₇ * 2 ^ 56 + x₆ * 2 ^ 48 + x₅ * 2 ^ 40 + x₄ * 2 ^ 32 + x₃ * 2 ^ 24 + x₂ * 2 ^ 16 + x₁ * 2 ^ 8 + x₀)
    ≡ x₇ ∷ x₆ ∷ x₅ ∷ x₄ ∷ x₃ ∷ x₂ ∷ x₁ ∷ x₀ ∷ []
unfolding word_bytes
word_bytes_digits x₇ x₆ x₅ x₄ x₃ x₂ x₁ x₀ h₇ h₆ h₅ h₄ h₃ h₂ h₁ h₀ =
    let l₁ = x₀ in
    let l₂ = x₁ * 2 ^ 8 + l₁ in
    let l₃ = x₂ * 2 ^ 16 + l₂ in
    let l₄ = x₃ * 2 ^ 24 + l₃ in
    let l₅ = x₄ * 2 ^ 32 + l₄ in
    let l₆ = x₅ * 2 ^ 40 + l₅ in
    let l₇ = x₆ * 2 ^ 48 + l₆ in
    let n = x₇ * 2 ^ 56 + x₆ * 2 ^ 48 + x₅ * 2 ^ 40 + x₄ * 2 ^ 32 + x₃ * 2 ^ 24 + x₂ * 2 ^ 16 + x₁ * 2 ^ 8 + x₀ in
    let e₇ : n / 2 ^ 56 % 256 ≡ x₇ = digit 56 n 0 x₇ l₇ (omega arith) (omega arith) h₇ in
    let e₆ : n / 2 ^ 48 % 256 ≡ x₆ = digit 48 n x₇ x₆ l₆ (omega arith) (omega arith) h₆ in
    let e₅ : n / 2 ^ 40 % 256 ≡ x₅ = digit 40 n (x₇ * 2 ^ 8 + x₆) x₅ l₅ (omega arith) (omega arith) h₅ in
    let e₄ : n / 2 ^ 32 % 256 ≡ x₄ = digit 32 n (x₇ * 2 ^ 16 + x₆ * 2 ^ 8 + x₅) x₄ l₄ (omega arith) (omega arith) h₄ in
    let e₃ : n / 2 ^ 24 % 256 ≡ x₃ = digit 24 n (x₇ * 2 ^ 24 + x₆ * 2 ^ 16 + x₅ * 2 ^ 8 + x₄) x₃ l₃ (omega arith) (omega arith) h₃ in
    let e₂ : n / 2 ^ 16 % 256 ≡ x₂ = digit 16 n (x₇ * 2 ^ 32 + x₆ * 2 ^ 24 + x₅ * 2 ^ 16 + x₄ * 2 ^ 8 + x₃) x₂ l₂ (omega arith) (omega arith) h₂ in
    let e₁ : n / 2 ^ 8 % 256 ≡ x₁ = digit 8 n (x₇ * 2 ^ 40 + x₆ * 2 ^ 32 + x₅ * 2 ^ 24 + x₄ * 2 ^ 16 + x₃ * 2 ^ 8 + x₂) x₁ l₁ (omega arith) (omega arith) h₁ in
    let g = x₇ * 2 ^ 48 + x₆ * 2 ^ 40 + x₅ * 2 ^ 32 + x₄ * 2 ^ 24 + x₃ * 2 ^ 16 + x₂ * 2 ^ 8 + x₁ in
    let m : n ≡ g * 2 ^ 8 + x₀ = omega arith in
    let e₀ : n % 256 ≡ x₀ = ap (λ (i : ℕ). i % 256) m ∙ low g 8 h₀ in
    cc

pub word_bytes-word_at : (xs : List ℕ) (a : ℕ) → ((k : ℕ) → k < 8 → get_or xs (a + k) 0 < 256) → a + 8 ≤ length xs → word_bytes (word_at xs a) ≡ take 8 (drop a xs)
unfolding word_at tabulate
word_bytes-word_at xs a h l =
    word_bytes_digits _ _ _ _ _ _ _ _
    (rw add-zero at (h 0 (lit< tt))) (h 1 (lit< tt)) (h 2 (lit< tt)) (h 3 (lit< tt)) (h 4 (lit< tt)) (h 5 (lit< tt)) (h 6 (lit< tt)) (h 7 (lit< tt))
    ∙ rw add-zero at (tabulate-part 8 a xs 0 l)
