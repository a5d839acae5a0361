-- Laws of the text of a frame. Each piece is laid over the buffer where the piece before it ends, so the pieces together lie there as
-- one list.
-- Assumes nothing.
use mathlib.Core.Path.{◌≡◌, refl, sym, ap, ◌∙◌}
use mathlib.Core.List.{List, [], ◌∷◌, ◌++◌}
use Prim.Native.Nat.{ℕ, zero, suc, ◌+◌, ◌-◌, ◌*◌, ◌/◌, ◌%◌, ◌≤◌, ◌<◌, min}
use native.Mathlib.Numerals.{add-one}
use native.Mathlib.Omega.{arith}
use lib.ListN.{length, set, take, drop, get_or, length-append, length-take, drop_of_length-le}
use lib.Seq.{take-nil, drop-nil, drop-cons}
use borrow.Author.Tests.{lt-ltb, le-ltb}
use Rattle.slices.specs.Lists.{over, splice}
use Rattle.slices.proofs.Laws.{length_over, splice-zero, splice_nil, splice_cons, splice_append}
use Rattle.text.specs.Hexadecimal.{digit_of}
use Rattle.frame_text.specs.Lines.{digit_worth, decimal_of, spaced, frame_length, line_text, Counts}

-- ---- pieces
one : (a y : ℕ) (out : List ℕ) → set out a y ≡ splice a (y ∷ []) out
one a y out = sym (splice_cons a y [] out ∙ splice_nil (a + 1) (set out a y))

-- a piece behind another
joined : (a b : ℕ) (ys zs out mid : List ℕ) → b ≡ a + length ys → mid ≡ splice a ys out → splice b zs mid ≡ splice a (ys ++ zs) out
joined a b ys zs out mid e f = rw (e, f) (sym (splice_append a ys zs out))

-- ---- decimal digits
pub digit_none : (n w a : ℕ) (out : List ℕ) → n < w → (a ≤ a + 1) × (a ≡ a + length (digit_worth n w)) × (out ≡ splice a (digit_worth n w) out)
unfolding digit_worth
digit_none n w a out h =
    let e : digit_worth n w ≡ [] = rw (lt-ltb n w h) refl in
    (omega arith, omega (arith, ap length e), sym (ap (λ (l : List ℕ). splice a l out) e ∙ splice_nil a out))

pub digit_some : (n w a : ℕ) (out : List ℕ) → w ≤ n
    → (a + 1 ≤ a + 1) × (a + 1 ≡ a + length (digit_worth n w)) × (set out a (48 + n / w % 10) ≡ splice a (digit_worth n w) out)
unfolding digit_worth
digit_some n w a out h =
    let e : digit_worth n w ≡ (48 + n / w % 10) ∷ [] = rw (le-ltb n w h) refl in
    (omega arith, omega (arith, ap length e), one a (48 + n / w % 10) out ∙ sym (ap (λ (l : List ℕ). splice a l out) e))

module _ (n : ℕ) (a b c d : ℕ)
    (e₁ : a ≡ 0 + length (digit_worth n 10000)) (e₂ : b ≡ a + length (digit_worth n 1000))
    (e₃ : c ≡ b + length (digit_worth n 100)) (e₄ : d ≡ c + length (digit_worth n 10)) where
  pub decimal-length : d + 1 ≡ length (decimal_of n)
  unfolding decimal_of
  decimal-length = simp length-append (omega arith)

  pub decimal-laid : (out l₁ l₂ l₃ l₄ : List ℕ) → l₁ ≡ splice 0 (digit_worth n 10000) out → l₂ ≡ splice a (digit_worth n 1000) l₁
      → l₃ ≡ splice b (digit_worth n 100) l₂ → l₄ ≡ splice c (digit_worth n 10) l₃ → set l₄ d (48 + n % 10) ≡ splice 0 (decimal_of n) out
  unfolding decimal_of
  decimal-laid out l₁ l₂ l₃ l₄ f₁ f₂ f₃ f₄ =
      one d (48 + n % 10) l₄
      ∙ joined c d (digit_worth n 10) ((48 + n % 10) ∷ []) l₃ l₄ e₄ f₄
      ∙ joined b c (digit_worth n 100) (digit_worth n 10 ++ ((48 + n % 10) ∷ [])) l₂ l₃ e₃ f₃
      ∙ joined a b (digit_worth n 1000) (digit_worth n 100 ++ (digit_worth n 10 ++ ((48 + n % 10) ∷ []))) l₁ l₂ e₂ f₂
      ∙ joined 0 a (digit_worth n 10000) (digit_worth n 1000 ++ (digit_worth n 100 ++ (digit_worth n 10 ++ ((48 + n % 10) ∷ [])))) out l₁ e₁ f₁

-- ---- a space and two digits for each byte
length-spaced : (xs : List ℕ) → length (spaced xs) ≡ length xs * 3
unfolding spaced
length-spaced [] = refl
length-spaced (x ∷ xs) = omega (arith, length-spaced xs)

pub spaced-step : (xs : List ℕ) (i a r : ℕ) (out last : List ℕ) → i < length xs → r ≡ a + 3
    → last ≡ splice a (32 ∷ digit_of (get_or xs i 0 / 16) ∷ digit_of (get_or xs i 0) ∷ []) out
    → splice r (spaced (drop (i + 1) xs)) last ≡ splice a (spaced (drop i xs)) out
unfolding spaced
spaced-step xs i a r out last h e f =
    joined a r (32 ∷ digit_of (get_or xs i 0 / 16) ∷ digit_of (get_or xs i 0) ∷ []) (spaced (drop (i + 1) xs)) out last e f
    ∙ ap (λ (l : List ℕ). splice a l out) (sym (rw (add-one, drop-cons xs i 0 h) refl))

pub spaced-end : (xs : List ℕ) (i a : ℕ) (out : List ℕ) → length xs ≤ i → splice a (spaced (drop i xs)) out ≡ out
unfolding spaced
spaced-end xs i a out h = rw (drop_of_length-le xs h) (splice_nil a out)

-- ---- the first bytes
take_clip : (k m : ℕ) (xs : List ℕ) → k ≡ min m (length xs) → take k xs ≡ take m xs
take_clip k m [] e = take-nil k ∙ sym (take-nil m)
take_clip zero zero (x ∷ xs) e = refl
take_clip zero (suc m) (x ∷ xs) e = absurd (omega arith)
take_clip (suc k) zero (x ∷ xs) e = absurd (omega arith)
take_clip (suc k) (suc m) (x ∷ xs) e = ap (λ (l : List ℕ). x ∷ l) (take_clip k m xs (omega arith))

pub first-bytes : (xs : List ℕ) (m a e : ℕ) → a ≡ min (length xs) 2 → e ≡ min (length xs) (2 + m) → take (e - a) (drop a xs) ≡ take m (drop 2 xs)
first-bytes [] m a e f g = rw (drop-nil, take-nil, take-nil) refl
first-bytes (x ∷ []) m a e f g =
    let z : e - a ≡ 0 = omega arith in
    rw (z, take-nil) refl
first-bytes (x ∷ y ∷ xs) m a e f g =
    let t : a ≡ 2 = omega arith in
    ap (λ (k : ℕ). take (e - a) (drop k (x ∷ y ∷ xs))) t ∙ take_clip (e - a) m xs (omega arith)

-- ---- the whole
pub framed : (line out mid last part : List ℕ) (n k r : ℕ) → n ≡ frame_length line → k ≤ 5 → k ≡ length (decimal_of n) → mid ≡ splice 0 (decimal_of n) out
    → part ≡ take (min n 4) (drop 2 line) → r ≡ k + length part * 3 → last ≡ splice k (spaced part) mid → length out ≡ 20
    → (r ≤ 17) × Counts r last × (r ≡ length (line_text line)) × (last ≡ over (line_text line) out)
unfolding line_text
framed line out mid last part n k r en hk ek em ep er el lo =
    let ek₀ : k ≡ 0 + length (decimal_of n) = omega arith in
    let t : line_text line ≡ decimal_of n ++ spaced part = rw (← en, ← ep) refl in
    let laid : last ≡ over (line_text line) out =
    el ∙ joined 0 k (decimal_of n) (spaced part) out mid ek₀ em ∙ splice-zero (decimal_of n ++ spaced part) out ∙ ap (λ (l : List ℕ). over l out) (sym t)
    in
    let few : length part ≤ 4 = omega (arith, ap length ep ∙ length-take (min n 4) (drop 2 line)) in
    let long : length last ≡ 20 = ap length laid ∙ length_over (line_text line) out ∙ lo in (
      omega arith,
      (omega arith, simp length-take (omega arith)),
      omega (arith, ap length t ∙ length-append (decimal_of n) (spaced part), length-spaced part),
      laid,
    )
