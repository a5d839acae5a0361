-- The data of an FC and of a 9B as words: a word's bytes and eight bytes' word undo one another, and a write that wraps stores bytes over
-- bytes.
-- Assumes nothing.
use mathlib.Core.Path.{◌≡◌, refl, sym, ap, ◌∙◌}
use mathlib.Core.Bool.{Bool, true, false}
use mathlib.Core.List.{List, [], ◌∷◌, ◌++◌, append-nil}
use Prim.Native.Nat.{ℕ, zero, suc, ◌+◌, ◌%◌, ◌^◌, ◌<◌, ◌≤◌}
use native.Mathlib.Omega.{arith}
use lib.ListN.{length, get_or, set, take, drop, replicate, length-replicate, take-append-drop, drop_of_length-le, get_or-eq_default}
use lib.Dec.{ltb}
use lib.Seq.{drop-drop}
use borrow.Author.Tests.{ltb-true, ltb-false}
use Rattle.slices.specs.Lists.{splice, over, ring_write}
use Rattle.slices.specs.Words.{word_at, word_bytes}
use Rattle.slices.proofs.Rings.{length-ring_write}
use Rattle.slices.proofs.Words.{word_bytes-small, word_at_append, word_bytes-word_at, length-word_bytes}
use Rattle.registers.specs.declared.Data16.{Data16}
use Rattle.registers.specs.declared.Data64.{Data64}
use Rattle.registers.specs.Data.{padded, pack16, bytes16, pack64, bytes64}

-- ---- lengths
pub length-bytes16 : (d : Data16) → length (bytes16 d) ≡ 16
unfolding bytes16 word_bytes
length-bytes16 d = refl

pub length-bytes64 : (d : Data64) → length (bytes64 d) ≡ 64
unfolding bytes64 word_bytes
length-bytes64 d = refl

pub length-padded : (n : ℕ) (bytes : List ℕ) → length (padded n bytes) ≡ n
unfolding padded
length-padded n bytes = length-ring_write n 0 bytes (replicate n 255) ∙ length-replicate {A = ℕ} n 255

-- ---- each is a byte
record Small (xs : List ℕ) : Type 0 where
  at : (k : ℕ) → get_or xs k 0 < 256

small_append : (xs ys : List ℕ) → ((k : ℕ) → get_or xs k 0 < 256) → ((k : ℕ) → get_or ys k 0 < 256) → (k : ℕ) → get_or (xs ++ ys) k 0 < 256
small_append [] ys f h k = h k
small_append (x ∷ xs) ys f h zero = f zero
small_append (x ∷ xs) ys f h (suc k) = small_append xs ys (λ j. f (suc j)) h k

small_word : (w k : ℕ) → get_or (word_bytes w) k 0 < 256
small_word w k = go (ltb k 8) refl
  where
    go : (b : Bool) → ltb k 8 ≡ b → get_or (word_bytes w) k 0 < 256
    go true e = word_bytes-small w k 0 (ltb-true k 8 e)
    go false e =
        let h = ltb-false k 8 e in
        omega (arith, get_or-eq_default (word_bytes w) 0 {n = k} (omega (arith, length-word_bytes w)))

word : (w : ℕ) → Small (word_bytes w)
word w = record { at = small_word w }

joined : {xs ys : List ℕ} → Small xs → Small ys → Small (xs ++ ys)
joined {xs} {ys} f h = record { at = small_append xs ys f.at h.at }

pub bytes16-small : (d : Data16) (k : ℕ) → get_or (bytes16 d) k 0 < 256
unfolding bytes16
bytes16-small d = (joined (word d.a) (word d.b)).at

pub bytes64-small : (d : Data64) (k : ℕ) → get_or (bytes64 d) k 0 < 256
unfolding bytes64
bytes64-small d =
    (joined (joined (joined (joined (joined (joined (joined (word d.a) (word d.b)) (word d.c)) (word d.d)) (word d.e)) (word d.f))
    (word d.g)) (word d.h)).at

small-set : (xs : List ℕ) (a v : ℕ) → v < 256 → ((k : ℕ) → get_or xs k 0 < 256) → (k : ℕ) → get_or (set xs a v) k 0 < 256
small-set [] a v l h k = h k
small-set (x ∷ xs) zero v l h zero = l
small-set (x ∷ xs) zero v l h (suc k) = h (suc k)
small-set (x ∷ xs) (suc a) v l h zero = h zero
small-set (x ∷ xs) (suc a) v l h (suc k) = small-set xs a v l (λ j. h (suc j)) k

small_write : (size at : ℕ) (ys xs : List ℕ) → ((k : ℕ) → k < length ys → get_or ys k 0 < 256) → ((k : ℕ) → get_or xs k 0 < 256) → (k : ℕ) → get_or (ring_write size at ys xs) k 0 < 256
unfolding ring_write
small_write size at [] xs f h = h
small_write size at (y ∷ ys) xs f h =
    small_write size ((at + 1) % size) ys (set xs at y) (λ j l. f (suc j) (omega arith)) (small-set xs at y (f zero (omega arith)) h)

small-replicate : (n k : ℕ) → get_or (replicate n 255) k 0 < 256
small-replicate zero k = omega arith
small-replicate (suc n) zero = omega arith
small-replicate (suc n) (suc k) = small-replicate n k

pub padded-small : (n : ℕ) (bytes : List ℕ) → ((k : ℕ) → k < length bytes → get_or bytes k 0 < 256) → (k : ℕ) → get_or (padded n bytes) k 0 < 256
unfolding padded
padded-small n bytes h = small_write n 0 bytes (replicate n 255) h (small-replicate n)

-- ---- from bytes to words and back
word-rest : (l : List ℕ) (a : ℕ) (rest : List ℕ) → ((k : ℕ) → k < length l → get_or l k 0 < 256) → a + 8 ≤ length l → rest ≡ drop (a + 8) l
    → word_bytes (word_at l a) ++ rest ≡ drop a l
word-rest l a rest h m e =
    ap (λ (x : List ℕ). x ++ rest) (word_bytes-word_at l a (λ k j. h (a + k) (omega arith)) m)
    ∙ ap (λ (x : List ℕ). take 8 (drop a l) ++ x) (e ∙ sym (drop-drop 8 a l))
    ∙ take-append-drop 8 (drop a l)

word-last : (l : List ℕ) (a : ℕ) → ((k : ℕ) → k < length l → get_or l k 0 < 256) → a + 8 ≡ length l → word_bytes (word_at l a) ≡ drop a l
word-last l a h e =
    sym (append-nil (word_bytes (word_at l a)))
    ∙ word-rest l a [] h (omega arith) (sym (drop_of_length-le l {i = a + 8} (omega arith)))

pub bytes16-pack16 : (l : List ℕ) → length l ≡ 16 → ((k : ℕ) → k < length l → get_or l k 0 < 256) → bytes16 (pack16 l) ≡ l
unfolding bytes16 pack16
bytes16-pack16 l e h = word-rest l 0 (word_bytes (word_at l 8)) h (omega arith) (word-last l 8 h (omega arith))

pub bytes64-pack64 : (l : List ℕ) → length l ≡ 64 → ((k : ℕ) → k < length l → get_or l k 0 < 256) → bytes64 (pack64 l) ≡ l
unfolding bytes64 pack64 word_bytes
bytes64-pack64 l e h =
    word-rest l 0 _ h (omega arith) (word-rest l 8 _ h (omega arith) (word-rest l 16 _ h (omega arith) (word-rest l 24 _ h (omega arith)
    (word-rest l 32 _ h (omega arith) (word-rest l 40 _ h (omega arith) (word-rest l 48 _ h (omega arith) (word-last l 56 h (omega arith))))))))

pub pack16-bytes16 : (d : Data16) → d.a < 2 ^ 64 → d.b < 2 ^ 64 → pack16 (bytes16 d) ≡ d
unfolding bytes16 pack16 word_bytes
pack16-bytes16 d a b =
    λ i. record { a = word_at_append [] d.a (word_bytes d.b) a i; b = word_at_append (word_bytes d.a) d.b [] b i }

pub pack64-bytes64 : (x : Data64) → x.a < 2 ^ 64 → x.b < 2 ^ 64 → x.c < 2 ^ 64 → x.d < 2 ^ 64 → x.e < 2 ^ 64 → x.f < 2 ^ 64 → x.g < 2 ^ 64 → x.h < 2 ^ 64
    → pack64 (bytes64 x) ≡ x
unfolding bytes64 pack64 word_bytes
pack64-bytes64 x a b c d e f g h =
    let u₁ = word_bytes x.a in
    let u₂ = u₁ ++ word_bytes x.b in
    let u₃ = u₂ ++ word_bytes x.c in
    let u₄ = u₃ ++ word_bytes x.d in
    let u₅ = u₄ ++ word_bytes x.e in
    let u₆ = u₅ ++ word_bytes x.f in
    let u₇ = u₆ ++ word_bytes x.g in
    let v₇ = word_bytes x.h in
    let v₆ = word_bytes x.g ++ v₇ in
    let v₅ = word_bytes x.f ++ v₆ in
    let v₄ = word_bytes x.e ++ v₅ in
    let v₃ = word_bytes x.d ++ v₄ in
    let v₂ = word_bytes x.c ++ v₃ in
    let v₁ = word_bytes x.b ++ v₂ in
    λ i.
    record {
      a = word_at_append [] x.a v₁ a i;
      b = word_at_append u₁ x.b v₂ b i;
      c = word_at_append u₂ x.c v₃ c i;
      d = word_at_append u₃ x.d v₄ d i;
      e = word_at_append u₄ x.e v₅ e i;
      f = word_at_append u₅ x.f v₆ f i;
      g = word_at_append u₆ x.g v₇ g i;
      h = word_at_append u₇ x.h [] h i;
    }

-- ---- words stored one after another
pub put16 : (d : Data16) → splice 8 (word_bytes d.b) (splice 0 (word_bytes d.a) (replicate 16 0)) ≡ bytes16 d
unfolding splice over word_bytes bytes16
put16 d = refl

pub put64 : (x : Data64)
    → splice 56 (word_bytes x.h) (splice 48 (word_bytes x.g) (splice 40 (word_bytes x.f) (splice 32 (word_bytes x.e)
    (splice 24 (word_bytes x.d) (splice 16 (word_bytes x.c) (splice 8 (word_bytes x.b) (splice 0 (word_bytes x.a) (replicate 64 0)))))))) ≡ bytes64 x
unfolding splice over word_bytes bytes64
put64 x = refl
