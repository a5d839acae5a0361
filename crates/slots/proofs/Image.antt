-- The record of a recipe reads back, whatever its version: its first bytes tell a record of the recipe's length and term, the bytes behind the head are the
-- recipe, and patching the record is storing the patched recipe.
-- Assumes nothing.
use Prim.Native.Nat.{ℕ, zero, suc, ◌+◌, ◌-◌, ◌*◌, ◌/◌, ◌%◌, ◌≤◌, ◌<◌}
use mathlib.Core.Path.{◌≡◌, refl, sym, ap, ◌∙◌}
use mathlib.Core.Bool.{Bool, true, false, cond, ◌&&◌, ◌||◌}
use mathlib.Core.List.{List, [], ◌∷◌, ◌++◌}
use native.Mathlib.Omega.{arith}
use lib.ListN.{length, get_or, take, drop, get_or-append}
use lib.Dec.{eqb, ltb, leb, lit<, lit≤}
use borrow.Author.Tests.{leb-true, leb-false, ltb-true, ltb-false, le-leb, lt-leb}
use Rattle.slices.specs.Lists.{splice}
use Rattle.slices.proofs.Laws.{tabulate-same, tabulate-get_or, tabulate-part, length-splice, splice_before, splice_in, splice-after}
use Rattle.geometry.specs.declared.Geometry.{Geometry}
use Rattle.slots.specs.declared.Period.{Period}
use Rattle.slots.specs.declared.Period.TheVariants.{Always, Days}
use Rattle.slots.specs.declared.Verdict.TheVariants.{Good, Blank, Beyond, Outside}
use Rattle.slots.specs.Records.{head_size, limit_of, version_of, day_bytes, period_bytes, head_of, image, version_in, length_in, day_in, period_in, is_record, is_within, patched, get_verdict, patch_verdict}
use Rattle.slots.specs.Quiet.{Small}

-- ---- the head, and what is behind it

behind : (xs ys : List ℕ) (k d : ℕ) → length xs ≤ k → get_or (xs ++ ys) k d ≡ get_or ys (k - length xs) d
behind [] ys k d l = let e : k ≡ k - 0 = omega arith in ap (λ (n : ℕ). get_or ys n d) e
behind (x ∷ xs) ys zero d l = absurd (omega arith)
behind (x ∷ xs) ys (suc k) d l =
    let e : k - length xs ≡ suc k - suc (length xs) = omega arith in behind xs ys k d (omega arith) ∙ ap (λ (n : ℕ). get_or ys n d) e

pub head-length : (period : Period) (n : ℕ) → length (head_of period n) ≡ head_size (version_of period)
unfolding head_size version_of period_bytes day_bytes
head-length Always n = refl
head-length (Days first last) n = refl

-- every head has version and length
pub head-some : (period : Period) → 3 ≤ head_size (version_of period)
unfolding head_size version_of
head-some Always = lit≤ tt
head-some (Days first last) = lit≤ tt

pub head-most : (period : Period) → head_size (version_of period) ≤ 11
unfolding head_size version_of
head-most Always = lit≤ tt
head-most (Days first last) = lit≤ tt

pub image-head : (period : Period) (recipe : List ℕ) (k : ℕ) → k < head_size (version_of period) → image period recipe k ≡ get_or (head_of period (length recipe)) k 0
unfolding image
image-head period recipe k l = get_or-append (head_of period (length recipe)) recipe 0 k (omega (arith, head-length period (length recipe)))

pub image-byte : (period : Period) (recipe : List ℕ) (k : ℕ) → head_size (version_of period) ≤ k → image period recipe k ≡ get_or recipe (k - head_size (version_of period)) 0
unfolding image
image-byte period recipe k l =
    behind (head_of period (length recipe)) recipe k 0 (omega (arith, head-length period (length recipe)))
    ∙ ap (λ (n : ℕ). get_or recipe (k - n) 0) (head-length period (length recipe))

-- ---- what the first bytes tell

-- a day number's four bytes
day_back : (n : ℕ) → n < 4294967296 → n / 16777216 % 256 * 16777216 + n / 65536 % 256 * 65536 + n / 256 % 256 * 256 + n % 256 ≡ n
day_back n l =
    let a : n / 65536 ≡ n / 256 / 256 = omega arith in
    let b : n / 16777216 ≡ n / 65536 / 256 = omega arith in
    let c : n / 16777216 < 256 = omega arith in
    sum (n / 256) (n / 65536) (n / 16777216) (omega (arith, a)) (omega (arith, b)) c ∙ (let e : 256 * (n / 256) + n % 256 ≡ n = omega arith in e)
  where
    sum : (p q r : ℕ) → p ≡ 256 * q + p % 256 → q ≡ 256 * r + q % 256 → r < 256 → r % 256 * 16777216 + q % 256 * 65536 + p % 256 * 256 + n % 256 ≡ 256 * p + n % 256
    sum p q r e f h = omega arith

-- a list that begins like a record of the recipe tells its version, length and term
module _ (period : Period) (recipe bytes : List ℕ) (few : length recipe < 65536)
    (same : (i : ℕ) → i < head_size (version_of period) → get_or bytes i 0 ≡ image period recipe i) where
  pub version_told : version_in bytes ≡ version_of period
  unfolding image
  version_told = same 0 (omega (arith, head-some period))

  pub length-told : length_in bytes ≡ length recipe
  unfolding length_in image
  length-told =
      (λ i. same 1 (omega (arith, head-some period)) i * 256 + same 2 (omega (arith, head-some period)) i) ∙ (let e : length recipe / 256 % 256 * 256 + length recipe % 256 ≡ length recipe = omega arith in e)

  pub record_told : (g : Geometry) → length recipe ≤ limit_of g (version_of period) → is_record g bytes ≡ true
  unfolding is_record version_of
  record_told g l =
      (λ i. (eqb (version_told i) 1 || eqb (version_told i) 2) && leb (length-told i) (limit_of g (version_told i)))
      ∙ ap (λ (b : Bool). (eqb (version_of period) 1 || eqb (version_of period) 2) && b) (le-leb (length recipe) (limit_of g (version_of period)) l) ∙ known period
    where
      known : (p : Period) → ((eqb (version_of p) 1 || eqb (version_of p) 2) && true) ≡ true
      known Always = refl
      known (Days first last) = refl

  -- only a patch that ends within it is good
  pub patch-ends : (g : Geometry) (end : ℕ) → patch_verdict g end bytes ≡ Good → end ≤ length recipe
  unfolding patch_verdict
  patch-ends g end = go (is_record g bytes) (leb end (length_in bytes)) refl
    where
      go : (b d : Bool) → leb end (length_in bytes) ≡ d → cond b (cond d Good Beyond) Blank ≡ Good → end ≤ length recipe
      go true true e h = omega (arith, leb-true end (length_in bytes) e, length-told)
      go true false e h = let z : ◌≡◌ {A = ℕ} 0 1 = cc in absurd (omega arith)
      go false d e h = let z : ◌≡◌ {A = ℕ} 0 1 = cc in absurd (omega arith)

pub period_told : (period : Period) (recipe bytes : List ℕ) → Small period → ((i : ℕ) → i < head_size (version_of period) → get_or bytes i 0 ≡ image period recipe i)
    → period_in bytes ≡ period
unfolding period_in day_in image version_of head_size period_bytes day_bytes
period_told Always recipe bytes z same = λ i. cond (eqb (same 0 (lit< tt) i) 2) (Days (day_in bytes 3) (day_in bytes 7)) Always
period_told (Days first last) recipe bytes z same =
    let a : day_in bytes 3 ≡ first =
    (λ i. same 3 (lit< tt) i * 16777216 + same 4 (lit< tt) i * 65536 + same 5 (lit< tt) i * 256 + same 6 (lit< tt) i) ∙ day_back first z.0 in
    let b : day_in bytes 7 ≡ last =
    (λ i. same 7 (lit< tt) i * 16777216 + same 8 (lit< tt) i * 65536 + same 9 (lit< tt) i * 256 + same 10 (lit< tt) i) ∙ day_back last z.1 in
    λ i. cond (eqb (same 0 (lit< tt) i) 2) (Days (a i) (b i)) Always

-- so a get finds it good inside its term, and outside it not
pub get-told : (period : Period) (recipe bytes : List ℕ) → length recipe < 65536 → Small period
    → ((i : ℕ) → i < head_size (version_of period) → get_or bytes i 0 ≡ image period recipe i) → (g : Geometry) → length recipe ≤ limit_of g (version_of period) → (today : ℕ)
    → get_verdict g today bytes ≡ cond (is_within period today) Good Outside
unfolding get_verdict
get-told period recipe bytes few z same g l today =
    ap (λ (b : Bool). cond b (cond (is_within (period_in bytes) today) Good Outside) Blank) (record_told period recipe bytes few same g l)
    ∙ ap (λ (p : Period). cond (is_within p today) Good Outside) (period_told period recipe bytes z same)

-- ---- the recipe

-- the bytes behind the head
pub recipe_told : (period : Period) (recipe bytes : List ℕ) → head_size (version_of period) + length recipe ≤ length bytes
    → ((i : ℕ) → i < head_size (version_of period) + length recipe → get_or bytes i 0 ≡ image period recipe i)
    → take (length recipe) (drop (head_size (version_of period)) bytes) ≡ recipe
recipe_told period recipe bytes l same =
    let h = head_size (version_of period) in
    sym (tabulate-part (length recipe) h bytes 0 l)
    ∙ tabulate-same (length recipe) (λ i. get_or bytes (h + i) 0) (λ i. get_or recipe i 0)
    (λ i k. let e : h + i - h ≡ i = omega arith in same (h + i) (omega arith) ∙ image-byte period recipe (h + i) (omega arith) ∙ ap (λ (j : ℕ). get_or recipe j 0) e)
    ∙ tabulate-get_or recipe 0

-- ---- a patch

-- a byte of the head is no byte of a patch
head-kept : (head place : ℕ) (bytes : List ℕ) (x i : ℕ) → i < head → patched head place bytes x i ≡ x
unfolding patched
head-kept head place bytes x i l = λ j. cond (lt-leb (head + place) i (omega arith) j && ltb i (head + place + length bytes)) (get_or bytes (i - (head + place)) 0) x

-- a byte of the recipe is the patch's or stays
body_patched : (head place : ℕ) (bytes recipe : List ℕ) → place + length bytes ≤ length recipe → (i : ℕ) → head ≤ i
    → patched head place bytes (get_or recipe (i - head) 0) i ≡ get_or (splice place bytes recipe) (i - head) 0
unfolding patched
body_patched head place bytes recipe l i k = go (leb (head + place) i) (ltb i (head + place + length bytes)) refl refl
  where
    go : (a b : Bool) → leb (head + place) i ≡ a → ltb i (head + place + length bytes) ≡ b
        → cond (a && b) (get_or bytes (i - (head + place)) 0) (get_or recipe (i - head) 0) ≡ get_or (splice place bytes recipe) (i - head) 0
    go true true e f =
        let x = leb-true (head + place) i e in
        let y = ltb-true i (head + place + length bytes) f in
        let q : i - (head + place) ≡ i - head - place = omega arith in
        ap (λ (n : ℕ). get_or bytes n 0) q ∙ sym (splice_in place bytes recipe (i - head) 0 (omega (arith, x)) (omega (arith, x, y)) (omega (arith, x, y)))
    go true false e f = let y = ltb-false i (head + place + length bytes) f in sym (splice-after place bytes recipe (i - head) 0 (omega (arith, y)))
    go false b e f = let x = leb-false (head + place) i e in sym (splice_before place bytes recipe (i - head) 0 (omega (arith, x)))

-- patching the record is storing the patched recipe; its length stays
pub image-patched : (period : Period) (place : ℕ) (bytes recipe : List ℕ) → place + length bytes ≤ length recipe → (i : ℕ)
    → patched (head_size (version_of period)) place bytes (image period recipe i) i ≡ image period (splice place bytes recipe) i
image-patched period place bytes recipe l i = go (ltb i h) refl
  where
    h : ℕ
    h = head_size (version_of period)

    go : (b : Bool) → ltb i h ≡ b → patched h place bytes (image period recipe i) i ≡ image period (splice place bytes recipe) i
    go true e =
        let k = ltb-true i h e in
        head-kept h place bytes (image period recipe i) i k ∙ image-head period recipe i k
        ∙ ap (λ (n : ℕ). get_or (head_of period n) i 0) (sym (length-splice place bytes recipe)) ∙ sym (image-head period (splice place bytes recipe) i k)
    go false e =
        let k = ltb-false i h e in
        ap (λ (x : ℕ). patched h place bytes x i) (image-byte period recipe i k) ∙ body_patched h place bytes recipe l i k
        ∙ sym (image-byte period (splice place bytes recipe) i k)
