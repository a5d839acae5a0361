-- Pages of a part: a page is `size` bytes from `page * size` on, so where pages lie is multiplication and division by `size`.
-- Assumes nothing.
use Rattle.std.specs.Prelude.{Option, Some}
use Prim.Native.Nat.{ℕ, ◌+◌, ◌*◌, ◌/◌, ◌%◌, ◌≤◌, ◌<◌}
use native.Mathlib.Nat.{zero-mul, add-mul, mul-le-mul, mul-le-mul_right, div-lt_iff_lt-mul}
use native.Mathlib.Omega.{arith}
use lib.Arith.{digits_div}
use lib.Dec.{eqb, lit≤, lit<}
use lib.ListN.{length, get_or, length-take, length-drop}
use lib.Seq.{get_or-take, get_or-drop}
use mathlib.Core.Bool.{Bool, true, false, cond}
use mathlib.Core.List.{List, [], ◌∷◌}
use mathlib.Core.Path.{◌≡◌, refl, subst, subst⁻¹}
use borrow.Author.Tests.{eqb-true}
use Rattle.geometry.specs.declared.Geometry.{Geometry}
use Rattle.geometry.specs.Parts.{row, parts, part_among, part_of, page_room, Sized, page_start, page_of}

-- what holds of each of a list of parts
unfoldable pub Each : (Geometry → Type 0) → List Geometry → Type 0
Each Q [] = Unit
Each Q (g ∷ gs) = Q g × Each Q gs

-- what holds of each row of the table of parts holds of a known part, whose array is its pages and nothing else
pub known_case : (Q : Geometry → Type 0) → Each Q parts → (n : ℕ) (g : Geometry) → part_of n ≡ Some g → Q g × (n ≡ g.pages * g.size)
unfolding part_of part_among Each
known_case Q each n g = go parts each
  where
    at : (h : Geometry) (rest : Option Geometry) → Q h → (rest ≡ Some g → Q g × (n ≡ g.pages * g.size)) → (b : Bool) → eqb n (h.pages * h.size) ≡ b
        → cond b (Some h) rest ≡ Some g → Q g × (n ≡ g.pages * g.size)
    at h rest q others true e j =
        let f : h ≡ g = cc in subst (λ (x : Geometry). Q x × (n ≡ x.pages * x.size)) f (q, eqb-true n (h.pages * h.size) e)
    at h rest q others false e j = others j

    go : (gs : List Geometry) → Each Q gs → part_among gs n ≡ Some g → Q g × (n ≡ g.pages * g.size)
    go [] q k = let z : ◌≡◌ {A = ℕ} 0 1 = cc in absurd (omega arith)
    go (h ∷ hs) q k = at h (part_among hs n) q.0 (go hs q.1) (eqb n (h.pages * h.size)) refl k

-- what the code and the laws go by holds of each row
row_sized : (size pages field : ℕ) (binary : Bool) → 64 ≤ size → size ≤ page_room → 0 < field → field * pages ≤ 16777216 → 8 ≤ pages → pages % 8 ≡ 0 → pages ≤ 4096
    → Sized (row size pages field binary) (pages * size)
row_sized size pages field binary some most addressed named blocks eights few =
    record {
      some = some;
      most = most;
      addressed = addressed;
      named = named;
      blocks = blocks;
      eights = eights;
      few = few;
      whole = refl;
      wide = omega arith;
      narrow = omega arith;
      parted = refl;
      held = omega arith;
      short = omega arith;
    }

pub parts_sized : Each (λ g. Sized g (g.pages * g.size)) parts
unfolding parts Each
parts_sized = (
  row_sized 264 4096 512 false (lit≤ tt) (lit≤ tt) (lit< tt) (lit≤ tt) (lit≤ tt) refl (lit≤ tt),
  (
    row_sized 264 128 512 false (lit≤ tt) (lit≤ tt) (lit< tt) (lit≤ tt) (lit≤ tt) refl (lit≤ tt),
    (
      row_sized 256 4096 256 true (lit≤ tt) (lit≤ tt) (lit< tt) (lit≤ tt) (lit≤ tt) refl (lit≤ tt),
      (row_sized 256 128 256 true (lit≤ tt) (lit≤ tt) (lit< tt) (lit≤ tt) (lit≤ tt) refl (lit≤ tt), tt),
    ),
  ),
)

pub sized : (n : ℕ) (g : Geometry) → part_of n ≡ Some g → Sized g n
sized n g e = let k = known_case (λ h. Sized h (h.pages * h.size)) parts_sized n g e in subst⁻¹ (Sized g) k.1 k.0

-- .. and is short enough for every index to fit
pub sized_small : (g : Geometry) (n : ℕ) → Sized g n → g.pages * g.size ≤ 4096 * page_room
sized_small g n z = mul-le-mul z.few z.most

-- the geometry says this of the part itself
pub sized_own : (g : Geometry) (n : ℕ) → Sized g n → Sized g (g.pages * g.size)
sized_own g n z = subst (λ (m : ℕ). Sized g m) z.whole z

-- the part has the whole block of each of its pages
pub block-few : (g : Geometry) (n page : ℕ) → Sized g n → page < g.pages → page / 8 < g.pages / 8
block-few g n page z l = omega (arith, z.eights)

module _ (g : Geometry) where
  pub start-zero : page_start g 0 ≡ 0
  unfolding page_start
  start-zero = zero-mul g.size

  -- the array ends where a page after the last would begin
  pub start-all : page_start g g.pages ≡ g.pages * g.size
  unfolding page_start
  start-all = refl

  pub start_mono : (a b : ℕ) → a ≤ b → page_start g a ≤ page_start g b
  unfolding page_start
  start_mono a b l = mul-le-mul_right g.size l

  -- where a run of pages ends
  pub start_add : (first count : ℕ) → page_start g (first + count) ≡ page_start g first + count * g.size
  unfolding page_start
  start_add first count = add-mul first count g.size

  -- .. and that is in the array
  pub run-within : (first count : ℕ) → first + count ≤ g.pages → page_start g first + count * g.size ≤ g.pages * g.size
  run-within first count l = omega (arith, start_add first count, start_mono (first + count) g.pages l, start-all)

  pub start-next : (page : ℕ) → page_start g (page + 1) ≡ page_start g page + g.size
  start-next page = omega (arith, start_add page 1)

  pub page_within : (page : ℕ) → page < g.pages → page_start g page + g.size ≤ g.pages * g.size
  page_within page l = omega (arith, run-within page 1 (omega arith))

  pub start-within : (page : ℕ) → page ≤ g.pages → page_start g page ≤ g.pages * g.size
  start-within page l = omega (arith, start_mono page g.pages l, start-all)

  -- byte i of a page lies in that page
  pub byte_page : (page i : ℕ) → i < g.size → (page_start g page + i) / g.size ≡ page
  unfolding page_start
  byte_page page i l = digits_div page l

  -- a byte of the array lies in a page of the part
  pub page_few : (k : ℕ) → 0 < g.size → k < g.pages * g.size → k / g.size < g.pages
  page_few k s l = (div-lt_iff_lt-mul s).1 l

  pub length-page_of : (page : ℕ) (xs : List ℕ) → Sized g (length xs) → page < g.pages → length (page_of g page xs) ≡ g.size
  unfolding page_of
  length-page_of page xs z l = simp (length-take, length-drop) (omega (arith, page_within page l, z.whole))

  pub get_or-page_of : (page : ℕ) (xs : List ℕ) (i : ℕ) → i < g.size → get_or (page_of g page xs) i 0 ≡ get_or xs (page_start g page + i) 0
  unfolding page_of
  get_or-page_of page xs i l = rw (get_or-take, get_or-drop)
