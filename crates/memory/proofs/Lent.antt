-- Parts that are lent and come back: a page, a run of pages, the beginning of a buffer, the lead and the data of a reply. A part of the
-- array begins at its first page's start and is as long as its pages, so it lies in the array, and what comes back is spliced in there.
-- Assumes nothing.
use mathlib.Core.Path.{◌≡◌, refl, sym, ap, ◌∙◌}
use mathlib.Core.Bool.{cond}
use mathlib.Core.List.{List, ◌∷◌, ◌++◌, append-nil}
use Prim.Native.Nat.{ℕ, zero, suc, ◌+◌, ◌-◌, ◌*◌, ◌/◌, ◌%◌, ◌≤◌, ◌<◌, min, zero-le}
use native.Mathlib.Numerals.{unary_clauses}
use native.Mathlib.Nat.{sub-zero}
use native.Mathlib.Omega.{arith}
use lib.Dec.{eqb}
use lib.ListN.{length, take, drop, replicate, length-append, length-take, length-drop, length-replicate}
use lib.Seq.{take_at, drop_at, take-take, take_all, take-length, drop-length, length-take-le}
use borrow.Author.Tests.{eq-eqb, ne_eqb}
use Rattle.slices.specs.Lists.{over, splice, tabulate}
use Rattle.slices.proofs.Laws.{part_length, run-part, spliced, head_spliced, splice-zero}
use Rattle.geometry.specs.declared.Geometry.{Geometry}
use Rattle.geometry.specs.declared.Run.{Run}
use Rattle.geometry.specs.Parts.{Sized, page_start, page_of}
use Rattle.geometry.specs.Sectors.{sector_run, sector_count}
use Rattle.geometry.proofs.Pages.{page_within, length-page_of, start_add}
use Rattle.memory.specs.Pages.{each_sector, in_sectors}
use Rattle.memory.specs.Replies.{replied, once_data}
use Rattle.memory.proofs.Replies.{replied-parts, once_parts}

-- ---- a page: `&array[a..a + size]`, where a is the page's start
pub page_end : {g : Geometry} {page a : ℕ} (xs : List ℕ) → Sized g (length xs) → page < g.pages → a ≡ page_start g page → a + g.size ≤ length xs
page_end {g = g} {page = page} xs z l at = omega (arith, page_within g page l, z.whole)

pub page_part : (g : Geometry) (page : ℕ) {a : ℕ} (xs : List ℕ) → a ≡ page_start g page → take (a + g.size - a) (drop a xs) ≡ page_of g page xs
unfolding page_of
page_part g page {a = a} xs at = run-part a g.size xs ∙ ap (λ (k : ℕ). take g.size (drop k xs)) at

-- it is as long as what a buffer has for it
pub page_long : {g : Geometry} {page a : ℕ} (xs buffer : List ℕ) → Sized g (length xs) → page < g.pages → g.size ≤ length buffer → a ≡ page_start g page
    → length (take (a + g.size - a) (drop a xs)) ≡ length (take g.size buffer)
page_long {g = g} {page = page} xs buffer z l h at =
    ap length (page_part g page xs at) ∙ length-page_of g page xs z l ∙ sym (length-take-le g.size buffer h)

-- as `&mut`, it comes back as zs
pub page_back : {g : Geometry} {page a : ℕ} (xs : List ℕ) {ys zs : List ℕ} → Sized g (length xs) → page < g.pages → a ≡ page_start g page → ys ≡ zs → length zs ≡ g.size
    → take a xs ++ (ys ++ drop (a + g.size - a) (drop a xs)) ≡ splice (page_start g page) zs xs
page_back {g = g} {a = a} xs {zs = zs} z l at e n =
    spliced a xs {k = a + g.size - a} (omega (arith, page_end xs z l at)) (omega arith) e ∙ ap (λ (k : ℕ). splice k zs xs) at

-- ---- a run of pages: `&mut array[a..e]`, where the run's first page starts at a and the page after its last at e
module _ (g : Geometry) (r : Run) {a e : ℕ} (at : a ≡ page_start g r.first) (to : e ≡ page_start g (r.first + r.count)) where
  pub run_end : e ≡ a + r.count * g.size
  run_end = omega (arith, start_add g r.first r.count)

  pub run_long : (xs : List ℕ) → e ≤ length xs → length (take (e - a) (drop a xs)) ≡ r.count * g.size
  run_long xs h = omega (arith, run_end, part_length a e xs (omega (arith, run_end)) h)

  -- as many bytes of another list, from `base` and the run's start on
  pub run_from : (base : ℕ) (js : List ℕ) → take (base + e - (base + a)) (drop (base + a) js) ≡ take (r.count * g.size) (drop (base + page_start g r.first) js)
  run_from base js =
      let k : base + e - (base + a) ≡ r.count * g.size = omega (arith, run_end) in
      rw (k, at)

  -- it comes back as zs
  pub run_back : (xs : List ℕ) {ys zs : List ℕ} → e ≤ length xs → ys ≡ zs → length zs ≡ r.count * g.size
      → take a xs ++ (ys ++ drop (e - a) (drop a xs)) ≡ splice (page_start g r.first) zs xs
  run_back xs {zs = zs} l h n =
      spliced a xs {k = e - a} (omega (arith, run_end)) (omega (arith, run_end)) h ∙ ap (λ (k : ℕ). splice k zs xs) at

-- ---- the beginning of a buffer: `&mut buffer[..k]` comes back as zs
pub over_back : {k : ℕ} (xs : List ℕ) {ys zs : List ℕ} → k ≤ length xs → ys ≡ zs → length zs ≡ k → ys ++ drop k xs ≡ over zs xs
over_back xs {zs = zs} l e n = head_spliced xs l (sym n) e ∙ splice-zero zs xs

-- ---- sectors one after another: at sector s, with m what is left of the set, xs is left of the array
pub record Passed (f : Run → List ℕ → List ℕ) (g : Geometry) (sectors : ℕ) (xs₀ : List ℕ) (s m : ℕ) (xs : List ℕ) : Type 0 where
  pub few : s ≤ sector_count g
  pub long : length xs ≡ length xs₀
  pub rest : each_sector f g (sector_count g - s) s m xs ≡ in_sectors f g sectors xs₀

step : (f : Run → List ℕ → List ℕ) (g : Geometry) (n s m : ℕ) (xs : List ℕ) → each_sector f g (suc n) s m xs ≡ each_sector f g n (s + 1) (m / 2) (cond (eqb (m % 2) 1) (f (sector_run g s) xs) xs)
unfolding each_sector
step f g n s m xs = refl

none_left : (f : Run → List ℕ → List ℕ) (g : Geometry) (n s m : ℕ) (xs : List ℕ) → n ≡ 0 → each_sector f g n s m xs ≡ xs
unfolding each_sector
none_left f g n s m xs e = rw e

module _ {f : Run → List ℕ → List ℕ} {g : Geometry} {sectors : ℕ} {xs₀ : List ℕ} where
  pub passed_none : Passed f g sectors xs₀ 0 sectors xs₀
  unfolding in_sectors
  passed_none = record { few = zero-le; long = refl; rest = ap (λ (n : ℕ). each_sector f g n 0 sectors xs₀) (sub-zero (sector_count g)) }

  next : {s m : ℕ} {xs ys : List ℕ} → Passed f g sectors xs₀ s m xs → s < sector_count g → length ys ≡ length xs → ys ≡ cond (eqb (m % 2) 1) (f (sector_run g s) xs) xs
      → Passed f g sectors xs₀ (s + 1) (m / 2) ys
  next {s = s} {m = m} {xs = xs} {ys = ys} p h l e =
      let k : sector_count g - s ≡ suc (sector_count g - (s + 1)) = omega arith in
      let d : each_sector f g (sector_count g - s) s m xs ≡ each_sector f g (sector_count g - (s + 1)) (s + 1) (m / 2) ys = rw (k, e) (step f g (sector_count g - (s + 1)) s m xs) in
      record { few = omega arith; long = l ∙ p.long; rest = sym d ∙ p.rest }

  -- sector s is in the set, and is done
  pub passed_done : {s m : ℕ} {xs ys : List ℕ} {r : Run} → Passed f g sectors xs₀ s m xs → s < sector_count g → m % 2 ≡ 1 → r ≡ sector_run g s → length ys ≡ length xs → ys ≡ f r xs
      → Passed f g sectors xs₀ (s + 1) (m / 2) ys
  passed_done {m = m} {xs = xs} p h t q l e = next p h l (rw (eq-eqb (m % 2) 1 t) (e ∙ ap (λ (k : Run). f k xs) q))

  -- it is not, and is left
  pub passed_by : {s m : ℕ} {xs ys : List ℕ} → Passed f g sectors xs₀ s m xs → s < sector_count g → (m % 2 ≡ 1 → ⊥) → ys ≡ xs → Passed f g sectors xs₀ (s + 1) (m / 2) ys
  passed_by {m = m} p h t e = next p h (ap length e) (rw (ne_eqb (m % 2) 1 t) e)

  pub passed_all : {s m : ℕ} {xs : List ℕ} → Passed f g sectors xs₀ s m xs → sector_count g ≤ s → xs ≡ in_sectors f g sectors xs₀
  passed_all {s = s} {m = m} {xs = xs} p h = sym (none_left f g (sector_count g - s) s m xs (omega arith)) ∙ p.rest

-- ---- a reply: `&mut reply[..lead]` comes back as ls, and then `&mut reply[lead..]` as ds
pub led : (lead : ℕ) (xs ls ds : List ℕ) (f : ℕ → ℕ) → lead ≤ length xs → ls ≡ replicate (length (take lead xs)) 255
    → ds ≡ tabulate (length (take (length (ls ++ drop lead xs) - lead) (drop lead (ls ++ drop lead xs)))) f
    → take lead (ls ++ drop lead xs) ++ (ds ++ drop (length (ls ++ drop lead xs) - lead) (drop lead (ls ++ drop lead xs))) ≡ replied (length xs) lead f
led lead xs ls ds f h e q =
    let p : ls ≡ replicate lead 255 = e ∙ ap (λ (n : ℕ). replicate n 255) (length-take-le lead xs h) in
    let n : length ls ≡ lead = ap length p ∙ length-replicate lead 255 in
    let k : length (ls ++ drop lead xs) - lead ≡ length (drop lead xs) = simp length-append (omega arith) in
    let t : ds ≡ tabulate (length xs - lead) f = rw (k, drop_at ls (drop lead xs) lead n, take-length (drop lead xs), length-drop lead xs) at q in
    rw (k, take_at ls (drop lead xs) lead n, drop_at ls (drop lead xs) lead n, drop-length (drop lead xs), append-nil ds, p, t)
    (sym (replied-parts (length xs) lead f h))

-- ---- a reply of bytes read once: all of it is FFh, and then `&mut reply[lead..lead + k]` comes back as the first k bytes
take_same : (a n v : ℕ) → a ≤ n → take a (replicate n v) ≡ replicate a v
take_same zero n v h = refl
take_same (suc a) zero v h = absurd (omega arith)
take_same (suc a) (suc n) v h = ap (λ (l : List ℕ). v ∷ l) (take_same a n v (omega arith))

drop-same : (a n v : ℕ) → drop a (replicate n v) ≡ replicate (n - a) v
drop-same zero n v = simp unary_clauses
drop-same (suc a) zero v =
    let e : 0 - suc a ≡ 0 = omega arith in
    rw e
drop-same (suc a) (suc n) v = simp unary_clauses (drop-same a n v)

take_min : (n k : ℕ) (xs : List ℕ) → k ≡ min n (length xs) → take k xs ≡ take n xs
take_min n k xs e = sym (take-take k n xs (omega arith)) ∙ take_all k (take n xs) (simp length-take (omega arith))

pub once : (n lead k : ℕ) (bytes l m : List ℕ) → lead ≤ n → l ≡ replicate n 255 → k ≡ min (length l - lead) (length bytes) → m ≡ take k bytes
    → take lead l ++ (m ++ drop (lead + k - lead) (drop lead l)) ≡ replied n lead (once_data bytes)
once n lead k bytes l m h p e q =
    let c : length l ≡ n = ap length p ∙ length-replicate n 255 in
    let j : lead + k - lead ≡ k = omega arith in
    let i : n - lead - k ≡ n - lead - length bytes = omega arith in
    let t : take k bytes ≡ take (n - lead) bytes = take_min (n - lead) k bytes (rw c at e) in
    rw (j, p, q, take_same lead n 255 h, drop-same lead n 255, drop-same k (n - lead) 255, i, t, replied-parts n lead (once_data bytes) h, once_parts (n - lead) bytes)
