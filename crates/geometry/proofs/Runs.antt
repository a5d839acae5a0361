-- Runs of pages: which pages and which bytes of the array a run takes.
-- Assumes nothing.
use Prim.Native.Nat.{ℕ, ◌+◌, ◌*◌, ◌/◌, ◌≤◌, ◌<◌}
use native.Mathlib.Nat.{div-lt_iff_lt-mul, le-div_iff_mul-le}
use native.Mathlib.Omega.{arith}
use lib.Dec.{ltb, leb}
use mathlib.Core.Bool.{Bool, true, false, ◌&&◌, true≢false, false≢true, and-false}
use mathlib.Core.Logic.{◌⊎◌, inl, inr, ⊎_map}
use mathlib.Core.Path.{◌≡◌, refl}
use borrow.Author.Tests.{ltb-true, ltb-false, leb-true, leb-false, le-leb, lt-ltb, lt-leb, le-ltb}
use Rattle.geometry.specs.declared.Geometry.{Geometry}
use Rattle.geometry.specs.declared.Run.{Run}
use Rattle.geometry.specs.Parts.{page_start, in_run}
use Rattle.geometry.proofs.Pages.{start_add}

-- a page in a run is one of its `count` from its first on
pub run-pages : (r : Run) (page : ℕ) → in_run r page ≡ true → (r.first ≤ page) × (page < r.first + r.count)
unfolding in_run
run-pages r page = go (leb r.first page) (ltb page (r.first + r.count)) refl refl
  where
    go : (a b : Bool) → leb r.first page ≡ a → ltb page (r.first + r.count) ≡ b → a && b ≡ true → (r.first ≤ page) × (page < r.first + r.count)
    go true true e f h = (leb-true r.first page e, ltb-true page (r.first + r.count) f)
    go true false e f h = absurd (false≢true h)
    go false b e f h = absurd (false≢true h)

-- .. and such a page is in the run
pub pages-run : (r : Run) (page : ℕ) → r.first ≤ page → page < r.first + r.count → in_run r page ≡ true
unfolding in_run
pages-run r page l h = rw (le-leb r.first page l, lt-ltb page (r.first + r.count) h)

-- a page not in a run lies before it or after it
pub run_others : (r : Run) (page : ℕ) → in_run r page ≡ false → (page < r.first) ⊎ (r.first + r.count ≤ page)
unfolding in_run
run_others r page = go (leb r.first page) (ltb page (r.first + r.count)) refl refl
  where
    go : (a b : Bool) → leb r.first page ≡ a → ltb page (r.first + r.count) ≡ b → a && b ≡ false → (page < r.first) ⊎ (r.first + r.count ≤ page)
    go true true e f h = absurd (true≢false h)
    go true false e f h = inr (ltb-false page (r.first + r.count) f)
    go false b e f h = inl (leb-false r.first page e)

pub before_run : (r : Run) (page : ℕ) → page < r.first → in_run r page ≡ false
unfolding in_run
before_run r page l = rw (lt-leb r.first page l)

pub after_run : (r : Run) (page : ℕ) → r.first + r.count ≤ page → in_run r page ≡ false
unfolding in_run
after_run r page l = rw (le-ltb page (r.first + r.count) l, and-false)

module _ (g : Geometry) (r : Run) (k : ℕ) (some : 0 < g.size) where
  -- byte k of the array lies in a page of the run: it is one of the run's bytes
  pub run-bytes : in_run r (k / g.size) ≡ true → (page_start g r.first ≤ k) × (k < page_start g r.first + r.count * g.size)
  unfolding page_start
  run-bytes e =
      let p = run-pages r (k / g.size) e in (
        (le-div_iff_mul-le some).0 p.0,
        omega (arith, start_add g r.first r.count, (div-lt_iff_lt-mul some).0 p.1),
      )

  pub bytes_run : page_start g r.first ≤ k → k < page_start g r.first + r.count * g.size → in_run r (k / g.size) ≡ true
  unfolding page_start
  bytes_run l h =
      pages-run r (k / g.size) ((le-div_iff_mul-le some).1 l) ((div-lt_iff_lt-mul some).1 (omega (arith, start_add g r.first r.count)))

  -- byte k lies in no page of the run: it comes before the run's bytes or after them
  pub run-spares : in_run r (k / g.size) ≡ false → (k < page_start g r.first) ⊎ (page_start g r.first + r.count * g.size ≤ k)
  unfolding page_start
  run-spares e =
      ⊎_map
      (λ l. (div-lt_iff_lt-mul some).0 l)
      (λ l. omega (arith, start_add g r.first r.count, (le-div_iff_mul-le some).0 l))
      (run_others r (k / g.size) e)
