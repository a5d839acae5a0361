-- Sectors: a page is in a sector's run where, and only where, it is in the sector. Each sector after 0b is one quotient of the page by the
-- pages of a sector.
-- Assumes nothing.
use Prim.Native.Nat.{ℕ, zero, suc, ◌+◌, ◌-◌, ◌*◌, ◌/◌, ◌%◌, ◌≤◌, ◌<◌}
use native.Mathlib.Nat.{mul-suc, mul_comm, mul_assoc, mul-le-mul_left, zero-mul, mul-div-le, lt-mul-div-succ, le-div_iff_mul-le, div-lt_iff_lt-mul, div-le_self}
use native.Mathlib.Numerals.{add-one}
use native.Mathlib.Omega.{arith}
use lib.Dec.{eqb, ltb}
use mathlib.Core.Bool.{Bool, true, false, cond}
use mathlib.Core.Path.{◌≡◌, refl, sym, ap, subst, ◌∙◌}
use borrow.Author.Tests.{ltb-true, ltb-false, eq-eqb, eqb-true}
use Rattle.geometry.specs.declared.Geometry.{Geometry}
use Rattle.geometry.specs.Parts.{in_run, register_room, Sized}
use Rattle.geometry.specs.Sectors.{sector_of, first_page, end_page, sector_run, sector_count}
use Rattle.geometry.proofs.Runs.{run-pages, pages-run}

-- a sector after 0b begins at a multiple of a sector's pages
pub first-high : (g : Geometry) (s : ℕ) → 2 ≤ s → first_page g s ≡ g.span * (s - 1)
unfolding first_page
first-high g zero l = absurd (omega arith)
first-high g (suc zero) l = absurd (omega arith)
first-high g (suc (suc j)) l = ap (λ (n : ℕ). g.span * n) (omega arith)

-- a sector after 0a ends at one
pub end-high : (g : Geometry) (s : ℕ) → 1 ≤ s → end_page g s ≡ g.span * s
unfolding end_page
end-high g zero l = absurd (omega arith)
end-high g (suc j) l = refl

-- what holds of 0 for a page of 0a, and of the quotient's sector for any other, holds of the page's sector
by_page : (g : Geometry) (Q : ℕ → Type 0) (page : ℕ) → (page < 8 → Q 0) → (8 ≤ page → Q (page / g.span + 1)) → Q (sector_of g page)
unfolding sector_of
by_page g Q page a b = go (ltb page 8) refl
  where
    go : (t : Bool) → ltb page 8 ≡ t → Q (cond t 0 (page / g.span + 1))
    go true e = a (ltb-true page 8 e)
    go false e = b (ltb-false page 8 e)

module _ (g : Geometry) (wide : 8 < g.span) where
  -- no sector is empty
  pub first-end : (s : ℕ) → first_page g s < end_page g s
  unfolding first_page end_page
  first-end zero = omega arith
  first-end (suc zero) = omega (arith, mul-suc g.span zero)
  first-end (suc (suc j)) = omega (arith, mul-suc g.span (suc j))

  -- sectors follow one another
  pub first_mono : (s t : ℕ) → s ≤ t → first_page g s ≤ first_page g t
  unfolding first_page
  first_mono zero t l = omega arith
  first_mono (suc zero) zero l = absurd (omega arith)
  first_mono (suc zero) (suc zero) l = omega arith
  first_mono (suc zero) (suc (suc i)) l = omega (arith, mul-suc g.span i)
  first_mono (suc (suc j)) zero l = absurd (omega arith)
  first_mono (suc (suc j)) (suc zero) l = absurd (omega arith)
  first_mono (suc (suc j)) (suc (suc i)) l = mul-le-mul_left g.span (omega arith)

  some : 0 < g.span
  some = omega arith

  -- a page lies between two multiples of a sector's pages ..
  quotient_low : (page : ℕ) → g.span * (page / g.span) ≤ page
  quotient_low page = mul-div-le page g.span

  quotient_high : (page : ℕ) → page < g.span * (page / g.span + 1)
  quotient_high page = lt-mul-div-succ page some

  -- .. and which they are decides its quotient
  quotient_only : (page q : ℕ) → g.span * q ≤ page → page < g.span * (q + 1) → page / g.span ≡ q
  quotient_only page q l h =
      let a : q ≤ page / g.span = (le-div_iff_mul-le {k = g.span} {x = q} {y = page} some).1 (omega (arith, mul_comm q g.span)) in
      let b : page / g.span < q + 1 = (div-lt_iff_lt-mul {k = g.span} {x = page} {y = q + 1} some).1 (omega (arith, mul_comm (q + 1) g.span)) in
      omega arith

  quotient_mono : (page q : ℕ) → page ≤ q → page / g.span ≤ q / g.span
  quotient_mono page q l =
      (le-div_iff_mul-le {k = g.span} {x = page / g.span} {y = q} some).1 (omega (arith, mul_comm (page / g.span) g.span, quotient_low page))

  first_next : (q page : ℕ) → 8 ≤ page → g.span * q ≤ page → first_page g (q + 1) ≤ page
  unfolding first_page
  first_next zero page a b = a
  first_next (suc j) page a b = rw (add-one (suc j)) b

  -- a page lies in its sector
  pub sector_first : (page : ℕ) → first_page g (sector_of g page) ≤ page
  unfolding first_page
  sector_first page =
      by_page g (λ s. first_page g s ≤ page) page (λ a. omega arith) (λ a. first_next (page / g.span) page a (quotient_low page))

  pub sector_end : (page : ℕ) → page < end_page g (sector_of g page)
  unfolding end_page
  sector_end page =
      by_page g (λ s. page < end_page g s) page
      (λ a. a)
      (λ a. omega (arith, end-high g (page / g.span + 1) (omega arith), quotient_high page))

  -- .. and in no other
  pub sector_only : (page s : ℕ) → first_page g s ≤ page → page < end_page g s → sector_of g page ≡ s
  unfolding first_page end_page
  sector_only page zero l h = by_page g (λ t. t ≡ 0) page (λ a. refl) (λ a. absurd (omega arith))
  sector_only page (suc zero) l h =
      by_page g (λ t. t ≡ 1) page
      (λ a. absurd (omega arith))
      (λ a. omega (arith, quotient_only page 0 (omega arith) (omega arith)))
  sector_only page (suc (suc j)) l h =
      by_page g (λ t. t ≡ suc (suc j)) page
      (λ a. absurd (omega (arith, mul-suc g.span j)))
      (λ a. omega (arith, quotient_only page (suc j) l (rw (add-one (suc j)) h)))

  pub sector_mono : (page q : ℕ) → page ≤ q → sector_of g page ≤ sector_of g q
  sector_mono page q l =
      by_page g (λ s. s ≤ sector_of g q) page
      (λ a. omega arith)
      (λ a. by_page g (λ t. page / g.span + 1 ≤ t) q (λ b. absurd (omega arith)) (λ b. omega (arith, quotient_mono page q l)))

  -- a sector's number is small where the page's is
  pub sector_small : (page : ℕ) → sector_of g page ≤ page + 1
  sector_small page = by_page g (λ s. s ≤ page + 1) page (λ a. omega arith) (λ a. omega (arith, div-le_self page g.span))

  -- the eight pages of a block lie in one sector, where a sector is whole blocks
  pub block_sector : (b k : ℕ) → g.span % 8 ≡ 0 → k < 8 → sector_of g (8 * b + k) ≡ sector_of g (8 * b)
  block_sector b k e l =
      by_page g (λ s. s ≡ sector_of g (8 * b)) (8 * b + k)
      (λ h. by_page g (λ t. 0 ≡ t) (8 * b) (λ u. refl) (λ u. absurd (omega arith)))
      (λ h. by_page g (λ t. (8 * b + k) / g.span + 1 ≡ t) (8 * b) (λ u. absurd (omega arith)) (λ u. ap (λ (n : ℕ). n + 1) quotients))
    where
      q : ℕ
      q = 8 * b / g.span

      ends : g.span * (q + 1) ≡ 8 * (g.span / 8 * (q + 1))
      ends =
          let d : g.span ≡ 8 * (g.span / 8) = omega arith in
          ap (λ (n : ℕ). n * (q + 1)) d ∙ mul_assoc 8 (g.span / 8) (q + 1)

      quotients : (8 * b + k) / g.span ≡ q
      quotients =
          quotient_only (8 * b + k) q (omega (arith, quotient_low (8 * b))) (omega (arith, ends, quotient_high (8 * b)))

same : (a b : Bool) → (a ≡ true → b ≡ true) → (b ≡ true → a ≡ true) → a ≡ b
same true b f h = sym (f refl)
same false true f h = h refl
same false false f h = refl

-- a sector's run ends in the part
pub sector_within : (g : Geometry) (s : ℕ) → (sector_run g s).first + (sector_run g s).count ≤ g.pages
unfolding sector_run
sector_within g s = omega arith

module _ (g : Geometry) (wide : 8 < g.span) where
  -- a page of the part is in a sector's run where it is in the sector
  pub sector_run_lem : (s page : ℕ) → page < g.pages → in_run (sector_run g s) page ≡ eqb (sector_of g page) s
  unfolding sector_run
  sector_run_lem s page l = same (in_run (sector_run g s) page) (eqb (sector_of g page) s) there back
    where
      there : in_run (sector_run g s) page ≡ true → eqb (sector_of g page) s ≡ true
      there e =
          let p = run-pages (sector_run g s) page e in
          eq-eqb (sector_of g page) s (sector_only g wide page s (omega (arith, p.0, first-end g wide s)) (omega (arith, p.1, first-end g wide s)))

      back : eqb (sector_of g page) s ≡ true → in_run (sector_run g s) page ≡ true
      back e =
          let q = eqb-true (sector_of g page) s e in
          let a : first_page g s ≤ page = subst (λ t. first_page g t ≤ page) q (sector_first g wide page) in
          let b : page < end_page g s = subst (λ t. page < end_page g t) q (sector_end g wide page) in
          pages-run (sector_run g s) page (omega arith) (omega (arith, first-end g wide s))

  -- a page of the part is in one of its sectors
  pub sector_few : (page : ℕ) → page < g.pages → sector_of g page < sector_count g
  unfolding sector_count
  sector_few page l = omega (arith, sector_mono g wide page (g.pages - 1) (omega arith))

  -- one more than the bytes of a register at most: each but 0b has one of its own
  pub sector_most : 0 < g.pages → g.pages ≤ g.register * g.span → sector_count g ≤ g.register + 1
  unfolding sector_count
  sector_most some l =
      by_page g (λ t. t + 1 ≤ g.register + 1) (g.pages - 1)
      (λ a. omega (arith, held some l))
      (λ a. omega (arith, (div-lt_iff_lt-mul {k = g.span} {x = g.pages - 1} {y = g.register} (omega arith)).1 (omega arith)))
    where
      held : 0 < g.pages → g.pages ≤ g.register * g.span → 0 < g.register
      held p m = positive g.register (omega arith)
        where
          positive : (n : ℕ) → 0 < n * g.span → 0 < n
          positive zero u = absurd (omega (arith, zero-mul g.span))
          positive (suc n) u = omega arith

  -- each of the part's sectors has a page
  pub sector_some : (s : ℕ) → 0 < g.pages → s < sector_count g → 0 < (sector_run g s).count
  unfolding sector_count sector_run
  sector_some s l h =
      omega (arith, first-end g wide s, first_mono g wide s (sector_of g (g.pages - 1)) (omega arith), sector_first g wide (g.pages - 1))

-- a known part has as many sectors as the room of a register serves, at most
pub sectors_few : (g : Geometry) (n : ℕ) → Sized g n → sector_count g ≤ register_room + 1
sectors_few g n z = omega (arith, sector_most g z.wide (omega (arith, z.blocks)) z.held, z.short)

-- .. so the sector of a page of the part is one that they serve
pub sector_served : (g : Geometry) (n page : ℕ) → Sized g n → page < g.pages → sector_of g page < register_room + 1
sector_served g n page z l = omega (arith, sector_few g z.wide page l, sectors_few g n z)
