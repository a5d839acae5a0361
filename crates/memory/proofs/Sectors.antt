-- What becomes of a page of the part where something is done to each sector of a set. A page is in its own sector's run and in no other's,
-- so only that sector's bit decides.
-- Assumes nothing.
use mathlib.Core.Path.{◌≡◌, refl, sym, subst, ◌∙◌}
use mathlib.Core.Bool.{Bool, true, false, cond, true≢false}
use mathlib.Core.List.{List}
use Prim.Native.Nat.{ℕ, zero, suc, ◌+◌, ◌*◌, ◌/◌, ◌%◌, ◌^◌, ◌<◌}
use native.Mathlib.Nat.{div-one}
use native.Mathlib.Omega.{arith}
use lib.Dec.{eqb}
use lib.ListN.{length, get_or, replicate}
use lib.Pow.{shr-shr}
use borrow.Author.Tests.{eq-eqb, ne_eqb}
use Rattle.geometry.specs.declared.Geometry.{Geometry}
use Rattle.geometry.specs.declared.Run.{Run}
use Rattle.geometry.specs.Parts.{Sized, page_of, in_run}
use Rattle.geometry.specs.Sectors.{sector_of, sector_run, sector_count}
use Rattle.geometry.proofs.Pages.{page_few}
use Rattle.geometry.proofs.Sectors.{sector_run_lem, sector_few}
use Rattle.memory.specs.Pages.{erased, junked, each_sector, in_sectors}
use Rattle.memory.proofs.Pages.{length-erased, length-junked, erased-byte, erased_other, erased_in, erased_page, junked-byte, junked_other, junked_in}

-- f keeps an array's length
module _ (f : Run → List ℕ → List ℕ) (long : (r : Run) (xs : List ℕ) → length (f r xs) ≡ length xs) (g : Geometry) where
  length_one : (b : Bool) (r : Run) (xs : List ℕ) → length (cond b (f r xs) xs) ≡ length xs
  length_one true r xs = long r xs
  length_one false r xs = refl

  length_each : (n s m : ℕ) (xs : List ℕ) → length (each_sector f g n s m xs) ≡ length xs
  unfolding each_sector
  length_each zero s m xs = refl
  length_each (suc n) s m xs =
      length_each n (s + 1) (m / 2) (cond (eqb (m % 2) 1) (f (sector_run g s) xs) xs) ∙ length_one (eqb (m % 2) 1) (sector_run g s) xs

  pub length-in_sectors : (sectors : ℕ) (xs : List ℕ) → length (in_sectors f g sectors xs) ≡ length xs
  unfolding in_sectors
  length-in_sectors sectors xs = length_each (sector_count g) 0 sectors xs

-- f done to no sector
pub in_sectors-none : (f : Run → List ℕ → List ℕ) (g : Geometry) (xs : List ℕ) → in_sectors f g 0 xs ≡ xs
unfolding in_sectors each_sector
in_sectors-none f g xs = none (sector_count g) 0
  where
    none : (n s : ℕ) → each_sector f g n s 0 xs ≡ xs
    none zero s = refl
    none (suc n) s = none n (s + 1)

-- what is seen of the array, as a byte of the page or the page, is left by f at every run that the page is not in
module _ {A : Type 0} (see : List ℕ → A) (f : Run → List ℕ → List ℕ) (g : Geometry) (wide : 8 < g.span) (page : ℕ) (few : page < g.pages)
    (leaves : (r : Run) (xs : List ℕ) → in_run r page ≡ false → see (f r xs) ≡ see xs) where
  one_left : (b : Bool) (s : ℕ) (xs : List ℕ) → (sector_of g page ≡ s → b ≡ false) → see (cond b (f (sector_run g s) xs) xs) ≡ see xs
  one_left true s xs h = leaves (sector_run g s) xs (sector_run_lem g wide s page few ∙ ne_eqb (sector_of g page) s (λ e. true≢false (h e)))
  one_left false s xs h = refl

  each_left : (n s m : ℕ) (xs : List ℕ) → ((i : ℕ) → sector_of g page ≡ s + i → eqb (m / 2 ^ i % 2) 1 ≡ false) → see (each_sector f g n s m xs) ≡ see xs
  unfolding each_sector
  each_left zero s m xs h = refl
  each_left (suc n) s m xs h =
      each_left n (s + 1) (m / 2) (cond (eqb (m % 2) 1) (f (sector_run g s) xs) xs) (λ i e. rw (shr-shr m 1 i) (h (1 + i) (omega arith)))
      ∙ one_left (eqb (m % 2) 1) s xs (λ e. rw div-one at (h 0 (omega arith)))

  -- the page's sector is not in the set
  pub sectors_left : (sectors : ℕ) (xs : List ℕ) → eqb (sectors / 2 ^ sector_of g page % 2) 1 ≡ false → see (in_sectors f g sectors xs) ≡ see xs
  unfolding in_sectors
  sectors_left sectors xs h = each_left (sector_count g) 0 sectors xs (λ i e. subst (λ (t : ℕ). eqb (sectors / 2 ^ t % 2) 1 ≡ false) (omega arith) h)

  -- .. and f makes it v at every run that the page is in, of an array of n bytes
  module _ (v : A) (n : ℕ) (long : (r : Run) (xs : List ℕ) → length (f r xs) ≡ length xs)
      (makes : (r : Run) (xs : List ℕ) → length xs ≡ n → in_run r page ≡ true → see (f r xs) ≡ v) where
    one_made : (b : Bool) (s : ℕ) (xs : List ℕ) → sector_of g page ≡ s → length xs ≡ n → b ≡ true → see (cond b (f (sector_run g s) xs) xs) ≡ v
    one_made true s xs h l e = makes (sector_run g s) xs l (sector_run_lem g wide s page few ∙ eq-eqb (sector_of g page) s h)
    one_made false s xs h l e = absurd (true≢false (sym e))

    each_made : (c i s m : ℕ) (xs : List ℕ) → sector_of g page ≡ s + i → i < c → length xs ≡ n → eqb (m / 2 ^ i % 2) 1 ≡ true → see (each_sector f g c s m xs) ≡ v
    unfolding each_sector
    each_made zero i s m xs h l n e = absurd (omega arith)
    each_made (suc c) zero s m xs h l n e =
        each_left c (s + 1) (m / 2) (cond (eqb (m % 2) 1) (f (sector_run g s) xs) xs) (λ i d. absurd (omega arith))
        ∙ one_made (eqb (m % 2) 1) s xs (omega arith) n (rw div-one at e)
    each_made (suc c) (suc i) s m xs h l n e =
        let k : suc i ≡ 1 + i = omega arith in
        each_made c i (s + 1) (m / 2) (cond (eqb (m % 2) 1) (f (sector_run g s) xs) xs) (omega arith) (omega arith)
        (length_one f long g (eqb (m % 2) 1) (sector_run g s) xs ∙ n) (rw (shr-shr m 1 i) (rw k at e))

    -- the page's sector is in the set
    pub sectors_made : (sectors : ℕ) (xs : List ℕ) → length xs ≡ n → eqb (sectors / 2 ^ sector_of g page % 2) 1 ≡ true → see (in_sectors f g sectors xs) ≡ v
    unfolding in_sectors
    sectors_made sectors xs l e = each_made (sector_count g) (sector_of g page) 0 sectors xs (omega arith) (sector_few g wide page few) l e

-- ---- sectors that are erased
module _ (g : Geometry) (wide : 8 < g.span) (sectors : ℕ) (xs : List ℕ) where
  -- a byte and a page whose sector is not in the set
  pub erased_sectors_byte : (k : ℕ) → 0 < g.size → k / g.size < g.pages → eqb (sectors / 2 ^ sector_of g (k / g.size) % 2) 1 ≡ false → get_or (in_sectors (erased g) g sectors xs) k 0 ≡ get_or xs k 0
  erased_sectors_byte k s l h = sectors_left (λ ys. get_or ys k 0) (erased g) g wide (k / g.size) l (λ r ys e. erased-byte g r ys k s e) sectors xs h

  pub erased_sectors_other : (q : ℕ) → q < g.pages → eqb (sectors / 2 ^ sector_of g q % 2) 1 ≡ false → page_of g q (in_sectors (erased g) g sectors xs) ≡ page_of g q xs
  erased_sectors_other q l h = sectors_left (λ ys. page_of g q ys) (erased g) g wide q l (λ r ys e. erased_other g r ys q e) sectors xs h

  -- .. and is
  pub erased_sectors_in : (k : ℕ) → Sized g (length xs) → k < length xs → eqb (sectors / 2 ^ sector_of g (k / g.size) % 2) 1 ≡ true → get_or (in_sectors (erased g) g sectors xs) k 0 ≡ 255
  erased_sectors_in k z l h =
      sectors_made (λ ys. get_or ys k 0) (erased g) g wide (k / g.size) (page_few g k (omega (arith, z.some)) (omega (arith, z.whole)))
      (λ r ys e. erased-byte g r ys k (omega (arith, z.some)) e) 255 (length xs) (length-erased g)
      (λ r ys n e. erased_in g r ys k (omega (arith, z.some)) e (omega arith)) sectors xs refl h

  pub erased_sectors_page : (q : ℕ) → Sized g (length xs) → q < g.pages → eqb (sectors / 2 ^ sector_of g q % 2) 1 ≡ true → page_of g q (in_sectors (erased g) g sectors xs) ≡ replicate g.size 255
  erased_sectors_page q z l h =
      sectors_made (λ ys. page_of g q ys) (erased g) g wide q l (λ r ys e. erased_other g r ys q e) (replicate g.size 255) (length xs) (length-erased g)
      (λ r ys n e. erased_page g r ys q (rw n z) l e) sectors xs refl h

-- ---- sectors that become junk
module _ (g : Geometry) (wide : 8 < g.span) (junk : List ℕ) (sectors : ℕ) (xs : List ℕ) where
  pub junked_sectors_byte : (k : ℕ) → 0 < g.size → k / g.size < g.pages → eqb (sectors / 2 ^ sector_of g (k / g.size) % 2) 1 ≡ false → get_or (in_sectors (junked g junk) g sectors xs) k 0 ≡ get_or xs k 0
  junked_sectors_byte k s l h = sectors_left (λ ys. get_or ys k 0) (junked g junk) g wide (k / g.size) l (λ r ys e. junked-byte g junk r ys k s e) sectors xs h

  pub junked_sectors_other : (q : ℕ) → q < g.pages → eqb (sectors / 2 ^ sector_of g q % 2) 1 ≡ false → page_of g q (in_sectors (junked g junk) g sectors xs) ≡ page_of g q xs
  junked_sectors_other q l h = sectors_left (λ ys. page_of g q ys) (junked g junk) g wide q l (λ r ys e. junked_other g junk r ys q e) sectors xs h

  pub junked_sectors_in : (k : ℕ) → Sized g (length xs) → k < length xs → length junk ≡ 2 * g.size + length xs → eqb (sectors / 2 ^ sector_of g (k / g.size) % 2) 1 ≡ true → get_or (in_sectors (junked g junk) g sectors xs) k 0 ≡ get_or junk (2 * g.size + k) 0
  junked_sectors_in k z l j h =
      sectors_made (λ ys. get_or ys k 0) (junked g junk) g wide (k / g.size) (page_few g k (omega (arith, z.some)) (omega (arith, z.whole)))
      (λ r ys e. junked-byte g junk r ys k (omega (arith, z.some)) e) (get_or junk (2 * g.size + k) 0) (length xs) (length-junked g junk)
      (λ r ys n e. junked_in g junk r ys k (omega (arith, z.some)) e (omega arith) (omega arith)) sectors xs refl h
