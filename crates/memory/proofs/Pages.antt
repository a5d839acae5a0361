-- What becomes of the array's pages and bytes, and of a buffer. The array changes by `splice` from a page's start on, and the part is no
-- longer than its pages: it changes those pages and leaves the others, and the array keeps its length.
-- Assumes nothing.
use mathlib.Core.Path.{◌≡◌, refl, sym, ap, ◌∙◌}
use mathlib.Core.Bool.{Bool, true, false}
use mathlib.Core.List.{List}
use mathlib.Core.Logic.{⊎_elim}
use Prim.Native.Nat.{ℕ, ◌+◌, ◌-◌, ◌*◌, ◌/◌, ◌≤◌, ◌<◌}
use native.Mathlib.Omega.{arith}
use lib.ListN.{length, take, drop, get_or, replicate, length-take, length-drop, length-replicate, get_or-replicate}
use lib.Seq.{ext_get_or, get_or-take, get_or-drop, length-take-le}
use Rattle.slices.specs.Lists.{splice, and_over}
use Rattle.slices.proofs.Laws.{length_over, over-whole, length-splice, splice_before, splice_in, splice-after, splice-part, part-splice, drop-splice, length-and_over}
use Rattle.geometry.specs.declared.Geometry.{Geometry}
use Rattle.geometry.specs.declared.Run.{Run}
use Rattle.geometry.specs.Parts.{Sized, page_start, page_of, run, in_run}
use Rattle.geometry.proofs.Pages.{start_mono, start_add, start-next, page_within, byte_page, length-page_of, get_or-page_of}
use Rattle.geometry.proofs.Runs.{run-pages, run_others, run-bytes, run-spares}
use Rattle.memory.specs.Pages.{programmed, programmed_over, transferred, erased, junked, junk_buffer}

-- ---- lengths
module _ (g : Geometry) where
  pub length-programmed : (page : ℕ) (buffer xs : List ℕ) → length (programmed g page buffer xs) ≡ length xs
  unfolding programmed
  length-programmed page buffer xs = simp length-splice

  pub length-programmed_over : (page : ℕ) (buffer xs : List ℕ) → length (programmed_over g page buffer xs) ≡ length xs
  unfolding programmed_over
  length-programmed_over page buffer xs = simp length-splice

  pub length-erased : (r : Run) (xs : List ℕ) → length (erased g r xs) ≡ length xs
  unfolding erased
  length-erased r xs = simp length-splice

  pub length-junked : (junk : List ℕ) (r : Run) (xs : List ℕ) → length (junked g junk r xs) ≡ length xs
  unfolding junked
  length-junked junk r xs = simp length-splice

  pub length-transferred : (page : ℕ) (xs buffer : List ℕ) → length (transferred g page xs buffer) ≡ length buffer
  unfolding transferred
  length-transferred page xs buffer = simp length_over

  pub length-junk_buffer : (junk : List ℕ) (at : ℕ) (buffer : List ℕ) → length (junk_buffer g junk at buffer) ≡ length buffer
  unfolding junk_buffer
  length-junk_buffer junk at buffer = simp length_over

-- ---- a part no longer than a run's pages, from the run's start on
module _ (g : Geometry) (r : Run) (ys xs : List ℕ) (most : length ys ≤ r.count * g.size) where
  -- leaves a byte in no page of the run
  byte_left : (k : ℕ) → 0 < g.size → in_run r (k / g.size) ≡ false → get_or (splice (page_start g r.first) ys xs) k 0 ≡ get_or xs k 0
  byte_left k s e =
      ⊎_elim
      (λ l. splice_before (page_start g r.first) ys xs k 0 l)
      (λ l. splice-after (page_start g r.first) ys xs k 0 (omega arith))
      (run-spares g r k s e)

  -- leaves a page not in the run
  page_left : (q : ℕ) → in_run r q ≡ false → page_of g q (splice (page_start g r.first) ys xs) ≡ page_of g q xs
  unfolding page_of
  page_left q e =
      ⊎_elim
      (λ l. part-splice g.size (page_start g q) (page_start g r.first) ys xs (omega (arith, start-next g q, start_mono g (q + 1) r.first (omega arith))))
      (λ l. ap (λ (t : List ℕ). take g.size t) (drop-splice (page_start g q) (page_start g r.first) ys xs (omega (arith, start_add g r.first r.count, start_mono g (r.first + r.count) q l))))
      (run_others r q e)

-- a page is a run of one: another is not in it
pub other_page : (page q : ℕ) → (q ≡ page → ⊥) → in_run (run page 1) q ≡ false
other_page page q d = go (in_run (run page 1) q) refl
  where
    go : (b : Bool) → in_run (run page 1) q ≡ b → b ≡ false
    go true e = let p = run-pages (run page 1) q e in absurd (d (omega (arith, p.0, p.1)))
    go false e = refl

-- ---- a page that is programmed
module _ (g : Geometry) (page : ℕ) (buffer xs : List ℕ) where
  few : length (take g.size buffer) ≤ 1 * g.size
  few = simp length-take (omega arith)

  few-over : length (and_over (page_of g page xs) (take g.size buffer)) ≤ 1 * g.size
  unfolding page_of
  few-over = simp (length-and_over, length-take) (omega arith)

  -- a byte of another page
  pub programmed-byte : (k : ℕ) → 0 < g.size → (k / g.size ≡ page → ⊥) → get_or (programmed g page buffer xs) k 0 ≡ get_or xs k 0
  unfolding programmed
  programmed-byte k s d = byte_left g (run page 1) (take g.size buffer) xs few k s (other_page page (k / g.size) d)

  pub programmed_over-byte : (k : ℕ) → 0 < g.size → (k / g.size ≡ page → ⊥) → get_or (programmed_over g page buffer xs) k 0 ≡ get_or xs k 0
  unfolding programmed_over
  programmed_over-byte k s d =
      byte_left g (run page 1) (and_over (page_of g page xs) (take g.size buffer)) xs few-over k s (other_page page (k / g.size) d)

  -- another page
  pub programmed_other : (q : ℕ) → (q ≡ page → ⊥) → page_of g q (programmed g page buffer xs) ≡ page_of g q xs
  unfolding programmed
  programmed_other q d = page_left g (run page 1) (take g.size buffer) xs few q (other_page page q d)

  pub programmed_over_other : (q : ℕ) → (q ≡ page → ⊥) → page_of g q (programmed_over g page buffer xs) ≡ page_of g q xs
  unfolding programmed_over
  programmed_over_other q d =
      page_left g (run page 1) (and_over (page_of g page xs) (take g.size buffer)) xs few-over q (other_page page q d)

  -- the page itself
  read_back : (ys : List ℕ) → Sized g (length xs) → page < g.pages → length ys ≡ g.size → page_of g page (splice (page_start g page) ys xs) ≡ ys
  unfolding page_of
  read_back ys z l n =
      ap (λ (k : ℕ). take k (drop (page_start g page) (splice (page_start g page) ys xs))) (sym n)
      ∙ splice-part (page_start g page) ys xs (omega (arith, page_within g page l, z.whole))

  pub programmed_page : Sized g (length xs) → page < g.pages → g.size ≤ length buffer → page_of g page (programmed g page buffer xs) ≡ take g.size buffer
  unfolding programmed
  programmed_page z l h = read_back (take g.size buffer) z l (length-take-le g.size buffer h)

  pub programmed_over_page : Sized g (length xs) → page < g.pages → page_of g page (programmed_over g page buffer xs) ≡ and_over (page_of g page xs) (take g.size buffer)
  unfolding programmed_over
  programmed_over_page z l =
      read_back (and_over (page_of g page xs) (take g.size buffer)) z l
      (length-and_over (page_of g page xs) (take g.size buffer) ∙ length-page_of g page xs z l)

-- ---- a run of pages that is erased
module _ (g : Geometry) (r : Run) (xs : List ℕ) where
  blank : length (replicate {A = ℕ} (r.count * g.size) 255) ≤ r.count * g.size
  blank = omega (arith, length-replicate {A = ℕ} (r.count * g.size) 255)

  pub erased-byte : (k : ℕ) → 0 < g.size → in_run r (k / g.size) ≡ false → get_or (erased g r xs) k 0 ≡ get_or xs k 0
  unfolding erased
  erased-byte k s e = byte_left g r (replicate (r.count * g.size) 255) xs blank k s e

  pub erased_other : (q : ℕ) → in_run r q ≡ false → page_of g q (erased g r xs) ≡ page_of g q xs
  unfolding erased
  erased_other q e = page_left g r (replicate (r.count * g.size) 255) xs blank q e

  -- a byte in a page of the run
  pub erased_in : (k : ℕ) → 0 < g.size → in_run r (k / g.size) ≡ true → k < length xs → get_or (erased g r xs) k 0 ≡ 255
  unfolding erased
  erased_in k s e l =
      let p = run-bytes g r k s e in
      let n = length-replicate {A = ℕ} (r.count * g.size) 255 in
      splice_in (page_start g r.first) (replicate (r.count * g.size) 255) xs k 0 p.0 (omega (arith, p.1, n)) l
      ∙ get_or-replicate (r.count * g.size) (k - page_start g r.first) 255 0 (omega (arith, p.0, p.1))

  -- a page of the run
  pub erased_page : (q : ℕ) → Sized g (length xs) → q < g.pages → in_run r q ≡ true → page_of g q (erased g r xs) ≡ replicate g.size 255
  erased_page q z l e =
      ext_get_or 0 (page_of g q (erased g r xs)) (replicate g.size 255)
      (n ∙ sym (length-replicate g.size 255))
      (λ i h. each i (omega (arith, n)))
    where
      n : length (page_of g q (erased g r xs)) ≡ g.size
      n = length-page_of g q (erased g r xs) (rw (length-erased g r xs) z) l

      each : (i : ℕ) → i < g.size → get_or (page_of g q (erased g r xs)) i 0 ≡ get_or (replicate g.size 255) i 0
      each i h =
          get_or-page_of g q (erased g r xs) i h
          ∙ erased_in (page_start g q + i) (omega arith) (rw (byte_page g q i h) e) (omega (arith, page_within g q l, z.whole))
          ∙ sym (get_or-replicate g.size i 255 0 h)

-- ---- a run of pages that becomes junk
module _ (g : Geometry) (junk : List ℕ) (r : Run) (xs : List ℕ) where
  abbrev part : List ℕ
  part = take (r.count * g.size) (drop (2 * g.size + page_start g r.first) junk)

  some : length part ≤ r.count * g.size
  some = simp length-take (omega arith)

  pub junked-byte : (k : ℕ) → 0 < g.size → in_run r (k / g.size) ≡ false → get_or (junked g junk r xs) k 0 ≡ get_or xs k 0
  unfolding junked
  junked-byte k s e = byte_left g r part xs some k s e

  pub junked_other : (q : ℕ) → in_run r q ≡ false → page_of g q (junked g junk r xs) ≡ page_of g q xs
  unfolding junked
  junked_other q e = page_left g r part xs some q e

  -- a byte in a page of the run: the junk behind the buffers', at its own index
  pub junked_in : (k : ℕ) → 0 < g.size → in_run r (k / g.size) ≡ true → k < length xs → length junk ≡ 2 * g.size + length xs → get_or (junked g junk r xs) k 0 ≡ get_or junk (2 * g.size + k) 0
  unfolding junked
  junked_in k s e l j =
      let p = run-bytes g r k s e in
      let i : k - page_start g r.first < r.count * g.size = omega (arith, p.0, p.1) in
      let m : 2 * g.size + page_start g r.first + (k - page_start g r.first) ≡ 2 * g.size + k = omega (arith, p.0) in
      splice_in (page_start g r.first) part xs k 0 p.0 (simp (length-take, length-drop) (omega (arith, p.0, p.1))) l
      ∙ get_or-take (r.count * g.size) (drop (2 * g.size + page_start g r.first) junk) (k - page_start g r.first) 0 i
      ∙ get_or-drop (2 * g.size + page_start g r.first) junk (k - page_start g r.first) 0
      ∙ ap (λ (a : ℕ). get_or junk a 0) m

-- ---- a buffer as long as a page
module _ (g : Geometry) (buffer : List ℕ) (whole : length buffer ≡ g.size) where
  pub transferred-whole : (page : ℕ) (xs : List ℕ) → Sized g (length xs) → page < g.pages → transferred g page xs buffer ≡ page_of g page xs
  unfolding transferred
  transferred-whole page xs z l = over-whole (page_of g page xs) buffer (length-page_of g page xs z l ∙ sym whole)

  pub junk_buffer-whole : (junk : List ℕ) (at : ℕ) → at + g.size ≤ length junk → junk_buffer g junk at buffer ≡ take g.size (drop at junk)
  unfolding junk_buffer
  junk_buffer-whole junk at h = over-whole (take g.size (drop at junk)) buffer (simp (length-take, length-drop) (omega arith))
