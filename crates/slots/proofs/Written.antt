-- What a put, a patch or a wipe that comes to its end leaves in its slot: the recipe's record; the bytes that were there with the patch in its place; FFh.
-- All three are `Stores`, once it is said what is known before each page: of a put and a wipe nothing, of a patch that the pages not yet programmed are
-- as before.
-- Assumes nothing.
use Prim.Native.Nat.{ℕ, ◌+◌, ◌*◌, ◌%◌, ◌<◌, ◌≤◌}
use native.Mathlib.Omega.{arith}
use native.Mathlib.Nat.{mul-le-mul, mul-le-mul_left}
use mathlib.Core.Path.{◌≡◌, refl, sym, ap, ◌∙◌}
use mathlib.Core.Bool.{Bool, true, false, cond}
use mathlib.Core.List.{List}
use lib.ListN.{length, get_or}
use lib.Dec.{eqb}
use borrow.Author.Tests.{eqb-true, eqb-false}
use Rattle.slices.specs.Lists.{tabulate, splice}
use Rattle.slices.proofs.Laws.{length-tabulate, get_or-tabulate, length-splice, splice_before, splice_at}
use Rattle.geometry.specs.Parts.{Sized, page_of}
use Rattle.geometry.specs.declared.Geometry.{Geometry}
use Rattle.control.specs.Completion.{completed}
use Rattle.control.proofs.Ends.{completed-operation}
use Rattle.state.specs.Memory.{Memory}
use Rattle.state.specs.Completion.{completed_memory}
use Rattle.state.proofs.Loads.{idle_memory}
use Rattle.slots.specs.declared.Kind.TheVariants.{Put, Patch, Wipe}
use Rattle.slots.specs.declared.Period.{Period}
use Rattle.slots.specs.declared.Verdict.{Verdict}
use Rattle.slots.specs.declared.Verdict.TheVariants.{Good}
use Rattle.slots.specs.Plans.{is_asking, page_steps, run_by, pages, plan_by}
use Rattle.slots.specs.Records.{head_size, version_in, image, changed, patch_verdict}
use Rattle.slots.specs.Driver.{Holding, stored_by, judged, read_in}
use Rattle.slots.specs.Quiet.{page_in}
use Rattle.slots.proofs.Parts.{cases}
use Rattle.slots.proofs.Stores.{Writer, cold, Lawful, opens, lists, frees, reads, loads, puts, programs, waited, compares, checks, erases, blanks, finish, pages_lawful}

-- ---- put

unfoldable pub put_writer : (g : Geometry) (slot : ℕ) (period : Period) (recipe : List ℕ) → Writer g Put slot
unfolding read_in judged stored_by
put_writer g slot period recipe =
    record {
      Loads = Unit {0};
      bytes = image period recipe;
      Was = λ _ _. Unit {0};
      Opens = λ _ _. Unit {0};
      Fresh = λ _ h. (h.aim.period ≡ period) × (h.payload ≡ recipe) × (h.verdict ≡ Good);
      Filled = λ _ h. (h.aim.period ≡ period) × (h.payload ≡ recipe) × (h.verdict ≡ Good);
      ends = λ _ _ _. tt;
      rests = λ _ _ _ _ _ _ _. tt;
      reads = λ _ p h _ _ _ _ u. (u.0, u.1, cases (λ (v : Verdict). v ≡ Good) (eqb (p % 8) 0) refl u.2);
      loads = λ _ p h _ _ u i _. λ x. image (u.0 x) (u.1 x) (g.size * (p % 8) + i);
      next = λ _ _ u. u;
    }

pub put_lawful : (g : Geometry) (slot : ℕ) (period : Period) (recipe : List ℕ) (fits : 8 * slot + 8 ≤ g.pages) (few : Sized g (g.pages * g.size))
    → Lawful g Put slot (put_writer g slot period recipe) fits few cold (plan_by Put g slot)
unfolding plan_by is_asking run_by page_steps put_writer
put_lawful g slot period recipe fits few =
    opens (lists (frees (pages_lawful g Put slot (put_writer g slot period recipe) fits few (page_steps Put) (λ p xs i l. puts tt i (λ h u. u) (programs i (waited (compares i (checks l))))) 8 (8 * slot) (omega arith) refl)))

-- ---- wipe

unfoldable pub wipe_writer : (g : Geometry) (slot : ℕ) → Writer g Wipe slot
unfolding stored_by
wipe_writer g slot =
    record {
      Loads = ⊥;
      bytes = λ _. 255;
      Was = λ _ _. Unit {0};
      Opens = λ _ _. Unit {0};
      Fresh = λ _ h. h.verdict ≡ Good;
      Filled = λ _ h. h.verdict ≡ Good;
      ends = λ _ _ _. tt;
      rests = λ _ _ _ _ _ _ _. tt;
      reads = λ o _ _ _ _ _ _ _. absurd o;
      loads = λ o _ _ _ _ _ _ _. absurd o;
      next = λ _ _ u. u;
    }

pub wipe_lawful : (g : Geometry) (slot : ℕ) (fits : 8 * slot + 8 ≤ g.pages) (few : Sized g (g.pages * g.size))
    → Lawful g Wipe slot (wipe_writer g slot) fits few cold (plan_by Wipe g slot)
unfolding plan_by is_asking run_by pages page_steps wipe_writer
wipe_lawful g slot fits few = opens (lists (frees (erases (λ i. refl) (λ h u. u) (blanks finish))))

-- ---- patch

-- byte i of page p lies in the slot
pub slot_index : (size p i : ℕ) → i < size → size * (p % 8) + i < 8 * size
slot_index size p i l = let k : p % 8 < 8 = omega arith in let m : size * (p % 8 + 1) ≤ size * 8 = mul-le-mul_left size (omega (arith, k)) in omega (arith, m)

module _ (g : Geometry) (slot place : ℕ) (bytes : List ℕ) (old : ℕ → ℕ) (some : 1 ≤ g.size) where
  -- the verdict on the slot's first page
  abbrev pub verdict_on : Verdict
  verdict_on = patch_verdict g (place + length bytes) (page_in g old 0)

  -- the data before a page's D2
  pub record Before (p : ℕ) (h : Holding) : Type 0 where
    pub payload : h.payload ≡ bytes
    pub places : h.aim.place ≡ place
    pub verdict : (p ≡ 8 * slot → ⊥) → h.verdict ≡ verdict_on
    pub version : (p ≡ 8 * slot → ⊥) → version_in h.staged ≡ old 0
    pub room : 8 * g.size ≤ length h.staged

  -- and before its 84
  pub record Read (p : ℕ) (h : Holding) : Type 0 where
    pub payload : h.payload ≡ bytes
    pub places : h.aim.place ≡ place
    pub verdict : h.verdict ≡ verdict_on
    pub version : version_in h.staged ≡ old 0
    pub room : 8 * g.size ≤ length h.staged
    pub here : (i : ℕ) → i < g.size → get_or h.staged (g.size * (p % 8) + i) 0 ≡ old (g.size * (p % 8) + i)

  -- a D2 stages its page and judges the first
  pub read_page : (p : ℕ) (h : Holding) (page : List ℕ) → 8 * slot ≤ p → p < 8 * slot + 8 → page ≡ page_in g old p → Before p h → Read p (read_in g Patch p h page)
  unfolding read_in judged
  read_page p h page l k w u =
      record {
        payload = u.payload;
        places = u.places;
        verdict = judges h.aim.place h.payload h.verdict u.places u.payload u.verdict (eqb (p % 8) 0) refl;
        room = omega (arith, length-splice (g.size * (p % 8)) page h.staged, u.room);
        version = first (eqb (p % 8) 0) refl;
        here = paged;
      }
    where
      paged : (i : ℕ) → i < g.size → get_or (splice (g.size * (p % 8)) page h.staged) (g.size * (p % 8) + i) 0 ≡ old (g.size * (p % 8) + i)
      paged i j =
          splice_at (g.size * (p % 8)) page h.staged i 0 (omega (arith, ap (λ (x : List ℕ). length x) w, length-tabulate g.size (λ i. old (g.size * (p % 8) + i))))
          (omega (arith, u.room, slot_index g.size p i j))
          ∙ ap (λ (x : List ℕ). get_or x i 0) w ∙ get_or-tabulate g.size (λ i. old (g.size * (p % 8) + i)) i 0 j

      -- the first page brings the version, the others lie behind it
      first : (b : Bool) → eqb (p % 8) 0 ≡ b → version_in (splice (g.size * (p % 8)) page h.staged) ≡ old 0
      first true z =
          let o : g.size * (p % 8) + 0 ≡ 0 = ap (λ (n : ℕ). g.size * n + 0) (eqb-true (p % 8) 0 z) ∙ (let e : g.size * 0 + 0 ≡ 0 = omega arith in e) in
          ap (λ (n : ℕ). get_or (splice (g.size * (p % 8)) page h.staged) n 0) (sym o) ∙ paged 0 some ∙ ap old o
      first false z =
          let o : 1 ≤ p % 8 = omega (arith, eqb-false (p % 8) 0 z) in
          let m : 1 * 1 ≤ g.size * (p % 8) = mul-le-mul some o in
          splice_before (g.size * (p % 8)) page h.staged 0 0 (omega (arith, m)) ∙ u.version (λ y. eqb-false (p % 8) 0 z (omega (arith, y)))

      judges : (q : ℕ) (x : List ℕ) (v : Verdict) → q ≡ place → x ≡ bytes → ((p ≡ 8 * slot → ⊥) → v ≡ verdict_on) → (b : Bool) → eqb (p % 8) 0 ≡ b → cond b (patch_verdict g (q + length x) page) v ≡ verdict_on
      judges q x v e f t true z =
          let o = eqb-true (p % 8) 0 z in
          λ i. patch_verdict g (e i + length (f i)) ((w ∙ ap (λ (n : ℕ). tabulate g.size (λ j. old (g.size * n + j))) o) i)
      judges q x v e f t false z = t (λ y. eqb-false (p % 8) 0 z (omega (arith, y)))

  unfoldable pub patch_writer : Writer g Patch slot
  unfolding stored_by
  patch_writer =
      record {
        Loads = Unit {0};
        bytes = λ i. changed verdict_on (head_size (old 0)) place bytes (old i) i;
        Was = λ p page. page ≡ page_in g old p;
        Opens = λ r m. (p : ℕ) → 8 * slot ≤ p → p < 8 * slot + 8 → page_of g p (completed_memory g r.operation m).array ≡ page_in g old p;
        Fresh = Before;
        Filled = Read;
        ends = λ r m u p l k. ap (λ (n : Memory). page_of g p n.array) (idle_memory g (completed g r).operation (completed_memory g r.operation m) (completed-operation g r)) ∙ u p l k;
        rests = λ r m y u p l k. ap (λ (n : Memory). page_of g p n.array) (sym (idle_memory g r.operation m y.0)) ∙ u p l k;
        reads = λ _. read_page;
        loads = λ _ p h l k u i j. λ x. changed (u.verdict x) (head_size (u.version x)) (u.places x) (u.payload x) (u.here i j x) (g.size * (p % 8) + i);
        next = λ p h u. record { payload = u.payload; places = u.places; verdict = λ _. u.verdict; version = λ _. u.version; room = u.room };
      }

  pub patch_lawful : (fits : 8 * slot + 8 ≤ g.pages) (few : Sized g (g.pages * g.size)) → Lawful g Patch slot patch_writer fits few cold (plan_by Patch g slot)
  unfolding plan_by is_asking run_by page_steps patch_writer
  patch_lawful fits few =
      opens (lists (frees (pages_lawful g Patch slot patch_writer fits few (page_steps Patch) (λ p xs i l. reads tt i (loads tt i (programs i (waited (compares i (checks l)))))) 8 (8 * slot) (omega arith) refl)))
