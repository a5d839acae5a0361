-- A busy end and a cut leave the pages that the operation under way does not write: what `writes` denies of a page is in no run that is
-- spliced and in no sector of a Chip Erase's set.
-- Assumes nothing.
use mathlib.Core.Path.{◌≡◌, refl, sym, ◌∙◌}
use mathlib.Core.Bool.{Bool, true, false, ◌||◌}
use mathlib.Core.List.{List}
use Prim.Native.Nat.{ℕ, ◌/◌, ◌<◌}
use native.Mathlib.Omega.{arith}
use lib.ListN.{get_or}
use borrow.Author.Tests.{eqb-false}
use Rattle.geometry.specs.declared.Geometry.{Geometry}
use Rattle.geometry.specs.declared.Run.{Run}
use Rattle.geometry.specs.Parts.{in_run, page_of}
use Rattle.geometry.specs.Sectors.{sector_of}
use Rattle.registers.specs.declared.Operation.{Operation}
use Rattle.registers.specs.declared.Operation.TheVariants.{Idle, Program, ProgramOver, Transfer, Compare, Rewrite, ErasePage, EraseBlock, EraseSector, EraseChip, EraseProtection, ProgramProtection, LockSector, ProgramSecurity}
use Rattle.registers.specs.Operations.{run_of, sectors_of, in_set, writes}
use Rattle.registers.proofs.Operations.{target_page}
use Rattle.memory.specs.Pages.{programmed, programmed_over, erased, junked}
use Rattle.memory.proofs.Pages.{programmed-byte, programmed_other, programmed_over-byte, programmed_over_other, erased-byte, erased_other, junked-byte, junked_other}
use Rattle.memory.proofs.Sectors.{sectors_left}
use Rattle.state.specs.Memory.{Memory}
use Rattle.state.specs.Completion.{in_target, completed_memory}
use Rattle.state.specs.PowerLoss.{array_lost, lost_memory}

neither : (a b : Bool) → (a || b) ≡ false → (a ≡ false) × (b ≡ false)
neither true b e = let z : ◌≡◌ {A = ℕ} 0 1 = cc in absurd (omega arith)
neither false b e = (refl, e)

-- a page that the operation does not write is in neither
module _ (g : Geometry) (o : Operation) (page : ℕ) (h : writes g o page ≡ false) where
  no_run : in_run (run_of g o) page ≡ false
  unfolding writes
  no_run = (neither (in_run (run_of g o) page) (in_set (sectors_of o) (sector_of g page)) h).0

  no_sector : in_set (sectors_of o) (sector_of g page) ≡ false
  unfolding writes
  no_sector = (neither (in_run (run_of g o) page) (in_set (sectors_of o) (sector_of g page)) h).1

-- what is seen of the array, as a byte of the page or the page, is left by what is done to other pages
module _ {A : Type 0} (see : List ℕ → A) (g : Geometry) (wide : 8 < g.span) (q : ℕ) (few : q < g.pages) where
  target_left : (f : Run → List ℕ → List ℕ) → ((r : Run) (xs : List ℕ) → in_run r q ≡ false → see (f r xs) ≡ see xs)
      → (o : Operation) (xs : List ℕ) → writes g o q ≡ false → see (in_target f g o xs) ≡ see xs
  unfolding in_target in_set
  target_left f leaves o xs h =
      sectors_left see f g wide q few leaves (sectors_of o) (f (run_of g o) xs) (no_sector g o q h) ∙ leaves (run_of g o) xs (no_run g o q h)

  module _ (programs : (page : ℕ) (buffer xs : List ℕ) → (q ≡ page → ⊥) → see (programmed g page buffer xs) ≡ see xs)
      (programs-over : (page : ℕ) (buffer xs : List ℕ) → (q ≡ page → ⊥) → see (programmed_over g page buffer xs) ≡ see xs)
      (erases : (r : Run) (xs : List ℕ) → in_run r q ≡ false → see (erased g r xs) ≡ see xs) (m : Memory) where
    completed-left : (o : Operation) → writes g o q ≡ false → see (completed_memory g o m).array ≡ see m.array
    unfolding completed_memory
    completed-left Idle h = refl
    completed-left (Program b page) h = programs page _ m.array (eqb-false q page (sym (target_page g q (Program b page) page refl) ∙ h))
    completed-left (ProgramOver b page) h = programs-over page _ m.array (eqb-false q page (sym (target_page g q (ProgramOver b page) page refl) ∙ h))
    completed-left (Transfer b page) h = refl
    completed-left (Compare b page) h = refl
    completed-left (Rewrite b page) h = refl
    completed-left (ErasePage page) h = target_left (erased g) erases (ErasePage page) m.array h
    completed-left (EraseBlock block) h = target_left (erased g) erases (EraseBlock block) m.array h
    completed-left (EraseSector s) h = target_left (erased g) erases (EraseSector s) m.array h
    completed-left (EraseChip sectors) h = target_left (erased g) erases (EraseChip sectors) m.array h
    completed-left EraseProtection h = refl
    completed-left (ProgramProtection d) h = refl
    completed-left (LockSector s) h = refl
    completed-left (ProgramSecurity d) h = refl

-- ---- a busy end
module _ (g : Geometry) (wide : 8 < g.span) (o : Operation) (m : Memory) where
  pub completed_keeps : (k : ℕ) → 0 < g.size → k / g.size < g.pages → writes g o (k / g.size) ≡ false → get_or (completed_memory g o m).array k 0 ≡ get_or m.array k 0
  completed_keeps k s l =
      completed-left (λ xs. get_or xs k 0) g wide (k / g.size) l (λ page buffer xs. programmed-byte g page buffer xs k s) (λ page buffer xs. programmed_over-byte g page buffer xs k s)
      (λ r xs. erased-byte g r xs k s) m o

  pub completed_page : (q : ℕ) → q < g.pages → writes g o q ≡ false → page_of g q (completed_memory g o m).array ≡ page_of g q m.array
  completed_page q l =
      completed-left (page_of g q) g wide q l (λ page buffer xs. programmed_other g page buffer xs q) (λ page buffer xs. programmed_over_other g page buffer xs q)
      (λ r xs. erased_other g r xs q) m o

-- ---- a cut
module _ (g : Geometry) (wide : 8 < g.span) (o : Operation) (junk : List ℕ) (m : Memory) where
  pub lost_keeps : (k : ℕ) → 0 < g.size → k / g.size < g.pages → writes g o (k / g.size) ≡ false → get_or (lost_memory g o junk m).array k 0 ≡ get_or m.array k 0
  unfolding lost_memory array_lost
  lost_keeps k s l = target_left (λ xs. get_or xs k 0) g wide (k / g.size) l (junked g junk) (λ r xs. junked-byte g junk r xs k s) o m.array

  pub lost_page : (q : ℕ) → q < g.pages → writes g o q ≡ false → page_of g q (lost_memory g o junk m).array ≡ page_of g q m.array
  unfolding lost_memory array_lost
  lost_page q l = target_left (page_of g q) g wide q l (junked g junk) (λ r xs. junked_other g junk r xs q) o m.array
