-- What an operation names lies in the part, and the pages that it writes are those that it names. The laws go by what is named, so that one serves
-- every operation.
-- Assumes nothing.
use mathlib.Core.Path.{◌≡◌, refl, sym, ap, ◌∙◌, subst}
use mathlib.Core.Bool.{Bool, true, false, cond, ◌||◌, or-false}
use Prim.Native.Nat.{ℕ, ◌+◌, ◌*◌, ◌/◌, ◌<◌, ◌≤◌, zero-le}
use native.Mathlib.Omega.{arith}
use lib.Dec.{eqb}
use borrow.Author.Tests.{ltb-true, eqb-true, eq-eqb}
use Rattle.geometry.specs.declared.Geometry.{Geometry}
use Rattle.geometry.specs.declared.Run.{Run}
use Rattle.geometry.specs.Parts.{run, in_run}
use Rattle.geometry.specs.Sectors.{sector_of, sector_run, sector_count}
use Rattle.geometry.proofs.Runs.{run-pages, pages-run, after_run}
use Rattle.geometry.proofs.Sectors.{sector_within, sector_run_lem}
use Rattle.commands.specs.declared.Buffer.{Buffer}
use Rattle.registers.specs.declared.Named.{Named}
use Rattle.registers.specs.declared.Named.TheVariants.{Nothing, Page, Block, Sector, Sectors}
use Rattle.registers.specs.declared.Operation.{Operation}
use Rattle.registers.specs.declared.Operation.TheVariants.{Idle, Program, ProgramOver, Transfer, Compare, Rewrite, ErasePage, EraseBlock, EraseSector, EraseChip, EraseProtection, ProgramProtection, LockSector, ProgramSecurity}
use Rattle.registers.specs.declared.Update.TheVariants.{Lock}
use Rattle.registers.specs.declared.Usage.TheVariants.{Free}
use Rattle.registers.specs.Facts.{facts_of, update_of}
use Rattle.registers.specs.Operations.{has, within, page_named, run_named, set_named, target_of, run_of, sectors_of, in_set, writes}
use Rattle.registers.proofs.Sets.{in_none}

-- ---- the table read backwards

-- only an idle chip lets every frame through
pub free_idle : (o : Operation) → (facts_of o).usage ≡ Free → o ≡ Idle
free_idle Idle e = refl
free_idle (Program b page) e = cc
free_idle (ProgramOver b page) e = cc
free_idle (Transfer b page) e = cc
free_idle (Compare b page) e = cc
free_idle (Rewrite b page) e = cc
free_idle (ErasePage page) e = cc
free_idle (EraseBlock block) e = cc
free_idle (EraseSector s) e = cc
free_idle (EraseChip sectors) e = cc
free_idle EraseProtection e = cc
free_idle (ProgramProtection d) e = cc
free_idle (LockSector s) e = cc
free_idle (ProgramSecurity d) e = cc

-- an operation that locks a sector names it
pub lock_names : (o : Operation) (s : ℕ) → update_of o ≡ Lock s → (facts_of o).names ≡ Sector s
lock_names Idle s e = cc
lock_names (Program b page) s e = cc
lock_names (ProgramOver b page) s e = cc
lock_names (Transfer b page) s e = cc
lock_names (Compare b page) s e = cc
lock_names (Rewrite b page) s e = cc
lock_names (ErasePage page) s e = cc
lock_names (EraseBlock block) s e = cc
lock_names (EraseSector t) s e = cc
lock_names (EraseChip sectors) s e = cc
lock_names EraseProtection s e = cc
lock_names (ProgramProtection d) s e = cc
lock_names (LockSector t) s e = cc
lock_names (ProgramSecurity d) s e = cc

-- ---- what the part has
module _ (g : Geometry) (n : Named) (h : has g n ≡ true) where
  pub named-block : (block : ℕ) → n ≡ Block block → block < g.pages / 8
  named-block block e = ltb-true block (g.pages / 8) (subst (λ (k : Named). has g k ≡ true) e h)

  pub named_sector : (s : ℕ) → n ≡ Sector s → s < sector_count g
  named_sector s e = ltb-true s (sector_count g) (subst (λ (k : Named). has g k ≡ true) e h)

pub page_within : (g : Geometry) (n : Named) → 0 < g.pages → has g n ≡ true → page_named n < g.pages
page_within g Nothing p h = p
page_within g (Page page) p h = ltb-true page g.pages h
page_within g (Block block) p h = p
page_within g (Sector s) p h = p
page_within g (Sectors sectors) p h = p

run-within : (g : Geometry) (n : Named) → has g n ≡ true → (run_named g n).first + (run_named g n).count ≤ g.pages
run-within g Nothing h = zero-le
run-within g (Page page) h = omega (arith, ltb-true page g.pages h)
run-within g (Block block) h = omega (arith, ltb-true block (g.pages / 8) h)
run-within g (Sector s) h = sector_within g s
run-within g (Sectors sectors) h = zero-le

-- a run that is what is named, with its bound
pub runs : (g : Geometry) (n : Named) (r : Run) → has g n ≡ true → r ≡ run_named g n → (r ≡ run_named g n) × (r.first + r.count ≤ g.pages)
runs g n r h e = (e, subst (λ (k : Run). k.first + k.count ≤ g.pages) (sym e) (run-within g n h))

-- what an operation erases or programs is what it names, or nothing
pub target_within : (g : Geometry) (o : Operation) → within g o ≡ true → has g (target_of o) ≡ true
unfolding within
target_within g o h = go (facts_of o).writes
  where
    go : (b : Bool) → has g (cond b (facts_of o).names Nothing) ≡ true
    go true = h
    go false = refl

-- ---- the pages that an operation writes
agree : (a b : Bool) → (a ≡ true → b ≡ true) → (b ≡ true → a ≡ true) → a ≡ b
agree true b f h = sym (f refl)
agree false true f h = h refl
agree false false f h = refl

-- the empty run, one page, and a block
run_none : (page : ℕ) → in_run (run 0 0) page ≡ false
run_none page = after_run (run 0 0) page zero-le

pub run_one : (p page : ℕ) → in_run (run p 1) page ≡ eqb page p
run_one p page =
    agree (in_run (run p 1) page) (eqb page p)
    (λ e. let h = run-pages (run p 1) page e in eq-eqb page p (omega arith))
    (λ e. let h = eqb-true page p e in pages-run (run p 1) page (omega arith) (omega arith))

run-block : (block page : ℕ) → in_run (run (8 * block) 8) page ≡ eqb (page / 8) block
run-block block page =
    agree (in_run (run (8 * block) 8) page) (eqb (page / 8) block)
    (λ e. let h = run-pages (run (8 * block) 8) page e in eq-eqb (page / 8) block (omega arith))
    (λ e. let h = eqb-true (page / 8) block e in pages-run (run (8 * block) 8) page (omega arith) (omega arith))

-- pages of a run alone
only : (g : Geometry) (r : Run) (page : ℕ) (b : Bool) → in_run r page ≡ b → (in_run r page || in_set 0 (sector_of g page)) ≡ b
only g r page b e = ap (λ (t : Bool). in_run r page || t) (in_none (sector_of g page)) ∙ or-false (in_run r page) ∙ e

module _ (g : Geometry) (page : ℕ) (o : Operation) where
  named : (n : Named) → target_of o ≡ n → writes g o page ≡ (in_run (run_named g n) page || in_set (set_named n) (sector_of g page))
  unfolding writes run_of sectors_of
  named n e = ap (λ (k : Named). in_run (run_named g k) page || in_set (set_named k) (sector_of g page)) e

  pub target_nothing : target_of o ≡ Nothing → writes g o page ≡ false
  target_nothing e = named Nothing e ∙ only g (run 0 0) page false (run_none page)

  pub target_page : (p : ℕ) → target_of o ≡ Page p → writes g o page ≡ eqb page p
  target_page p e = named (Page p) e ∙ only g (run p 1) page (eqb page p) (run_one p page)

  pub target_block : (block : ℕ) → target_of o ≡ Block block → writes g o page ≡ eqb (page / 8) block
  target_block block e = named (Block block) e ∙ only g (run (8 * block) 8) page (eqb (page / 8) block) (run-block block page)

  pub target_sector : (s : ℕ) → target_of o ≡ Sector s → 8 < g.span → page < g.pages → writes g o page ≡ eqb (sector_of g page) s
  target_sector s e w l = named (Sector s) e ∙ only g (sector_run g s) page (eqb (sector_of g page) s) (sector_run_lem g w s page l)

  pub target_sectors : (sectors : ℕ) → target_of o ≡ Sectors sectors → writes g o page ≡ in_set sectors (sector_of g page)
  target_sectors sectors e = named (Sectors sectors) e ∙ ap (λ (b : Bool). b || in_set sectors (sector_of g page)) (run_none page)

-- those of the slot driver's operations
module _ (g : Geometry) (page : ℕ) where
  pub writes_idle : writes g Idle page ≡ false
  writes_idle = target_nothing g page Idle refl

  pub writes_program : (b : Buffer) (p : ℕ) → writes g (Program b p) page ≡ eqb page p
  writes_program b p = target_page g page (Program b p) p refl

  pub writes-block : (block : ℕ) → writes g (EraseBlock block) page ≡ eqb (page / 8) block
  writes-block block = target_block g page (EraseBlock block) block refl

  pub writes-compare : (b : Buffer) (p : ℕ) → writes g (Compare b p) page ≡ false
  writes-compare b p = target_nothing g page (Compare b p) refl
