-- A call is a plan: the frames that it sends, as steps. What follows here from a plan (how many frames, how many waits, which step stands at a
-- place) is a fold over it.
-- Assumes nothing.
use Rattle.std.specs.Prelude.{ℕ, zero, suc, ◌+◌, ◌*◌, Bool, true, false, cond, List, [], ◌∷◌, ◌++◌}
use Rattle.geometry.specs.declared.Geometry.{Geometry}
use Rattle.geometry.specs.declared.Run.{Run}
use Rattle.geometry.specs.Parts.{run}
use Rattle.geometry.specs.Sectors.{sector_of}
use Rattle.slots.specs.declared.Kind.{Kind}
use Rattle.slots.specs.declared.Kind.TheVariants.{Put, Patch, Get, Wipe}
use Rattle.slots.specs.declared.Command.TheVariants.{Program, Erase, Compare}
use Rattle.slots.specs.declared.Step.{Step}
use Rattle.slots.specs.declared.Step.TheVariants.{Wait, Protection, Lockdown, Read, Load, Send, End}

-- (10.1) what a call is asked, as far as its frames may depend on it before their data: which call, the slot, the poll limit B
pub record Asked : Type 0 where
  pub kind : Kind
  pub slot : ℕ
  pub limit : ℕ

-- ---- the plans

-- (10.3) a wait; and for a call that writes, both registers
abbrev pub opening : Bool → List Step
opening true = Wait false ∷ Protection ∷ Lockdown ∷ []
opening false = Wait false ∷ []

-- (10.3) the calls that write
unfoldable pub is_asking : Kind → Bool
is_asking Put = true
is_asking Patch = true
is_asking Get = false
is_asking Wipe = true

-- (10.4) the page compared with what was programmed: the wait after a 60 is checked
abbrev pub check_page : ℕ → List Step
check_page p = Send Compare p ∷ Wait true ∷ []

-- (10.4) of a put; a patch has them too
abbrev pub put_page : ℕ → List Step
put_page p = Load p ∷ Send Program p ∷ Wait false ∷ check_page p

-- (10.4) the steps of a page
unfoldable pub page_steps : Kind → ℕ → List Step
page_steps Put p = put_page p
page_steps Patch p = Read p ∷ put_page p
page_steps Get p = Read p ∷ []
page_steps Wipe p = Send Erase p ∷ Wait false ∷ []

-- (10.5) the pages: the slot's eight, or its first
unfoldable pub run_by : Kind → Geometry → ℕ → Run
run_by Put g slot = run (8 * slot) 8
run_by Patch g slot = run (8 * slot) 8
run_by Get g slot = run (8 * slot) 8
run_by Wipe g slot = run (8 * slot) 1

-- (10.5) n pages in order, from page k on
unfoldable pub pages : ℕ → ℕ → (ℕ → List Step) → List Step
pages zero k f = []
pages (suc n) k f = f k ++ pages n (suc k) f

-- (10.2) the opening, then the pages
unfoldable pub plan_by : Kind → Geometry → ℕ → List Step
plan_by k g slot = opening (is_asking k) ++ pages (run_by k g slot).count (run_by k g slot).first (page_steps k)

-- (10.2) of what is asked
abbrev pub plan_of : Geometry → Asked → List Step
plan_of g a = plan_by a.kind g a.slot

-- (9.11) the slot's sector, which 32 and 35 are asked for
abbrev pub sector_for : Geometry → Asked → ℕ
sector_for g a = sector_of g (8 * a.slot)

-- ---- places

-- (10.6) the step at a place; after the last the end
unfoldable pub step_at : List Step → ℕ → Step
step_at [] i = End
step_at (x ∷ xs) zero = x
step_at (x ∷ xs) (suc i) = step_at xs i

-- (10.6) it is the end
unfoldable pub is_end : Step → Bool
is_end (Wait c) = false
is_end Protection = false
is_end Lockdown = false
is_end (Read p) = false
is_end (Load p) = false
is_end (Send c p) = false
is_end End = true

-- (11.7) the step whose frames are polls
unfoldable pub is_wait : Step → Bool
is_wait (Wait c) = true
is_wait Protection = false
is_wait Lockdown = false
is_wait (Read p) = false
is_wait (Load p) = false
is_wait (Send c p) = false
is_wait End = false

-- ---- how many frames

-- (10.29) at most, with B polls a wait: B for a wait, one for any other step
unfoldable pub frames_most : ℕ → List Step → ℕ
frames_most B [] = 0
frames_most B (x ∷ xs) = cond (is_wait x) B 1 + frames_most B xs

-- (10.29) the bound of a call's frames
abbrev pub bound : Geometry → Asked → ℕ
bound g a = frames_most a.limit (plan_of g a)

-- Aid: how many waits
unfoldable pub waits_in : List Step → ℕ
waits_in [] = 0
waits_in (x ∷ xs) = cond (is_wait x) 1 0 + waits_in xs

-- (10.29) the bounds in numbers, by call and B
unfoldable pub stated : Kind → ℕ → ℕ
stated Put B = 17 * B + 26
stated Patch B = 17 * B + 34
stated Get B = B + 8
stated Wipe B = 2 * B + 3

-- (10.30) frames of a call that nothing disturbs
unfoldable pub frames_of : Kind → ℕ
frames_of Put = 43
frames_of Patch = 51
frames_of Get = 9
frames_of Wipe = 5

-- (10.30) and its polls
unfoldable pub polls_of : Kind → ℕ
polls_of Put = 17
polls_of Patch = 17
polls_of Get = 1
polls_of Wipe = 2
