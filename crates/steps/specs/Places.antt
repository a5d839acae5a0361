-- Aid: how a plan is laid out, for code that finds the step at a place by arithmetic. No rule: `step_at` of crate slots says which step it is.
-- Assumes nothing.
use Rattle.std.specs.Prelude.{ℕ}
use Rattle.slots.specs.declared.Kind.{Kind}
use Rattle.slots.specs.declared.Kind.TheVariants.{Put, Patch, Get, Wipe}
use Rattle.slots.specs.declared.Step.{Step}
use Rattle.slots.specs.declared.Step.TheVariants.{Wait, Protection, Lockdown, Read, Load, Send, End}

-- how many steps a page takes
unfoldable pub per_page : Kind → ℕ
per_page Put = 5
per_page Patch = 6
per_page Get = 1
per_page Wipe = 2

-- how many pages
unfoldable pub page_count : Kind → ℕ
page_count Put = 8
page_count Patch = 8
page_count Get = 8
page_count Wipe = 1

-- the page that a step names; 0 where it names none
unfoldable pub page_by : Step → ℕ
page_by (Wait c) = 0
page_by Protection = 0
page_by Lockdown = 0
page_by (Read p) = p
page_by (Load p) = p
page_by (Send c p) = p
page_by End = 0
