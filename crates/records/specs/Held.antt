-- Aid: what the code is given, as the definitions have it.
-- Assumes nothing.
use Rattle.std.specs.Prelude.{ℕ, ◌≤◌, List}
use Rattle.registers.specs.Protection.{Roomed}
use Rattle.geometry.specs.Parts.{page_room}
use Rattle.geometry.specs.declared.Geometry.{Geometry}
use Rattle.slots.specs.declared.Aim.{Aim}
use Rattle.slots.specs.declared.Verdict.{Verdict}
use Rattle.slots.specs.Driver.{Holding}

-- the data
abbrev pub held : Verdict → Aim → List ℕ → List ℕ → Holding
held v aim payload staged = record { payload = payload; aim = aim; staged = staged; verdict = v }

-- what the driver goes by of a part: a head fits a page, and a slot its room; an address is small; the registers fill their room
pub record Pages (g : Geometry) : Type 0 where
  pub some : 64 ≤ g.size
  pub most : g.size ≤ page_room
  pub named : g.field ≤ 16777216
  pub full : Roomed g
