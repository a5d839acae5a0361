-- Aid: what the laws say of frames: what one may start, and when, and what none changes; and how long the registers are. No rules of the chip, but what follows
-- from them.
-- Assumes nothing.
use Rattle.std.specs.Prelude.{ℕ, ◌/◌, ◌≡◌, true, false, List, length}
use Rattle.geometry.specs.declared.Geometry.{Geometry}
use Rattle.geometry.specs.Parts.{page_at, register_room}
use Rattle.geometry.specs.Sectors.{sector_of}
use Rattle.commands.specs.declared.Buffer.{Buffer}
use Rattle.registers.specs.declared.Operation.{Operation}
use Rattle.registers.specs.declared.Operation.TheVariants as O
use Rattle.registers.specs.declared.Registers.{Registers}
use Rattle.registers.specs.Protection.{sealed, unsealed_set}
use Rattle.control.specs.Control.{protection_data, security_data}

-- idle and awake: a chip that obeys every command
abbrev pub Ready : Registers → Type 0
Ready r = (r.operation ≡ O.Idle) × (r.deep ≡ false)

-- the sector of the page that the address names is not sealed
abbrev pub Open : Geometry → Registers → ℕ → Type 0
Open g r address = sealed g r (sector_of g (page_at g address)) ≡ false

-- the operations that a frame f may start on these registers
pub data Starts (g : Geometry) (r : Registers) (f : List ℕ) : Operation → Type 0 where
  programs : (b : Buffer) (address : ℕ) → Open g r address → Starts g r f (O.Program b (page_at g address))
  programs-over : (b : Buffer) (address : ℕ) → Open g r address → Starts g r f (O.ProgramOver b (page_at g address))
  transfers : (b : Buffer) (address : ℕ) → Starts g r f (O.Transfer b (page_at g address))
  compares : (b : Buffer) (address : ℕ) → Starts g r f (O.Compare b (page_at g address))
  rewrites : (b : Buffer) (address : ℕ) → Open g r address → Starts g r f (O.Rewrite b (page_at g address))
  erases_page : (address : ℕ) → Open g r address → Starts g r f (O.ErasePage (page_at g address))
  erases_block : (address : ℕ) → Open g r address → Starts g r f (O.EraseBlock (page_at g address / 8))
  erases_sector : (address : ℕ) → Open g r address → Starts g r f (O.EraseSector (sector_of g (page_at g address)))
  erases_chip : Starts g r f (O.EraseChip (unsealed_set g r))
  erases_protection : r.wp ≡ true → Starts g r f O.EraseProtection
  programs-protection : r.wp ≡ true → Starts g r f (O.ProgramProtection (protection_data g f))
  locks_sector : (address : ℕ) → Starts g r f (O.LockSector (sector_of g (page_at g address)))
  programs_security : r.used ≡ false → Starts g r f (O.ProgramSecurity (security_data f))

-- what every frame leaves as it is: the registers n after it have of r what only a busy end, a cut or a pin move changes
pub record Fixed (r n : Registers) : Type 0 where
  pub protection : n.protection ≡ r.protection
  pub lockdown : n.lockdown ≡ r.lockdown
  pub user : n.user ≡ r.user
  pub factory : n.factory ≡ r.factory
  pub used : n.used ≡ r.used
  pub wp : n.wp ≡ r.wp

-- (2.3) how many bytes each register has
pub record Lengths (r : Registers) : Type 0 where
  pub protection : length r.protection ≡ register_room
  pub lockdown : length r.lockdown ≡ register_room
  pub user : length r.user ≡ 64
  pub factory : length r.factory ≡ 64
