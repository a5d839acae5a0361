-- The operation under way: whether the part has what it names, which pages it erases or programs, which buffer it uses.
-- Assumes nothing.
use Rattle.std.specs.Prelude.{ℕ, ◌*◌, ◌/◌, ◌%◌, ◌^◌, Bool, true, cond, ◌||◌, eqb, ltb, None, Option, Some}
use Rattle.geometry.specs.declared.Geometry.{Geometry}
use Rattle.geometry.specs.declared.Run.{Run}
use Rattle.geometry.specs.Parts.{part_of, run, in_run}
use Rattle.geometry.specs.Sectors.{sector_of, sector_run, sector_count}
use Rattle.commands.specs.declared.Buffer.{Buffer}
use Rattle.commands.specs.declared.Buffer.TheVariants.{One}
use Rattle.registers.specs.declared.Named.{Named}
use Rattle.registers.specs.declared.Named.TheVariants.{Nothing, Page, Block, Sector, Sectors}
use Rattle.registers.specs.declared.Operation.{Operation}
use Rattle.registers.specs.declared.Usage.{Usage}
use Rattle.registers.specs.declared.Usage.TheVariants.{Free, Uses, NoBuffer, Exclusive}
use Rattle.registers.specs.Facts.{facts_of}

-- (12.3) the part has what is named
abbrev pub has : Geometry → Named → Bool
has g Nothing = true
has g (Page page) = ltb page g.pages
has g (Block block) = ltb block (g.pages / 8)
has g (Sector s) = ltb s (sector_count g)
has g (Sectors sectors) = ltb sectors (2 ^ sector_count g)

-- (12.3) the operation names nothing that the part lacks
unfoldable pub within : Geometry → Operation → Bool
within g o = has g (facts_of o).names

-- (12.3) no part where it does
unfoldable pub placed_in : Option Geometry → Operation → Option Geometry
placed_in (Some g) o = cond (within g o) (Some g) None
placed_in None o = None

-- (12.3) the part for an array of this length with this operation under way; None is answer 1
unfoldable pub placed : ℕ → Operation → Option Geometry
placed length o = placed_in (part_of length) o

-- Aid: the page that is named; 0 where none is
abbrev pub page_named : Named → ℕ
page_named Nothing = 0
page_named (Page page) = page
page_named (Block block) = 0
page_named (Sector s) = 0
page_named (Sectors sectors) = 0

-- (1.4) what is named, as a run of pages: eight for a block
abbrev pub run_named : Geometry → Named → Run
run_named g Nothing = run 0 0
run_named g (Page page) = run page 1
run_named g (Block block) = run (8 * block) 8
run_named g (Sector s) = sector_run g s
run_named g (Sectors sectors) = run 0 0

-- Aid: the set that is named; 0 where none is
abbrev pub set_named : Named → ℕ
set_named Nothing = 0
set_named (Page page) = 0
set_named (Block block) = 0
set_named (Sector s) = 0
set_named (Sectors sectors) = sectors

-- (2.5) what an operation writes: what it names, or nothing
abbrev pub target_of : Operation → Named
target_of o = cond (facts_of o).writes (facts_of o).names Nothing

-- (2.5) as a run of pages
unfoldable pub run_of : Geometry → Operation → Run
run_of g o = run_named g (target_of o)

-- (2.5) as a set of sectors
unfoldable pub sectors_of : Operation → ℕ
sectors_of o = set_named (target_of o)

-- (2.5) the set has the sector: bit i is sector i
unfoldable pub in_set : ℕ → ℕ → Bool
in_set sectors s = eqb (sectors / 2 ^ s % 2) 1

-- (2.5) the operation writes this page
unfoldable pub writes : Geometry → Operation → ℕ → Bool
writes g o page = in_run (run_of g o) page || in_set (sectors_of o) (sector_of g page)

-- Aid: the buffer that is used; One where none is
abbrev pub buffer_of : Usage → Buffer
buffer_of Free = One
buffer_of (Uses b) = b
buffer_of NoBuffer = One
buffer_of Exclusive = One

-- Aid: the buffer that an operation uses
unfoldable pub buffer_used : Operation → Buffer
buffer_used o = buffer_of (facts_of o).usage
