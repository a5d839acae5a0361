-- Parts, pages and addresses. What differs from part to part is a parameter of every definition; a part is looked up from the array's length. The numbers in parentheses are those of docs/SPECIFICATION.md, here and in every crate.
-- Assumes nothing.
use Rattle.std.specs.Prelude.{ℕ, ◌+◌, ◌*◌, ◌/◌, ◌%◌, ◌<◌, ◌≤◌, ◌≡◌, Bool, true, false, cond, ◌&&◌, List, [], ◌∷◌, get_or, take, drop, eqb, ltb, leb, None, Option, Some}
use Rattle.geometry.specs.declared.Geometry.{Geometry}
use Rattle.geometry.specs.declared.Run.{Run}

-- Aid: what the parts share: sectors of 256 pages, registers of 16 bytes
abbrev pub row : ℕ → ℕ → ℕ → Bool → Geometry
row size pages field binary = record { size = size; pages = pages; field = field; binary = binary; span = 256; register = 16 }

-- (1.1) the parts: bytes a page, pages, how many address numbers fall to a page, and status bit 0
unfoldable pub parts : List Geometry
parts = row 264 4096 512 false ∷ row 264 128 512 false ∷ row 256 4096 256 true ∷ row 256 128 256 true ∷ []

-- Aid: the first of them whose pages make n bytes
unfoldable pub part_among : List Geometry → ℕ → Option Geometry
part_among [] n = None
part_among (g ∷ gs) n = cond (eqb n (g.pages * g.size)) (Some g) (part_among gs n)

-- (1.1) the part of an array of n bytes
unfoldable pub part_of : ℕ → Option Geometry
part_of n = part_among parts n

-- Aid: the largest page among them: the room of each of the record's buffers
abbrev pub page_room : ℕ
page_room = 264

-- Aid: the largest slot, of eight such pages
abbrev pub slot_room : ℕ
slot_room = 8 * page_room

-- Aid: the room of the record's protection and lockdown registers
abbrev pub register_room : ℕ
register_room = 16

-- (3.7) the address that three bytes of a frame from index a on make, the most significant first
unfoldable pub address_at : List ℕ → ℕ → ℕ
address_at f a = get_or f a 0 * 65536 + get_or f (a + 1) 0 * 256 + get_or f (a + 2) 0

-- (3.8) the page that an address names
unfoldable pub page_at : Geometry → ℕ → ℕ
page_at g n = n / g.field % g.pages

-- (3.9) the byte that it names in that page
unfoldable pub byte_at : Geometry → ℕ → ℕ
byte_at g n = n % g.field % g.size

-- (1.2) where a page starts in the array
unfoldable pub page_start : Geometry → ℕ → ℕ
page_start g page = page * g.size

-- (1.3) a page's bytes
unfoldable pub page_of : Geometry → ℕ → List ℕ → List ℕ
page_of g page xs = take g.size (drop (page_start g page) xs)

-- Aid: a run of pages: `count` pages from page `first` on
abbrev pub run : ℕ → ℕ → Run
run first count = record { first = first; count = count }

-- Aid: the page is in the run
unfoldable pub in_run : Run → ℕ → Bool
in_run r page = leb r.first page && ltb page (r.first + r.count)

-- ---- Aid: what every known part's geometry g says of an array of n bytes; all that the code and the laws go by

pub record Sized (g : Geometry) (n : ℕ) : Type 0 where
  pub some : 64 ≤ g.size
  pub most : g.size ≤ page_room
  pub addressed : 0 < g.field
  pub named : g.field * g.pages ≤ 16777216
  pub blocks : 8 ≤ g.pages
  pub eights : g.pages % 8 ≡ 0
  pub few : g.pages ≤ 4096
  pub whole : n ≡ g.pages * g.size
  pub wide : 8 < g.span
  pub narrow : g.span ≤ 4096
  pub parted : g.span % 8 ≡ 0
  pub held : g.pages ≤ g.register * g.span
  pub short : g.register ≡ register_room
