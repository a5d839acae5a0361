-- Sectors, by their numbers 0 to 16: 0 is 0a, 1 is 0b, and j + 1 is sector j.
-- Assumes nothing.
use Rattle.std.specs.Prelude.{ℕ, zero, suc, ◌+◌, ◌-◌, ◌*◌, ◌/◌, min, cond, ltb}
use Rattle.geometry.specs.declared.Geometry.{Geometry}
use Rattle.geometry.specs.declared.Run.{Run}
use Rattle.geometry.specs.Parts.{run}

-- (1.5) the sector that a page is in
unfoldable pub sector_of : Geometry → ℕ → ℕ
sector_of g page = cond (ltb page 8) 0 (page / g.span + 1)

-- (1.5) a sector's first page
unfoldable pub first_page : Geometry → ℕ → ℕ
first_page g zero = 0
first_page g (suc zero) = 8
first_page g (suc (suc j)) = g.span * suc j

-- (1.5) the page after a sector's last
unfoldable pub end_page : Geometry → ℕ → ℕ
end_page g zero = 8
end_page g (suc j) = g.span * suc j

-- (1.6) a sector's pages, as far as the part has them
unfoldable pub sector_run : Geometry → ℕ → Run
sector_run g s = run (min (first_page g s) g.pages) (min (end_page g s) g.pages - min (first_page g s) g.pages)

-- (1.7) how many sectors the part has: those up to its last page's
unfoldable pub sector_count : Geometry → ℕ
sector_count g = sector_of g (g.pages - 1) + 1
