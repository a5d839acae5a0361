-- What operations do to the lent array and to a buffer. The array changes by `splice` alone: a part replaced by as many bytes.
-- Assumes nothing.
use Rattle.std.specs.Prelude.{ℕ, zero, suc, ◌+◌, ◌*◌, ◌/◌, ◌%◌, Bool, cond, not, List, take, drop, replicate, eqb}
use Rattle.slices.specs.Lists.{over, splice, and_over, same}
use Rattle.geometry.specs.declared.Geometry.{Geometry}
use Rattle.geometry.specs.declared.Run.{Run}
use Rattle.geometry.specs.Parts.{page_start, page_of}
use Rattle.geometry.specs.Sectors.{sector_run, sector_count}

-- (7.4) 83/86 and 82/85: the array with the buffer for the page
unfoldable pub programmed : Geometry → ℕ → List ℕ → List ℕ → List ℕ
programmed g page buffer xs = splice (page_start g page) (take g.size buffer) xs

-- (7.5) 88/89: with the page ANDed with the buffer
unfoldable pub programmed_over : Geometry → ℕ → List ℕ → List ℕ → List ℕ
programmed_over g page buffer xs = splice (page_start g page) (and_over (page_of g page xs) (take g.size buffer)) xs

-- (7.6) 53/55 and 58/59: the buffer, with the page's bytes
unfoldable pub transferred : Geometry → ℕ → List ℕ → List ℕ → List ℕ
transferred g page xs buffer = over (page_of g page xs) buffer

-- (7.8) 60/61: whether a byte of the page is another than the buffer's
unfoldable pub differing : Geometry → ℕ → List ℕ → List ℕ → Bool
differing g page xs buffer = not (same (take g.size buffer) (page_of g page xs))

-- (7.9) a run of pages with FFh in every byte
unfoldable pub erased : Geometry → Run → List ℕ → List ℕ
erased g r xs = splice (page_start g r.first) (replicate (r.count * g.size) 255) xs

-- (8.5) a run of pages made junk: array byte i is the junk's byte 2 * size + i
unfoldable pub junked : Geometry → List ℕ → Run → List ℕ → List ℕ
junked g junk r xs =
    splice (page_start g r.first) (take (r.count * g.size) (drop (2 * g.size + page_start g r.first) junk)) xs

-- (7.10) f done to each of n sectors from s on whose bit of the set is 1, lowest first
unfoldable pub each_sector : (Run → List ℕ → List ℕ) → Geometry → ℕ → ℕ → ℕ → List ℕ → List ℕ
each_sector f g zero s sectors xs = xs
each_sector f g (suc n) s sectors xs = each_sector f g n (s + 1) (sectors / 2) (cond (eqb (sectors % 2) 1) (f (sector_run g s) xs) xs)

-- (7.10) f done to each sector of a set, as far as the part has them
unfoldable pub in_sectors : (Run → List ℕ → List ℕ) → Geometry → ℕ → List ℕ → List ℕ
in_sectors f g sectors xs = each_sector f g (sector_count g) 0 sectors xs

-- (8.4) a buffer made junk: the junk from index at on
unfoldable pub junk_buffer : Geometry → List ℕ → ℕ → List ℕ → List ℕ
junk_buffer g junk at buffer = over (take g.size (drop at junk)) buffer
