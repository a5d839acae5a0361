-- `page_data::page_start` meets its contract: eight pages are at most 2,112 bytes, and page 1 begins behind the head.
-- Assumes nothing.
use mathlib.Core.Path.{refl}
use Prim.Native.Nat.{◌%◌}
use native.Mathlib.Omega.{arith}
use Rattle.page_data.proofs.Pages.{page_small, page_within, page_apart}
use Rattle.page_data.proofs.page_start.Goals as goal

pub overflow_mul-result : goal.overflow_mul-result
overflow_mul-result c = page_small _ _ c.requires.most (omega arith)

pub returns : goal.returns
returns c =
    let a = c.args in
    (refl, page_within a.g.size (a.page % 8) c.requires.most (omega arith), page_apart a.g.size (a.page % 8) c.requires.some)
