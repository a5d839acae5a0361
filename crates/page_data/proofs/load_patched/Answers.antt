-- `page_data::load_patched` meets its contract: the page as it was read, with the patch laid over it where the verdict lets it change.
-- Assumes nothing.
use native.Mathlib.Omega.{arith}
use lib.ListN.{length}
use Rattle.page_data.proofs.Pages.{patch-kept, patch-laid}
use Rattle.page_data.proofs.load_patched.Goals as goal

pub returns-else-is_changing : goal.returns-else-is_changing
returns-else-is_changing c =
    let a = c.args in
    let r = c.copy in
    let h = c.is_changing in
    patch-kept a.d.verdict a.d.aim a.payload.now a.staged.now a.start (length a.part.now) (omega (arith, c.requires.0, c.requires.1)) r.new.part r.ensures
    h.ensures c.if-is_changing.false

pub returns-then-is_changing : goal.returns-then-is_changing
returns-then-is_changing c =
    let a = c.args in
    let r = c.copy in
    let b = c.body_start in
    let l = c.lay_patch in
    let h = c.is_changing in
    patch-laid a.d.verdict a.d.aim a.payload.now a.staged.now a.start (length a.part.now) (omega (arith, c.requires.0, c.requires.1)) r.new.part r.ensures
    b.result l.new.part h.ensures c.if-is_changing.true b.ensures.0 l.ensures
