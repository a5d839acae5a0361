-- `page_data::load_page` meets its contract: each kind's page is the definition's clause for it; a get and a wipe load nothing but zeros.
-- Assumes nothing.
use Prim.Native.Nat.{◌*◌, ◌%◌}
use mathlib.Core.Path.{◌∙◌}
use Rattle.records.specs.Held.{held}
use Rattle.page_data.proofs.Pages.{zeros}
use Rattle.page_data.proofs.load_page.Goals as goal

pub returns-in-Get : goal.returns-in-Get
returns-in-Get c =
    let a = c.args in
    c.fill.ensures ∙ zeros (held a.d.verdict a.d.aim a.payload.now a.staged.now) (a.g.size * (a.page % 8)) c.in-Get.is c.requires.2
