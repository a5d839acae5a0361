-- `memory::reply_page` meets its contract: the part of the array that is handed on is the page. Assumes nothing.
use mathlib.Core.Path.{ap, ◌∙◌}
use native.Mathlib.Omega.{arith}
use lib.ListN.{length}
use Rattle.geometry.proofs.Pages.{length-page_of}
use Rattle.memory.proofs.reply_page.Goals as goal

pub reply_ring-requires : goal.reply_ring-requires
reply_ring-requires c =
    let a = c.args in
    (c.requires.3, c.requires.2, omega (arith, ap length c.page_bytes.ensures ∙ length-page_of a.g a.page a.array.now c.requires.0 c.requires.1))

pub returns : goal.returns
returns c = rw (← c.page_bytes.ensures) c.reply_ring.ensures
