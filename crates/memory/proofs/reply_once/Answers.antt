-- `memory::reply_once` meets its contract: over FFh throughout, the part behind the lead comes back as the bytes, as far as there are any and the reply reaches.
-- Assumes nothing.
use mathlib.Core.Path.{sym}
use native.Mathlib.Omega.{arith}
use lib.ListN.{length, length-take, length-drop}
use lib.Seq.{length-take-le}
use Rattle.memory.proofs.Lent.{once}
use Rattle.memory.proofs.reply_once.Goals as goal

pub slice_bounds-copy-end-2 : goal.slice_bounds-copy-end-2
slice_bounds-copy-end-2 c = sym (length-take-le c.min-n.result c.args.bytes.now (omega arith))

pub copy-requires : goal.copy-requires
copy-requires c = simp (length-take, length-drop) (omega arith)

pub returns : goal.returns
returns c =
    let a = c.args in
    let f = c.fill in
    let k = c.min-n in
    let m = c.copy in
    once (length a.reply.now) a.lead k.result a.bytes.now f.new.part m.new.part c.requires f.ensures k.ensures m.ensures
