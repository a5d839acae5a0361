-- `page_data::pad_from` meets its contract: over `other` throughout, the beginning comes back as the bytes that there are.
-- Assumes nothing.
use mathlib.Core.Path.{sym, ◌∙◌}
use native.Mathlib.Omega.{arith}
use lib.Seq.{length-take-le}
use lib.ListN.{length, length-take, length-drop}
use Rattle.page_data.proofs.Bytes.{copied_none, copied_some}
use Rattle.page_data.proofs.pad_from.Goals as goal

pub returns-then-source-from : goal.returns-then-source-from
returns-then-source-from c =
    let a = c.args in
    c.fill.ensures ∙ copied_none (length a.part.now) a.source.now a.from a.other c.if-source-from.true

pub slice_bounds-copy-end-2 : goal.slice_bounds-copy-end-2
slice_bounds-copy-end-2 c = sym (length-take-le c.lesser-n.result c.fill.new.part (omega arith))

pub copy-requires : goal.copy-requires
copy-requires c = simp (length-take, length-drop) (omega arith)

pub returns : goal.returns
returns c =
    let lesser = c.lesser-n in
    let fill = c.fill in
    let copy = c.copy in
    let a = c.args in
    copied_some (length a.part.now) a.source.now a.from a.other lesser.result fill.new.part copy.new.part
    c.if-source-from.false fill.ensures lesser.ensures copy.ensures
