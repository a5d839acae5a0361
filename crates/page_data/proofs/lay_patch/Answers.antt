-- `page_data::lay_patch` meets its contract: the patch's bytes that lie in the part are one run, or none.
-- Assumes nothing.
use mathlib.Core.Path.{refl, sym, ◌∙◌}
use Prim.Native.Nat.{◌+◌, ◌-◌}
use native.Mathlib.Omega.{arith}
use lib.ListN.{length}
use Rattle.slices.proofs.Laws.{run_length}
use Rattle.page_data.proofs.Bytes.{laid_before, laid-after, run-left, run_right, laid-some}
use Rattle.page_data.proofs.lay_patch.Goals as goal

pub returns-then-place-ge2112 : goal.returns-then-place-ge2112
returns-then-place-ge2112 c =
    let a = c.args in
    laid_before a.head a.place a.bytes.now a.start a.part.now (a.place + a.head - a.start) refl (omega (arith, c.if-place-ge2112.true, c.requires.0, c.requires.1))

pub returns-then-part-to : goal.returns-then-part-to
returns-then-part-to c =
    let a = c.args in
    laid_before a.head a.place a.bytes.now a.start a.part.now c.saturating_sub-to.result c.saturating_sub-to.ensures c.if-part-to.true

pub returns-then-bytes-from : goal.returns-then-bytes-from
returns-then-bytes-from c =
    let a = c.args in
    laid-after a.head a.place a.bytes.now a.start a.part.now c.saturating_sub-from.result c.saturating_sub-from.ensures c.if-bytes-from.true

pub copy-requires : goal.copy-requires
copy-requires c =
    let excess = c.saturating_sub-to in
    let lesser = c.lesser-n in
    let excess2 = c.saturating_sub-from in
    let a = c.args in
    run_length excess.result lesser.result a.part.now (run-left (length a.part.now) (length a.bytes.now)
    excess.result excess2.result lesser.result lesser.ensures c.if-part-to.false)
    ∙ sym (run_length excess2.result lesser.result a.bytes.now (run_right (length a.part.now) (length a.bytes.now)
    excess.result excess2.result lesser.result lesser.ensures c.if-bytes-from.false))

pub returns : goal.returns
returns c =
    let excess = c.saturating_sub-to in
    let excess2 = c.saturating_sub-from in
    let lesser = c.lesser-n in
    let copy = c.copy in
    let a = c.args in
    laid-some a.head a.place a.bytes.now a.start a.part.now excess.result excess2.result lesser.result
    copy.new.part excess.ensures excess2.ensures c.if-part-to.false
    c.if-bytes-from.false lesser.ensures copy.ensures
