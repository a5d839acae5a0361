-- `page_data::load_image` meets its contract: page 0 is the head and the recipe's beginning; every other page is the recipe from as many bytes before it on as
-- the head has.
-- Assumes nothing.
use mathlib.Core.Path.{sym, ap, ◌∙◌}
use Prim.Native.Nat.{ℕ}
use native.Mathlib.Omega.{arith}
use lib.ListN.{length, take}
use lib.Seq.{length-take-le}
use Rattle.slots.specs.Records.{head_size}
use Rattle.page_data.proofs.Pages.{image_made, image_later}
use Rattle.page_data.proofs.load_image.Goals as goal

pub slice_bounds-copy-end-then-start-eq0 : goal.slice_bounds-copy-end-then-start-eq0
slice_bounds-copy-end-then-start-eq0 c =
    let h = c.head_size-head in
    sym (length-take-le h.result c.args.part.now (omega (arith, h.ensures.1, c.requires.1)))

pub slice_bounds-copy-end-then-start-eq0-2 : goal.slice_bounds-copy-end-then-start-eq0-2
slice_bounds-copy-end-then-start-eq0-2 c =
    let h = c.head_size-head in
    sym (length-take-le h.result c.head_bytes-bytes.result (omega (arith, h.ensures.1)))

pub copy-requires : goal.copy-requires
copy-requires c =
    let h = c.head_size-head in
    length-take-le h.result c.args.part.now (omega (arith, h.ensures.1, c.requires.1))
    ∙ sym (length-take-le h.result c.head_bytes-bytes.result (omega (arith, h.ensures.1)))

pub returns-then-start-eq0 : goal.returns-then-start-eq0
returns-then-start-eq0 c =
    let a = c.args in
    let h = c.head_size-head in
    let r = c.copy_from in
    let k = h.ensures.0 ∙ ap head_size c.version_of.ensures in
    image_made a.period a.recipe.now a.part.now c.copy.new.part r.new.part a.start h.result c.requires.1 k c.if-start-eq0.true
    (c.copy.ensures ∙ ap (λ (n : ℕ). take n c.head_bytes-bytes.result) k ∙ c.head_bytes-bytes.ensures) r.ensures

pub overflow_sub-start : goal.overflow_sub-start
overflow_sub-start c = omega (arith, c.requires.0 (omega (arith, c.if-start-eq0.false)), c.head_size-head.ensures.1)

pub returns : goal.returns
returns c =
    let a = c.args in
    c.copy_from-2.ensures
    ∙ image_later a.period a.recipe.now (length a.part.now) a.start c.head_size-head.result (c.head_size-head.ensures.0 ∙ ap head_size c.version_of.ensures)
    (c.requires.0 (omega (arith, c.if-start-eq0.false)))
