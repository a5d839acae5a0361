-- `steps::step_at` meets its contract: below the opening's length a step of the opening; else the place tells the page and the step of the page.
-- Assumes nothing.
use native.Mathlib.Omega.{arith}
use mathlib.Core.Path.{◌∙◌}
use Rattle.slots.specs.Plans.{is_asking}
use Rattle.steps.specs.Places.{page_by}
use Rattle.steps.proofs.ByIndex.{page_low, at_opening, at_page, at_end}
use Rattle.steps.proofs.step_at.Goals as goal

pub returns-then-i-n : goal.returns-then-i-n
returns-then-i-n c =
    let a = c.args in
    let n = c.opening_length-n in (
      λ g. c.opening_step.ensures.0 (is_asking a.kind) (omega (arith, n.ensures.0))
          ∙ at_opening a.kind g a.slot a.i n.ensures.0 (omega arith),
      omega (arith, c.opening_step.ensures.1),
    )

pub returns-then-page_count-q : goal.returns-then-page_count-q
unfolding page_by
returns-then-page_count-q c =
    let a = c.args in
    let n = c.opening_length-n in
    let q = c.page_of-q in (
      λ g. at_end a.kind g a.slot a.i n.ensures.0 (omega arith) q.ensures (omega (arith, c.page_count.ensures.0)),
      omega arith,
    )

pub overflow_mul-q : goal.overflow_mul-q
overflow_mul-q c =
    let a = c.args in
    omega (arith, page_low a.kind c.per_page.ensures.0 c.page_of-q.ensures)

pub overflow_sub-j-2 : goal.overflow_sub-j-2
overflow_sub-j-2 c = page_low c.args.kind c.per_page.ensures.0 c.page_of-q.ensures

pub returns : goal.returns
returns c =
    let a = c.args in
    let n = c.opening_length-n in
    let q = c.page_of-q in
    let m = c.per_page in (
      λ g. c.page_step.ensures.0
          ∙ at_page a.kind g a.slot a.i n.ensures.0 m.ensures.0 m.ensures.1 (omega arith) q.ensures
          (omega (arith, c.page_count.ensures.0)),
      omega (arith, c.page_step.ensures.1, c.page_count.ensures.1),
    )
