-- `memory::spoil` meets its contract: the run's pages are one part of the array, which comes back as the junk's part from two pages further on.
-- Assumes nothing.
use mathlib.Core.Path.{◌∙◌}
use Prim.Native.Nat.{◌*◌}
use native.Mathlib.Omega.{arith}
use lib.ListN.{length-take, length-drop}
use Rattle.memory.specs.Pages.{junked}
use Rattle.memory.proofs.Lent.{run_end, run_from, run_back}
use Rattle.memory.proofs.spoil.Goals as goal

pub slice_bounds-copy-count : goal.slice_bounds-copy-count
slice_bounds-copy-count c = omega (arith, run_end c.args.g c.args.r c.page_start-a.ensures.0 c.page_start-e.ensures.0)

pub slice_bounds-copy-start : goal.slice_bounds-copy-start
slice_bounds-copy-start c = omega (arith, run_end c.args.g c.args.r c.page_start-a.ensures.0 c.page_start-e.ensures.0)

pub slice_bounds-copy-count-2 : goal.slice_bounds-copy-count-2
slice_bounds-copy-count-2 c = omega (arith, run_end c.args.g c.args.r c.page_start-a.ensures.0 c.page_start-e.ensures.0)

pub slice_bounds-copy-start-2 : goal.slice_bounds-copy-start-2
slice_bounds-copy-start-2 c = omega (arith, run_end c.args.g c.args.r c.page_start-a.ensures.0 c.page_start-e.ensures.0)

pub returns : goal.returns
unfolding junked
returns c =
    let a = c.args in
    let s = c.page_start-a.ensures.0 in
    let e = c.page_start-e.ensures.0 in
    run_back a.g a.r s e a.array.now (omega arith)
    (c.copy.ensures ∙ run_from a.g a.r s e (2 * a.g.size) a.junk.now)
    (simp (length-take, length-drop) (omega (arith, run_end a.g a.r s e)))
