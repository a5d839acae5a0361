-- `memory::erase` meets its contract: the run's pages are one part of the array, which comes back as FFh. Assumes nothing.
use mathlib.Core.Path.{ap, ◌∙◌}
use Prim.Native.Nat.{ℕ, ◌*◌}
use native.Mathlib.Omega.{arith}
use lib.ListN.{replicate, length-replicate}
use Rattle.memory.specs.Pages.{erased}
use Rattle.memory.proofs.Lent.{run_end, run_long, run_back}
use Rattle.memory.proofs.erase.Goals as goal

pub slice_bounds-fill-count : goal.slice_bounds-fill-count
slice_bounds-fill-count c = omega (arith, run_end c.args.g c.args.r c.page_start-a.ensures.0 c.page_start-e.ensures.0)

pub slice_bounds-fill-start : goal.slice_bounds-fill-start
slice_bounds-fill-start c = omega (arith, run_end c.args.g c.args.r c.page_start-a.ensures.0 c.page_start-e.ensures.0)

pub returns : goal.returns
unfolding erased
returns c =
    let a = c.args in
    let s = c.page_start-a.ensures.0 in
    let e = c.page_start-e.ensures.0 in
    run_back a.g a.r s e a.array.now (omega arith)
    (c.fill.ensures ∙ ap (λ (n : ℕ). replicate n 255) (run_long a.g a.r s e a.array.now (omega arith)))
    (length-replicate (a.r.count * a.g.size) 255)
