-- `slices::differs` meets its contract: the two are the same if no bytes were found that differ and what the iterator has left of them is the same.
-- Assumes nothing.
use mathlib.Core.Path.{◌≡◌, sym, ap, ◌∙◌}
use mathlib.Core.Bool.{Bool, not, ◌&&◌, and-false, and-true, not-not}
use mathlib.Core.Logic.{⊎_elim}
use native.Mathlib.Omega.{arith}
use lib.ListN.{length}
use Rattle.slices.specs.Lists.{same}
use Rattle.slices.proofs.Laws.{same-lengths}
use Rattle.slices.proofs.Loops.{same_cons, same_not, same_nil}
use Rattle.slices.proofs.differs.Goals as goal

pub returns-then-a-b : goal.returns-then-a-b
returns-then-a-b c = sym (ap not (same-lengths c.args.a.now c.args.b.now c.if-a-b.true))

pub loop-x-preserved-then-x-y : goal.loop-x-preserved-then-x-y
loop-x-preserved-then-x-y c =
    let s = c.in-Some.ensures.steps in (
      omega (arith, ap length s.0, ap length s.1, c.loop-x.invariant.0),
      c.loop-x.invariant.1 ∙ ap (λ (t : Bool). not c.loop-x.found && t) (same_not s.0 s.1 c.if-x-y.true) ∙ and-false (not c.loop-x.found),
    )

pub loop-x-preserved : goal.loop-x-preserved
loop-x-preserved c =
    let s = c.in-Some.ensures.steps in (
      omega (arith, ap length s.0, ap length s.1, c.loop-x.invariant.0),
      c.loop-x.invariant.1 ∙ ap (λ (t : Bool). not c.loop-x.found && t) (same_cons s.0 s.1 c.if-x-y.false),
    )

pub returns : goal.returns
returns c =
    let xs = c.loop-x.x-iterator.a.rest.now in
    let ys = c.loop-x.x-iterator.b.rest.now in
    let l : length xs ≡ 0 = ⊎_elim (λ w. w.1.0) (λ w. c.loop-x.invariant.0 ∙ w.1.0) c.in-None.ensures.steps in
    let e : same c.args.a.now c.args.b.now ≡ not c.loop-x.found =
    c.loop-x.invariant.1 ∙ ap (λ (t : Bool). not c.loop-x.found && t) (same_nil xs ys l (omega (arith, l, c.loop-x.invariant.0))) ∙ and-true (not c.loop-x.found)
    in
    sym (ap not e ∙ not-not c.loop-x.found)
