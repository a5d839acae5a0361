-- `memory::each_sector` meets its contract: before sector s the sectors below it are done, and what is left of the set is that set divided by 2 s times.
-- Assumes nothing.
use mathlib.Core.Path.{refl, subst, ◌∙◌}
use Prim.Native.Nat.{ℕ, ◌<◌}
use native.Mathlib.Omega.{arith}
use Rattle.geometry.proofs.Pages.{sized_own}
use Rattle.geometry.proofs.Sectors.{sectors_few}
use Rattle.memory.proofs.Lent.{passed_none, passed_done, passed_by, passed_all}
use Rattle.memory.proofs.each_sector.Goals as goal
use Rattle.memory.proofs.each_sector.Goals.{then-left-eq1, else-left-eq1}

pub loop-s-init : goal.loop-s-init
loop-s-init g c = (refl, λ f h. passed_none)

pub sector_run-requires : goal.sector_run-requires
sector_run-requires g c =
    let z = sized_own c.args.g _ c.requires.sized in
    (z, omega (arith, c.loop-s-test.true, c.sector_count-s-end.ensures, sectors_few c.args.g _ z))

pub loop-s-preserved : goal.loop-s-preserved
loop-s-preserved g c =
    let p = c.loop-s.invariant in
    let n = c.if-left-eq1.auto.array in
    let t = subst (λ (n : ℕ). c.loop-s.s < n) c.sector_count-s-end.ensures c.loop-s-test.true in
    elim c.if-left-eq1.branch [
      | then-left-eq1 w ↦ (n ∙ p.0, λ f h. passed_done (p.1 f h) t w.if-left-eq1.true w.sector_run.ensures.0 n (w.array-is ∙ h _ _ _ w.act.ensures))
      | else-left-eq1 w ↦ (n ∙ p.0, λ f h. passed_by (p.1 f h) t w.if-left-eq1.false w.array-is)
    ]

pub returns : goal.returns
returns g c = λ f h. passed_all (c.loop-s.invariant.1 f h) (omega (arith, c.loop-s-test.false, c.sector_count-s-end.ensures))
