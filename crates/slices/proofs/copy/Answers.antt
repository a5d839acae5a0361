-- `slices::copy` meets its contract: after i turns the first i bytes are those of `source`. Assumes nothing.
use mathlib.Core.Path.{refl, ap, ◌∙◌}
use Prim.Native.Nat.{ℕ}
use native.Mathlib.Omega.{arith}
use lib.ListN.{get_or}
use Rattle.slices.specs.Lists.{tabulate}
use Rattle.slices.proofs.Laws.{tabulate-get_or}
use Rattle.slices.proofs.Loops.{stored-none, stored_more, stored-all}
use Rattle.slices.proofs.copy.Goals as goal

pub loop-i-init : goal.loop-i-init
loop-i-init c = stored-none _ _

pub loop-i-preserved : goal.loop-i-preserved
loop-i-preserved c = stored_more (omega arith) refl c.loop-i.invariant

pub returns : goal.returns
returns c =
    let xs = c.args.source.now in
    stored-all (omega arith) c.loop-i.invariant ∙ ap (λ (n : ℕ). tabulate n (λ k. get_or xs k 0)) c.requires ∙ tabulate-get_or xs 0
