-- `slices::and_into` meets its contract: after i turns the first i bytes are ANDed with those of `mask`, the others as they came. Assumes nothing.
use mathlib.Core.Path.{sym, ap, ◌∙◌}
use Prim.Native.Nat.{ℕ}
use native.Mathlib.Omega.{arith}
use lib.ListN.{get_or}
use lib.Bits.{bit_and}
use Rattle.slices.proofs.Laws.{and_over-tabulate}
use Rattle.slices.proofs.Loops.{stored-none, stored_more, stored-all, stored-rest}
use Rattle.slices.proofs.and_into.Goals as goal

pub loop-i-init : goal.loop-i-init
loop-i-init c = stored-none _ _

pub loop-i-preserved : goal.loop-i-preserved
loop-i-preserved c =
    stored_more (omega arith)
    (ap (λ (x : ℕ). bit_and x (get_or c.args.mask.now c.loop-i.i 0)) (stored-rest 0 c.loop-i.invariant))
    c.loop-i.invariant

pub returns : goal.returns
returns c = stored-all (omega arith) c.loop-i.invariant ∙ sym (and_over-tabulate c.args.part.now c.args.mask.now 0 c.requires)
