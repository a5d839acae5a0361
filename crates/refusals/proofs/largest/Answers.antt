-- `refusals::largest` meets its contract: the largest byte so far and that of the bytes to come are the script's.
-- Assumes nothing.
use mathlib.Core.Path.{◌≡◌, sym, ap, ◌∙◌}
use Prim.Native.Nat.{ℕ, ◌+◌, max}
use native.Mathlib.Omega.{arith}
use lib.ListN.{drop}
use Rattle.std.specs.Ordering.{ord_max, nat_cmp}
use Rattle.refusals.specs.Largest.{largest_in}
use Rattle.refusals.proofs.Scripts.{largest_none, largest_here}
use Rattle.refusals.proofs.largest.Goals as goal

pub loop-byte-init : goal.loop-byte-init
loop-byte-init c =
    least (largest_in c.args.script.now)
  where
    least : (n : ℕ) → max 0 n ≡ n
    least n = omega arith

pub loop-byte-preserved : goal.loop-byte-preserved
loop-byte-preserved c =
    let script = c.args.script.now in
    let loop = c.loop-byte in
    ap (λ (n : ℕ). max n (largest_in (drop (loop.byte-index + 1) script))) (c.max-most.ensures ∙ greater loop.most _)
    ∙ sym (largest_here script loop.byte-index loop.most c.loop-byte-test.true) ∙ loop.invariant
  where
    greater : (a b : ℕ) → ord_max nat_cmp a b ≡ max a b
    greater a b = grind arith

pub returns : goal.returns
returns c =
    let loop = c.loop-byte in
    sym (largest_none c.args.script.now loop.byte-index loop.most c.loop-byte-test.false) ∙ loop.invariant
