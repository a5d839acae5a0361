-- `endings::deliver` meets its contract: n by the bytes read, and from where their head ends on the recipe.
-- Assumes nothing.
use Rattle.slices.proofs.Laws.{tail_part}
use Rattle.slices.specs.Lists.{over}
use Prim.Native.Nat.{ℕ}
use lib.ListN.{take, drop}
use mathlib.Core.Path.{ap, ◌∙◌}
use Rattle.endings.proofs.deliver.Goals as goal

pub returns : goal.returns
returns c =
    let a = c.args in
    let n = c.count_of-n.ensures.0 in
    let xs = a.staged.now in
    (n, c.lay_over.ensures ∙ (λ i. over (take (n i) ((tail_part c.body_start-start.result xs ∙ ap (λ (k : ℕ). drop k xs) c.body_start-start.ensures.0) i)) a.buffer.now))
