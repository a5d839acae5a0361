-- `registers::data_bytes` meets its contract: the frame behind its first four bytes, written round as many bytes of FFh.
-- Assumes nothing.
use mathlib.Core.List.{List}
use mathlib.Core.Path.{ap, ◌∙◌}
use Prim.Native.Nat.{ℕ}
use lib.ListN.{replicate}
use Rattle.slices.specs.Lists.{ring_write}
use Rattle.slices.proofs.Laws.{tail_part}
use Rattle.registers.specs.Data.{padded}
use Rattle.registers.proofs.data_bytes.Goals as goal

pub returns : goal.returns
unfolding padded
returns g c =
    let n = g.row.N in
    c.ring_write.ensures ∙ ap (λ (l : List ℕ). ring_write n 0 l (replicate n 255)) (tail_part 4 c.args.frame.now)
