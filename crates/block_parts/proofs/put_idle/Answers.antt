-- `block_parts::put_idle` meets its contract: no data are stored right behind the head of no operation.
-- Assumes nothing.
use mathlib.Core.List.{List}
use mathlib.Core.Path.{sym, ap, ◌∙◌}
use Prim.Native.Nat.{ℕ}
use Rattle.slices.specs.Lists.{splice}
use Rattle.slices.proofs.Laws.{splice_append}
use Rattle.registers.specs.declared.Operation.TheVariants.{Idle}
use Rattle.blocks.specs.Block.{head_of, head_bytes, flagged, data_bytes}
use Rattle.block_parts.proofs.put_idle.Goals as goal

pub returns : goal.returns
unfolding head_bytes head_of data_bytes
returns c =
    let b = c.args.block.now in
    let m = c.args.f in
    let f = flagged m.used m.protect m.wp m.deep in
    c.put-2.ensures
    ∙ ap (λ (t : List ℕ). splice 172 (data_bytes Idle) t) (c.put.ensures ∙ ap (λ (l : List ℕ). splice 160 l b) (c.head_bytes.ensures ∙ ap (head_bytes f) c.headed.ensures))
    ∙ sym (splice_append 160 (head_bytes f (head_of Idle)) (data_bytes Idle) b)
