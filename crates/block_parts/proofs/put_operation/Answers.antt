-- `block_parts::put_operation` meets its contract: no operation is `put_idle`'s, and the data of any other are stored right behind its head.
-- Assumes nothing.
use mathlib.Core.List.{List}
use mathlib.Core.Path.{sym, ap, ◌∙◌}
use Prim.Native.Nat.{ℕ}
use Rattle.slices.specs.Lists.{splice}
use Rattle.slices.proofs.Laws.{splice_append}
use Rattle.blocks.specs.Block.{head_of, head_bytes, flagged, data_bytes}
use Rattle.block_parts.proofs.put_operation.Goals as goal

pub returns : goal.returns
unfolding head_bytes
returns c =
    let b = c.args.block.now in
    let o = c.args.o in
    let m = c.args.f in
    let f = flagged m.used m.protect m.wp m.deep in
    let y = c.put.new.block in
    c.put-2.ensures
    ∙ ap (λ (l : List ℕ). splice 172 l y) c.data_bytes.ensures
    ∙ ap (λ (t : List ℕ). splice 172 (data_bytes o) t) (c.put.ensures ∙ ap (λ (l : List ℕ). splice 160 l b) (c.head_bytes.ensures ∙ ap (head_bytes f) c.head.ensures))
    ∙ sym (splice_append 160 (head_bytes f (head_of o)) (data_bytes o) b)
