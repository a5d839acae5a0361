-- `state::chip_of` meets its contract: each buffer is its half.
-- Assumes nothing.
use Prim.Native.Nat.{◌*◌}
use mathlib.Core.Path.{◌≡◌, sym}
use native.Mathlib.Omega.{arith}
use lib.ListN.{length}
use lib.Seq.{length-take-le}
use borrow.Author.Rules.{rules}
use Rattle.state.specs.Memory.{buffer_size}
use Rattle.state.proofs.chip_of.Goals as goal

pub slice_bounds-copy-end-2 : goal.slice_bounds-copy-end-2
slice_bounds-copy-end-2 c =
    let b = c.args.buffers in
    let l : length b ≡ 2 * buffer_size = search rules in
    sym (length-take-le buffer_size b (omega arith))

pub copy-requires : goal.copy-requires
copy-requires c =
    let b = c.args.buffers in
    let l : length b ≡ 2 * buffer_size = search rules in
    sym (length-take-le buffer_size b (omega arith))
