-- `endings::lay_over` meets its contract. Assumes nothing.
use Rattle.endings.proofs.Delivery.{laid}
use lib.ListN.{length, length-take}
use native.Mathlib.Omega.{arith}
use Prim.Native.Nat.{ℕ, min}
use mathlib.Core.Path.{◌∙◌, ap}
use Rattle.endings.proofs.lay_over.Goals as goal

pub slice_bounds-copy-end-2 : goal.slice_bounds-copy-end-2
slice_bounds-copy-end-2 c = simp length-take (omega arith)

pub slice_bounds-copy-end-3 : goal.slice_bounds-copy-end-3
slice_bounds-copy-end-3 c = simp length-take (omega arith)

pub copy-requires : goal.copy-requires
copy-requires c = simp length-take (omega arith)

pub returns : goal.returns
returns c =
    let a = c.args in
    laid a.n c.min-k.result a.bytes.now a.buffer.now _
    (c.min-k.ensures ∙ ap (λ (m : ℕ). min m (length a.buffer.now)) c.min.ensures) c.copy.ensures
