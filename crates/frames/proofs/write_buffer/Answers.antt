-- `frames::write_buffer` meets its contract: the part that is lent on is the buffer.
-- Assumes nothing.
use mathlib.Core.List.{List}
use mathlib.Core.Path.{ap, ◌∙◌}
use Prim.Native.Nat.{ℕ, ◌+◌, ◌-◌}
use native.Mathlib.Omega.{arith}
use lib.ListN.{take, drop}
use Rattle.slices.specs.Lists.{splice, ring_write}
use Rattle.geometry.specs.Parts.{page_room}
use Rattle.slices.proofs.Laws.{run-part, kept_spliced}
use Rattle.frames.proofs.write_buffer.Goals as goal

pub returns : goal.returns
returns c =
    let x = c.args in
    let bs = x.buffers.now in
    let a = c.buffer_start-a.result in
    kept_spliced a (a + page_room - a) bs (omega arith) c.ring_write.auto.ring c.ring_write.ensures
    ∙ ap (λ (l : List ℕ). splice a (ring_write x.g.size x.start x.bytes.now l) bs) (run-part a page_room bs)
    ∙ ap (λ (n : ℕ). splice n (ring_write x.g.size x.start x.bytes.now (take page_room (drop n bs))) bs) c.buffer_start-a.ensures.0
