-- `completion::end_in` meets its contract: the memory, then the registers.
-- Assumes nothing.
use borrow.Author.Rules.{rules}
use mathlib.Core.List.{List}
use mathlib.Core.Path.{◌≡◌, refl, ap, ◌∙◌}
use Prim.Native.Nat.{ℕ, ◌*◌}
use lib.ListN.{length}
use Rattle.geometry.specs.Parts.{page_room}
use Rattle.state.specs.Lent.{memory_in}
use Rattle.state.specs.Memory.{Memory, chip_of}
use Rattle.state.specs.Completion.{completed_memory}
use Rattle.state.specs.Outcomes.{ended_state, ended_by}
use Rattle.state.proofs.Lent.{memory-joined}
use Rattle.completion.proofs.end_in.Goals as goal

pub complete_memory-bit-requires : goal.complete_memory-bit-requires
complete_memory-bit-requires c =
    let both : length c.buffers_of-buffers.result ≡ 2 * page_room = search rules in
    (c.requires.0, c.requires.1, both)

pub returns : goal.returns
unfolding ended_by ended_state
returns c =
    let a = c.args in
    let w1 : length a.c.buffer1 ≡ page_room = search rules in
    let w2 : length a.c.buffer2 ≡ page_room = search rules in
    let j = ap (λ (bs : List ℕ). memory_in a.array.now bs a.c.compare) c.buffers_of-buffers.ensures ∙ memory-joined a.c a.array.now w1 w2 in
    let m = c.complete_memory-bit.ensures ∙ ap (completed_memory a.g a.c.registers.operation) j in
    record { answer = refl; chip = c.chip_of.ensures ∙ (λ i. chip_of (c.complete-after.ensures i) (m i)); array = ap (λ (x : Memory). x.array) m; reply = refl }
