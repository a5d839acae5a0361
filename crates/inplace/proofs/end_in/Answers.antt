-- `inplace::end_in` meets its contract: the chip is made idle, then the buffers are lent to the operation that was under way.
-- Assumes nothing.
use mathlib.Core.List.{◌++◌}
use mathlib.Core.Path.{sym, ap, ◌∙◌}
use Prim.Native.Nat.{ℕ, ◌*◌}
use native.Mathlib.Omega.{arith}
use lib.ListN.{take, drop, set}
use Rattle.slices.proofs.Laws.{run_length}
use Rattle.geometry.specs.Parts.{page_room}
use Rattle.registers.specs.declared.Operation.{Operation}
use Rattle.registers.specs.declared.Operation.TheVariants.{Idle}
use Rattle.registers.specs.Facts.{update_of}
use Rattle.control.specs.declared.Change.TheVariants.{Start}
use Rattle.control.specs.Rulings.{changed}
use Rattle.control.proofs.Ends.{completed_keep}
use Rattle.state.specs.Memory.{Memory, memory_of, chip_of}
use Rattle.state.specs.Completion.{completed_memory}
use Rattle.state.specs.Outcomes.{ended_state}
use Rattle.blocks.specs.Block.{decode_registers, decode_chip, encode_chip}
use Rattle.blocks.proofs.RoundTrip.{from_flag}
use Rattle.inplace.proofs.Held.{plain_keeps, lent_both, back_bit}
use Rattle.inplace.proofs.end_in.Goals as goal

pub complete_memory-bit-requires : goal.complete_memory-bit-requires
complete_memory-bit-requires c = (c.requires.0, c.requires.2, run_length 236 (2 * page_room) c.rest.new.block (omega (arith, c.rest.array_long)))

pub returns : goal.returns
unfolding ended_state changed decode_registers decode_chip
returns c =
    let a = c.args in
    let b = a.block.now in
    let r = decode_registers b in
    let xs = a.array.now in
    let l = c.told-block in
    let k = Start Idle in
    let y = c.rest.new.block in
    let h = c.rest.ensures in
    let zs = c.complete_memory-bit.new.buffers in
    let n = run_length 236 (2 * page_room) y (omega (arith, c.rest.array_long)) in
    let m =
    c.complete_memory-bit.ensures
    ∙ ap (λ (x : Memory). completed_memory a.g a.o x) (lent_both b k l y h xs)
    ∙ ap (λ (o : Operation). completed_memory a.g o (memory_of (decode_chip b) xs)) c.requires.1
    in
    let q = sym (completed_keep a.g r (ap update_of (sym c.requires.1) ∙ plain_keeps (update_of a.o) c.requires.3)) in (
      ap (λ (v : ℕ). set (take 236 y ++ (zs ++ drop (2 * page_room) (drop 236 y))) 764 v) (c.from.ensures ∙ from_flag c.complete_memory-bit.result) ∙ back_bit b k l y h zs c.complete_memory-bit.result (c.complete_memory-bit.auto.buffers ∙ n) ∙ (λ i. encode_chip (chip_of (q i) (m i))),
      ap (λ (x : Memory). x.array) m,
    )
