-- `storing::encode` meets its contract: buffers and compare bit are stored behind the registers, and together they are as long as the block. Assumes nothing.
use Rattle.control.specs.Starts.{Lengths}
use Rattle.blocks.specs.Block.{encode_registers, encode_chip}
use mathlib.Core.List.{[], ◌∷◌, ◌++◌}
use Rattle.blocks.proofs.RoundTrip.{from_flag}
use Rattle.blocks.proofs.Lengths.{length-encode_registers}
use Rattle.blocks.proofs.Stored.{stored_more, splice_one, four}
use Rattle.slices.proofs.Laws.{over-whole}
use Rattle.geometry.specs.Parts.{page_room}
use lib.ListN.{length}
use Prim.Native.Nat.{ℕ}
use mathlib.Core.Path.{◌≡◌, refl, sym, ap, ◌∙◌}
use borrow.Author.Rules.{rules}
use Rattle.storing.proofs.encode.Goals as goal

pub returns : goal.returns
unfolding encode_chip
returns c =
    let k = c.args.c in
    let x = c.from.result in
    let l1 : length k.buffer1 ≡ page_room = search rules in
    let l2 : length k.buffer2 ≡ page_room = search rules in
    let a : Lengths k.registers = record { protection = search rules; lockdown = search rules; user = search rules; factory = search rules } in
    let z =
    stored_more (x ∷ []) 1 refl
    (stored_more k.buffer2 page_room l2
    (stored_more k.buffer1 page_room l1
    (record { long = length-encode_registers k.registers a; same = c.encode_registers.ensures })
    c.put.ensures)
    c.put-2.ensures)
    (splice_one 764 x c.put-2.new.block)
    in
    z.same ∙ over-whole _ _ (z.long ∙ sym c.told-block)
    ∙ four (encode_registers k.registers) k.buffer1 k.buffer2 (x ∷ [])
    ∙ ap (λ (y : ℕ). encode_registers k.registers ++ (k.buffer1 ++ (k.buffer2 ++ (y ∷ [])))) (c.from.ensures ∙ from_flag k.compare)
