-- `inplace::send_in` meets its contract: the reply is made of the parts that are lent, the change stored, and the buffer written, all by what control ruled on the frame.
-- Assumes nothing.
use mathlib.Core.Path.{refl, sym, ap, ◌∙◌}
use native.Mathlib.Omega.{arith}
use Prim.Native.Nat.{◌*◌}
use lib.ListN.{length, take, drop}
use Rattle.slices.proofs.Laws.{run_length}
use Rattle.geometry.specs.Parts.{page_room}
use Rattle.memory.specs.Replies.{replied}
use Rattle.state.specs.Memory.{Memory, memory_of, chip_of}
use Rattle.state.specs.Frames.{data_of}
use Rattle.state.specs.Outcomes.{sent_state}
use Rattle.state.proofs.Arms.{decided_names, decided-lead, decided-reply, decided-registers, decided-memory}
use Rattle.blocks.specs.Block.{decode_registers, decode_chip, encode_chip}
use Rattle.blocks.proofs.Lends.{security_lent, buffers_lent}
use Rattle.inplace.proofs.Held.{lent_both, back}
use Rattle.inplace.proofs.send_in.Goals as goal

pub respond-requires : goal.respond-requires
respond-requires c =
    let a = c.args in
    let b = a.block.now in
    let r = decode_registers b in
    let e = c.control_frame-d.ensures r (sym c.marks_at-m.ensures) in (
      c.requires.0,
      decided_names a.g r a.frame.now _ e _ c.requires.0,
      decided-lead a.g r a.frame.now _ e _ c.requires.2,
      run_length 236 (2 * page_room) b (omega arith),
    )

pub slice_bounds-act-count-2 : goal.slice_bounds-act-count-2
slice_bounds-act-count-2 c =
    let a = c.args in
    let b = a.block.now in
    let r = decode_registers b in
    decided-lead a.g r a.frame.now _ (c.control_frame-d.ensures r (sym c.marks_at-m.ensures)) _ refl

pub slice_bounds-act-start-2 : goal.slice_bounds-act-start-2
slice_bounds-act-start-2 c =
    let a = c.args in
    let b = a.block.now in
    let r = decode_registers b in
    decided-lead a.g r a.frame.now _ (c.control_frame-d.ensures r (sym c.marks_at-m.ensures)) _ refl

pub act-requires : goal.act-requires
act-requires c =
    let a = c.args in
    let b = a.block.now in
    let r = decode_registers b in
    let e = c.control_frame-d.ensures r (sym c.marks_at-m.ensures) in
    (c.requires.0.most, decided_names a.g r a.frame.now _ e _ c.requires.0, run_length 236 (2 * page_room) c.settle.new.block (omega (arith, c.settle.array_long)))

pub returns : goal.returns
unfolding sent_state decode_chip
returns c =
    let a = c.args in
    let b = a.block.now in
    let r = decode_registers b in
    let f = a.frame.now in
    let xs = a.array.now in
    let l = c.told-block in
    let d = c.control_frame-d.result in
    let m = sym c.marks_at-m.ensures in
    let e = c.control_frame-d.ensures r m in
    let k = d.change in
    let y = c.settle.new.block in
    let h = c.settle.ensures in
    let n = run_length 236 (2 * page_room) y (omega (arith, c.settle.array_long)) in
    let j = buffers_lent b xs l in (
      back b k l y h c.act.new.buffers (c.act.auto.buffers ∙ n)
          ∙ (λ i. encode_chip (chip_of (decided-registers a.g r f d e i) (decided-memory a.g r f d e (memory_of (decode_chip b) xs) xs (take (2 * page_room) (drop 236 y)) _ (decode_chip b).compare n (lent_both b k l y h xs) c.act.ensures i))),
      decided-reply a.g r f d e (memory_of (decode_chip b) xs) _ _ c.requires.2
          (c.respond.ensures r m (security_lent b l) ∙ ap (λ (x : Memory). replied (length a.reply.now) d.lead (data_of a.g r x d.action)) j),
    )
