-- `frames::send_to` meets its contract: the reply is made, then the buffer written, then the change applied, all by what control ruled on the frame.
-- Assumes nothing.
use borrow.Author.Rules.{rules}
use mathlib.Core.List.{List}
use Prim.Native.Nat.{ℕ, ◌*◌}
use mathlib.Core.Path.{◌≡◌, refl, sym, ap, ◌∙◌}
use lib.ListN.{length}
use Rattle.geometry.specs.Parts.{page_room}
use Rattle.memory.specs.Replies.{replied}
use Rattle.state.specs.Lent.{memory_in}
use Rattle.state.specs.Memory.{Memory, memory_of, state_of, chip_of}
use Rattle.state.specs.Frames.{data_of}
use Rattle.state.specs.Outcomes.{sent_state}
use Rattle.state.specs.declared.Answer.TheVariants as Answers
use Rattle.state.proofs.Arms.{decided_names, decided-lead, decided-reply, decided-registers, decided-memory}
use Rattle.state.proofs.Lent.{memory-joined}
use Rattle.state.proofs.Accepted.{framed_in, leaves_as, leaves-refused, known_frame, known_sent}
use Rattle.state.proofs.Lengths.{sent-array}
use Rattle.frames.proofs.send_to.Goals as goal

pub returns-then-not-is_framed : goal.returns-then-not-is_framed
returns-then-not-is_framed c =
    let a = c.args in
    let t = sym c.is_framed.ensures ∙ c.if-not-is_framed.true in
    leaves-refused Answers.Frame a.c a.array.now a.reply.now (known_frame (state_of a.c a.array.now) a.frame.now a.reply.now a.g t)

pub respond-requires : goal.respond-requires
respond-requires c =
    let a = c.args in
    let r = a.c.registers in
    let l = framed_in _ _ (sym c.is_framed.ensures ∙ c.if-not-is_framed.false) in
    let e = c.control_frame-d.ensures r (sym c.marks_of-m.ensures) in
    let n : length c.buffers_of-buffers.result ≡ 2 * page_room = search rules in (
      c.requires,
      decided_names a.g r a.frame.now _ e _ c.requires,
      decided-lead a.g r a.frame.now _ e _ l.2,
      n,
    )

pub slice_bounds-act-count : goal.slice_bounds-act-count
slice_bounds-act-count c =
    let a = c.args in
    let r = a.c.registers in
    decided-lead a.g r a.frame.now _ (c.control_frame-d.ensures r (sym c.marks_of-m.ensures)) _ refl

pub slice_bounds-act-start : goal.slice_bounds-act-start
slice_bounds-act-start c =
    let a = c.args in
    let r = a.c.registers in
    decided-lead a.g r a.frame.now _ (c.control_frame-d.ensures r (sym c.marks_of-m.ensures)) _ refl

pub act-requires : goal.act-requires
act-requires c =
    let a = c.args in
    let r = a.c.registers in
    let n : length c.buffers_of-buffers.result ≡ 2 * page_room = search rules in
    (c.requires.most, decided_names a.g r a.frame.now _ (c.control_frame-d.ensures r (sym c.marks_of-m.ensures)) _ c.requires, n)

pub returns : goal.returns
unfolding sent_state
returns c =
    let a = c.args in
    let r = a.c.registers in
    let t = sym c.is_framed.ensures ∙ c.if-not-is_framed.false in
    let l = framed_in _ _ t in
    let m = sym c.marks_of-m.ensures in
    let e = c.control_frame-d.ensures r m in
    let w1 : length a.c.buffer1 ≡ page_room = search rules in
    let w2 : length a.c.buffer2 ≡ page_room = search rules in
    let n : length c.buffers_of-buffers.result ≡ 2 * page_room = search rules in
    let j = ap (λ (bs : List ℕ). memory_in a.array.now bs a.c.compare) c.buffers_of-buffers.ensures ∙ memory-joined a.c a.array.now w1 w2 in
    leaves_as (known_sent (state_of a.c a.array.now) a.frame.now a.reply.now a.g t)
    (record {
      answer = refl;
      chip =
          c.chip_of.ensures
          ∙ (λ i. chip_of ((c.apply-after.ensures ∙ decided-registers a.g r a.frame.now _ e) i) (decided-memory a.g r a.frame.now _ e (memory_of a.c a.array.now) a.array.now _ _ a.c.compare n j c.act.ensures i));
      array = sym (sent-array a.g r a.frame.now (memory_of a.c a.array.now));
      reply =
          decided-reply a.g r a.frame.now _ e (memory_of a.c a.array.now) _ _ l.2
          (c.respond.ensures r m c.security_of-security.ensures ∙ ap (λ (x : Memory). replied (length a.reply.now) c.control_frame-d.result.lead (data_of a.g r x c.control_frame-d.result.action)) j);
    })
