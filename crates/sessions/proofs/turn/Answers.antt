-- `sessions::turn` meets its contract. Assumes nothing.
use Rattle.slots.specs.Driver.{frame_room}
use Rattle.runs.proofs.Turns.{written_taken, written-frame, reply-first, reply_reaches, array_long, turned}
use Rattle.slots.specs.Plans.{is_wait}
use mathlib.Core.Bool.{true, cond}
use Rattle.blocks.specs.Promises.{held_in}
use Rattle.turns.proofs.Turns.{sound-pages, sound-slot}
use Rattle.slots.specs.declared.Step.{Step}
use lib.ListN.{length, take, drop}
use lib.Seq.{length-take-le}
use Prim.Native.Nat.{ℕ}
use mathlib.Core.List.{◌++◌}
use Rattle.state.specs.Outcomes.{framed}
use mathlib.Core.Path.{◌≡◌, sym, ap, subst⁻¹, ◌∙◌}
use native.Mathlib.Omega.{arith}
use borrow.Author.Rules.{rules}
use Rattle.sessions.proofs.turn.Goals as goal

pub step_at-x-requires : goal.step_at-x-requires
step_at-x-requires c = sound-slot c.requires.sound

pub write_step-n-requires : goal.write_step-n-requires
write_step-n-requires c = (sound-pages c.requires.sound, c.step_at-x.ensures.1, search rules, search rules)

pub shared_ref_as_front-exchange : goal.shared_ref_as_front-exchange
shared_ref_as_front-exchange c =
    let a = c.args in
    -- the frame's buffer is as long as it was lent
    let long : length a.frame.now ≡ frame_room = search rules in
    let k = written_taken a.g (held_in a.block.now a.array.now) a.s a.log.now c.requires a.payload.now a.staged.now a.frame.now long
    (c.step_at-x.ensures.0 a.g) c.write_step-n.ensures in
    omega (arith, k.0, k.1)

pub slice_bounds-exchange-end : goal.slice_bounds-exchange-end
slice_bounds-exchange-end c =
    let a = c.args in
    -- the frame's buffer is as long as it was lent
    let long : length a.frame.now ≡ frame_room = search rules in
    let k = written_taken a.g (held_in a.block.now a.array.now) a.s a.log.now c.requires a.payload.now a.staged.now a.frame.now long
    (c.step_at-x.ensures.0 a.g) c.write_step-n.ensures in
    sym (length-take-le c.write_step-n.result c.write_step-n.new.frame k.0)

pub slice_bounds-exchange-end-3 : goal.slice_bounds-exchange-end-3
slice_bounds-exchange-end-3 c =
    let a = c.args in
    -- the frame's buffer is as long as it was lent
    let long : length a.frame.now ≡ frame_room = search rules in
    let room : length a.reply.now ≡ frame_room = search rules in
    let k = written_taken a.g (held_in a.block.now a.array.now) a.s a.log.now c.requires a.payload.now a.staged.now a.frame.now long
    (c.step_at-x.ensures.0 a.g) c.write_step-n.ensures in
    sym (length-take-le c.write_step-n.result a.reply.now (omega (arith, k.1, room)))

pub exchange-requires : goal.exchange-requires
exchange-requires c =
    let a = c.args in
    let n = c.write_step-n.result in
    let frame = c.write_step-n.new.frame in
    -- the frame's buffer is as long as it was lent
    let long : length a.frame.now ≡ frame_room = search rules in
    let room : length a.reply.now ≡ frame_room = search rules in
    let k = written_taken a.g (held_in a.block.now a.array.now) a.s a.log.now c.requires a.payload.now a.staged.now a.frame.now long
    (c.step_at-x.ensures.0 a.g) c.write_step-n.ensures in
    let f : length (take n frame) ≡ n = length-take-le n frame k.0 in
    let r : length (take n a.reply.now) ≡ n = length-take-le n a.reply.now (omega (arith, k.1, room)) in
    (c.requires.part, subst⁻¹ (λ (m : ℕ). framed m (length (take n a.reply.now)) ≡ true) f (subst⁻¹ (λ (m : ℕ). framed n m ≡ true) r k.2), c.requires.room)

pub take_first-e-requires : goal.take_first-e-requires
take_first-e-requires c =
    let a = c.args in
    -- the frame's buffer is as long as it was lent
    let long : length a.frame.now ≡ frame_room = search rules in
    let k = written_taken a.g (held_in a.block.now a.array.now) a.s a.log.now c.requires a.payload.now a.staged.now a.frame.now long
    (c.step_at-x.ensures.0 a.g) c.write_step-n.ensures in (
      c.requires.sound,
      c.step_at-x.ensures.0 a.g,
      search rules,
      reply_reaches c.write_step-n.result c.write_step-n.new.frame (c.exchange.new.reply ++ drop c.write_step-n.result a.reply.now)
          (reply-first c.exchange.ensures.0 c.write_step-n.result (drop c.write_step-n.result a.reply.now) (sym (length-take-le c.write_step-n.result c.write_step-n.new.frame k.0))) k.0,
    )

pub overflow_add-result : goal.overflow_add-result
overflow_add-result c = omega (arith, c.requires.frames)

pub overflow_add-result-2 : goal.overflow_add-result-2
overflow_add-result-2 c = omega (arith, c.requires.polls, c.poll_count.ensures.1)

pub shape_of-array : goal.shape_of-array
shape_of-array c = array_long c.exchange.ensures.0

pub returns : goal.returns
returns c =
    let a = c.args in
    -- the frame's buffer is as long as it was lent
    let long : length a.frame.now ≡ frame_room = search rules in
    let e = c.step_at-x.ensures.0 a.g in
    let f = written-frame a.g (held_in a.block.now a.array.now) a.s a.log.now c.requires a.payload.now a.staged.now a.frame.now long e
    c.write_step-n.ensures in
    let k = written_taken a.g (held_in a.block.now a.array.now) a.s a.log.now c.requires a.payload.now a.staged.now a.frame.now long e c.write_step-n.ensures in
    let x = reply-first c.exchange.ensures.0 c.write_step-n.result (drop c.write_step-n.result a.reply.now) (sym (length-take-le c.write_step-n.result c.write_step-n.new.frame k.0)) in (
      turned a.g (held_in a.block.now a.array.now) a.s a.payload.now a.staged.now a.script.now a.log.now c.requires c.byte_or-b.result _ _ _ _ _ _ _ _
          c.byte_or-b.ensures f x c.take_first-e.ensures.0 c.take_first-e.ensures.1 c.heed.ensures
          (c.poll_count.ensures.0 ∙ ap (λ (x : Step). cond (is_wait x) 1 0) e),
      c.exchange.ensures.1,
    )
