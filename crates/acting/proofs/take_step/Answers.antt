-- `acting::take_step` meets its contract: the call goes on the junk and the buffers as they were made ready. Assumes nothing.
use Rattle.acting.proofs.Steps.{spares-ready, took_on_lem}
use Rattle.acting.specs.Steps.{seed_of, blank}
use Rattle.contents.specs.Junk.{junk_of}
use lib.ListN.{length}
use Prim.Native.Nat.{ℕ}
use mathlib.Core.Path.{refl, ap, ◌∙◌}
use Rattle.acting.proofs.take_step.Goals as goal

pub act-answer-requires : goal.act-answer-requires
act-answer-requires c = (spares-ready c.args.o (length c.args.array.now) (length c.args.bytes.now) c.args.log.now c.args.out.now c.requires.0 c.requires.1 c.make_ready.ensures.1 c.make_ready.ensures.2, refl)

pub returns : goal.returns
returns c =
    let a = c.args in
    took_on_lem a.o a.bytes.now a.script.now a.block.now a.array.now (junk_of (seed_of a.o) (length a.junk.now)) (blank (length a.log.now)) (blank (length a.out.now))
    (c.make_ready.ensures.0 ∙ ap (λ (k : ℕ). junk_of k (length a.junk.now)) c.seed.ensures) c.make_ready.ensures.1 c.make_ready.ensures.2 c.act-answer.ensures
