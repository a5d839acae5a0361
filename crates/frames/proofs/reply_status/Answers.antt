-- `frames::reply_status` meets its contract: the status byte is repeated.
-- Assumes nothing.
use mathlib.Core.Path.{ap, ◌∙◌, sym}
use lib.ListN.{length}
use Rattle.control.specs.declared.Marks.{Marks}
use Rattle.control.proofs.Bearing.{seals_of_lem}
use Rattle.memory.specs.Replies.{replied}
use Rattle.state.specs.Frames.{is_free, is_idle, status_of}
use Rattle.frames.proofs.reply_status.Goals as goal

pub returns : goal.returns
unfolding is_idle
returns c =
    let a = c.args in
    λ r e.
    let f = c.is_free.ensures ∙ ap (λ (x : Marks). is_free x.usage) (sym e) in
    let p = c.is_guarded.ensures r (seals_of_lem r a.m e) in
    c.reply_repeated.ensures
    ∙ (λ i. replied (length a.reply.now) a.lead (λ _. (c.status-value.ensures ∙ (λ j. status_of a.g (f j) a.compare (p j))) i))
