-- `turns::take_data` meets its contract: a wait tells the verdict alone, a page read carries data, and nothing else does.
-- Assumes nothing.
use mathlib.Core.Path.{sym, ap, ◌∙◌}
use Rattle.slots.specs.declared.Step.{Step}
use Rattle.slots.specs.Driver.{Holding, taken_by}
use Rattle.worlds.specs.Turns.{holding_of}
use Rattle.turns.proofs.Turns.{sound-pages, taken_none, taken_wait}
use Rattle.turns.proofs.take_data.Goals as goal

pub read_page-requires : goal.read_page-requires
read_page-requires c = (sound-pages c.requires.0, c.requires.2)

pub returns-in-Wait : goal.returns-in-Wait
returns-in-Wait c =
    let a = c.args in
    let h = holding_of a.d a.payload.now a.staged.now in
    let took = taken_wait c.in-Wait.checked a.g a.d.kind h a.reply.now in
    let e = ap (λ (x : Step). taken_by x a.g a.d.kind h a.reply.now) (sym c.in-Wait.is ∙ c.requires.1) in
    (c.take_compare.ensures ∙ took.0 ∙ ap (λ (k : Holding). k.verdict) e, took.1 ∙ ap (λ (k : Holding). k.staged) e)

pub returns-in-Read : goal.returns-in-Read
unfolding taken_by
returns-in-Read c =
    let a = c.args in
    let took = c.read_page.ensures
    ∙ ap (λ (x : Step). taken_by x a.g a.d.kind (holding_of a.d a.payload.now a.staged.now) a.reply.now)
    (sym c.in-Read.is ∙ c.requires.1) in
    (ap (λ (h : Holding). h.verdict) took, ap (λ (h : Holding). h.staged) took)

pub returns-in_default : goal.returns-in_default
returns-in_default c =
    let a = c.args in
    let h = holding_of a.d a.payload.now a.staged.now in
    let took = taken_none a.x a.g a.d.kind h a.reply.now c.in_default.not-Wait c.in_default.not-Read
    ∙ ap (λ (x : Step). taken_by x a.g a.d.kind h a.reply.now) c.requires.1 in
    (ap (λ (k : Holding). k.verdict) took, ap (λ (k : Holding). k.staged) took)
