-- `results::count_on` meets its contract: bytes that are no record count 0; the length in a record is at most 2,109.
-- Assumes nothing.
use native.Mathlib.Omega.{arith}
use mathlib.Core.Path.{refl, sym, ◌∙◌}
use Rattle.slots.proofs.Driven.{other}
use Rattle.records.proofs.Parts.{part_pages}
use Rattle.worlds.specs.Step.{told_in, count_told, count_by}
use Rattle.results.proofs.Counts.{record_count}
use Rattle.results.proofs.count_on.Goals as goal

pub is_record-requires : goal.is_record-requires
is_record-requires c = part_pages _ _ c.requires

pub returns-then-not-is_record : goal.returns-then-not-is_record
unfolding count_by
returns-then-not-is_record c =
    let a = c.args in
    let r = c.is_record in
    (sym (other _ (count_told (told_in a.d) a.d.kind a.staged.now) 0 (sym r.ensures ∙ c.if-not-is_record.true)), omega arith)

pub returns-in-None : goal.returns-in-None
unfolding count_told
returns-in-None c =
    let r = c.is_record in
    record_count c.args.g c.args.d c.args.staged.now c.requires (sym r.ensures ∙ c.if-not-is_record.false)
    (sym c.in-None.is ∙ c.answer.ensures) refl

pub returns-in-Some : goal.returns-in-Some
unfolding count_told
returns-in-Some c =
    let r = c.is_record in
    record_count c.args.g c.args.d c.args.staged.now c.requires (sym r.ensures ∙ c.if-not-is_record.false)
    (sym c.in-Some.is ∙ c.answer.ensures) c.count_of.ensures.0
