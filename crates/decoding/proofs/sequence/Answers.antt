-- `decoding::sequence` meets its contract: the rows are the specification's (`row_is`), and each turn is one row's test.
-- Assumes nothing.
use mathlib.Core.Path.{◌≡◌, refl, sym, ap, ◌∙◌}
use mathlib.Core.List.{List, [], ◌∷◌, map}
use Prim.Native.Nat.{ℕ, zero, suc, ◌<◌}
use native.Mathlib.Nat.{not-suc-le-zero, le_of_suc-le-suc}
use lib.ListN.{length, get_or, drop, drop_of_length-le}
use Rattle.std.proofs.Common.{add-one}
use Rattle.commands.specs.declared.Effect.TheVariants.{Unlisted}
use Rattle.commands.specs.Table.{Sequence, sequences, sequence_at}
use Rattle.commands.specs.Decode.{begins, sequence_in}
use Rattle.commands.proofs.Steps.{sequence_here, sequence_next}
use Rattle.decoding.specs.declared.Opening.{Opening}
use Rattle.decoding.proofs.sequence.Goals as goal

abbrev as_row : Opening → Sequence
as_row o = record { opening = o.bytes; lead = o.lead; effect = o.effect }

abbrev as_code : Sequence → Opening
as_code s = record { bytes = s.opening; lead = s.lead; effect = s.effect }

at : (ss : List Sequence) (o : Opening) (s : Sequence) (i : ℕ) → i < length ss → as_row (get_or (map as_code ss) i o) ≡ get_or ss i s
at [] o s i h = absurd (not-suc-le-zero h)
at (p ∷ ss) o s zero h = refl
at (p ∷ ss) o s (suc i) h = at ss o s i (le_of_suc-le-suc h)

-- row i of the code's table is row i of the specification's
row_is : (o : Opening) (i : ℕ) → i < length sequences → as_row (get_or (map as_code sequences) i o) ≡ sequence_at i
unfolding sequence_at
row_is o i h = at sequences o (record { opening = []; lead = 0; effect = Unlisted }) i h

pub returns-then-begins_with : goal.returns-then-begins_with
unfolding sequences
returns-then-begins_with c =
    let x = c.args.frame.now in
    let i = c.loop-row.row-index in
    let r = row_is _ i c.loop-row-test.true in
    ap (λ (s : Sequence). record { lead = s.lead; effect = s.effect }) r
    ∙ sequence_here i x c.begins_with.result c.loop-row-test.true
    (c.begins_with.ensures ∙ ap (λ (s : Sequence). begins x s.opening) r) c.if-begins_with.true
    ∙ sym c.loop-row.invariant

pub loop-row-preserved : goal.loop-row-preserved
unfolding sequences
loop-row-preserved c =
    let x = c.args.frame.now in
    let i = c.loop-row.row-index in
    let r = row_is _ i c.loop-row-test.true in
    c.loop-row.invariant
    ∙ sequence_next i x c.begins_with.result c.loop-row-test.true
    (c.begins_with.ensures ∙ ap (λ (s : Sequence). begins x s.opening) r) c.if-begins_with.false
    ∙ ap (λ (k : ℕ). sequence_in (drop k sequences) x) (sym (add-one i))

pub returns : goal.returns
unfolding sequences sequence_in
returns c =
    sym (c.loop-row.invariant
    ∙ ap (λ (ss : List Sequence). sequence_in ss c.args.frame.now) (drop_of_length-le sequences c.loop-row-test.false))
