-- `registers::place` meets its contract: the length is a part's, and the operation lies within that part.
-- Assumes nothing.
use mathlib.Core.Path.{sym, ◌∙◌}
use Rattle.geometry.proofs.Pages.{sized, sized_own}
use Rattle.registers.proofs.Places.{known_placed, known_beyond, unknown_placed, within-tested}
use Rattle.registers.proofs.place.Goals as goal

pub is_within-requires : goal.is_within-requires
is_within-requires c =
    let g = c.in-Some.g in
    let n = c.args.length in
    sized_own g n (sized n g (sym c.part_of-p.ensures ∙ c.in-Some.is))

pub returns-then-is_within : goal.returns-then-is_within
returns-then-is_within c =
    let s = c.args in
    let e = sym c.part_of-p.ensures ∙ c.in-Some.is in
    sym (known_placed s.length s.o _ e (within-tested _ s.o c.facts_of-f.ensures c.is_within.ensures c.if-is_within.true))

pub returns-else-is_within : goal.returns-else-is_within
returns-else-is_within c =
    let s = c.args in
    let e = sym c.part_of-p.ensures ∙ c.in-Some.is in
    sym (known_beyond s.length s.o _ e (within-tested _ s.o c.facts_of-f.ensures c.is_within.ensures c.if-is_within.false))

pub returns-in-None : goal.returns-in-None
returns-in-None c = let s = c.args in sym (unknown_placed s.length s.o (sym c.part_of-p.ensures ∙ c.in-None.is))
