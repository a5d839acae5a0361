-- `endings::lose` meets its contract. Assumes nothing.
use mathlib.Core.Bool.{Bool, true, false, cond}
use mathlib.Core.Path.{◌≡◌, sym, ap, ◌∙◌}
use Rattle.state.specs.Memory.{State}
use Rattle.runs.specs.Runs.{last_of}
use Rattle.blocks.specs.Promises.{held_in}
use Rattle.state.specs.Outcomes.{cut_state}
use borrow.Author.Tests.{not-true, not-false}
use mathlib.Core.Bool.{Bool, cond}
use mathlib.Core.Path.{sym, ap, ◌∙◌}
use Rattle.endings.proofs.lose.Goals as goal

pub returns-then-not-s : goal.returns-then-not-s
unfolding last_of
returns-then-not-s c =
    let a = c.args in
    let s : State = held_in a.block.now a.array.now in
    let e : a.s.cut ≡ false = not-true a.s.cut c.if-not-s.true in
    (ap (λ (b : Bool). cond b (cut_state a.g a.junk.now s) s) (sym e), c.requires.1)

pub cut-requires : goal.cut-requires
cut-requires c = (c.requires.0, c.requires.2 (not-false c.args.s.cut c.if-not-s.false))

pub returns : goal.returns
unfolding last_of
returns c =
    let a = c.args in
    let s : State = held_in a.block.now a.array.now in
    let e : a.s.cut ≡ true = not-false a.s.cut c.if-not-s.false in
    (c.cut.ensures.0 ∙ ap (λ (b : Bool). cond b (cut_state a.g a.junk.now s) s) (sym e), c.cut.ensures.1)
