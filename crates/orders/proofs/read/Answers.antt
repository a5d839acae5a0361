-- `orders::read` meets its contract: each test is one of the definition's, in its order; the bounds follow from the definition (`read_sound`).
-- Assumes nothing.
use Rattle.std.specs.Prelude.{Err}
use Rattle.faults.specs.declared.Fault.TheVariants as Fault
use Rattle.orders.proofs.Whole.{too_long, blank, commanded}
use Rattle.orders.specs.Lines.{with_command}
use mathlib.Core.Path.{sym, ap, ◌∙◌}
use Rattle.orders.proofs.read.Goals as goal

pub returns-then-line-gt-LONGEST : goal.returns-then-line-gt-LONGEST
returns-then-line-gt-LONGEST c = too_long c.args.line.now c.if-line-gt-LONGEST.true

pub returns-then-w : goal.returns-then-w
returns-then-w c =
    let w = c.next_word-w in
    blank c.args.line.now w.result c.if-line-gt-LONGEST.false w.ensures.2 c.if-w.true

pub returns-in-Some : goal.returns-in-Some
returns-in-Some c =
    let a = c.args in
    let w = c.next_word-w in
    commanded a.line.now w.result c.command_of.result c.read_rest.result c.if-line-gt-LONGEST.false w.ensures.2 c.if-w.false c.command_of.ensures
    (c.read_rest.ensures ∙ ap (with_command a.line.now w.result.end) (sym c.in-Some.is))

pub returns-in-None : goal.returns-in-None
returns-in-None c =
    let a = c.args in
    let w = c.next_word-w in
    commanded a.line.now w.result c.command_of.result (Err Fault.UnknownCommand) c.if-line-gt-LONGEST.false w.ensures.2 c.if-w.false c.command_of.ensures
    (ap (with_command a.line.now w.result.end) (sym c.in-None.is))
