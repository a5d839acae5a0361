-- `options::take_option` meets its contract: each arm is one of the definition's over what `key_of` gives; the value lies behind the name, in the word.
-- Assumes nothing.
use Rattle.words.proofs.Spans.{value_within}
use Rattle.options.specs.Options.{key_taken, take_option}
use native.Mathlib.Omega.{arith}
use mathlib.Core.Path.{sym, ap, ◌∙◌}
use Rattle.options.proofs.take_option.Goals as goal

pub overflow_add-value : goal.overflow_add-value
overflow_add-value c =
    let a = c.args in
    omega (arith, value_within a.line.now a.w c.in-Some.key c.in-Some.from c.requires (sym c.in-Some.is ∙ c.key_of.ensures))

pub take_value-requires : goal.take_value-requires
take_value-requires c =
    let a = c.args in
    (value_within a.line.now a.w c.in-Some.key c.in-Some.from c.requires (sym c.in-Some.is ∙ c.key_of.ensures), c.requires.1)

pub returns-in_default : goal.returns-in_default
unfolding take_option
returns-in_default c =
    let a = c.args in
    ap (key_taken a.line.now a.s a.w) (sym c.in_default.is ∙ c.key_of.ensures)

pub returns : goal.returns
unfolding take_option
returns c =
    let a = c.args in
    c.take_value.ensures ∙ ap (key_taken a.line.now a.s a.w) (sym c.in-Some.is ∙ c.key_of.ensures)
