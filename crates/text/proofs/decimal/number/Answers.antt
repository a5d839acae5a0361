-- `text::decimal::number` meets its contract: the three cases are the definition's, and `value` has the value's. Assumes nothing.
use Rattle.std.proofs.Common.{rules, ◌≡◌, sym, arith, ◌∙◌}
use Rattle.std.proofs.lemmas.Iterator.{YieldsList-from_slice}
use Rattle.std.proofs.lemmas.Iterator.Search.{all_from_yields_List}
use Rattle.text.specs.Lists.{every}
use Rattle.text.specs.Decimal.{is_digit}
use Rattle.text.proofs.Tests.{every_all}
use Rattle.text.proofs.Digits.{none_empty, none_other, some_digits}
use Rattle.text.proofs.decimal.number.Goals as goal

pub returns-then-is_empty : goal.returns-then-is_empty
returns-then-is_empty c = none_empty c.args.word.now (search rules)

pub returns-then-all : goal.returns-then-all
returns-then-all c =
    let xs = c.args.word.now in
    let e : c.all.result ≡ every is_digit xs =
    all_from_yields_List is_digit _ _ c.all.result c.all.ensures.ran (YieldsList-from_slice xs cc) (λ x b q k. search rules) ∙ every_all is_digit xs
    in
    c.value.ensures ∙ some_digits xs (λ n. grind arith) (sym e ∙ c.if-all.true)

pub returns : goal.returns
returns c =
    let xs = c.args.word.now in
    let e : c.all.result ≡ every is_digit xs =
    all_from_yields_List is_digit _ _ c.all.result c.all.ensures.ran (YieldsList-from_slice xs cc) (λ x b q k. search rules) ∙ every_all is_digit xs
    in
    none_other xs (sym e ∙ c.if-all.false)
