-- `hexadecimal::hex` meets its contract: the four cases are the definition's; half a length, twice, is no more than the length. Assumes nothing.
use Rattle.std.proofs.Common.{rules, ◌≡◌, sym, arith, zero-le, ◌∙◌}
use Rattle.std.proofs.lemmas.Iterator.{YieldsList-from_slice}
use Rattle.std.proofs.lemmas.Iterator.Search.{all_from_yields_List}
use Rattle.text.specs.Lists.{every}
use Rattle.text.specs.Hexadecimal.{is_hex_digit}
use Rattle.text.proofs.Tests.{every_all}
use Rattle.hexadecimal.proofs.Pairs.{hex_dash, hex_other, hex_even, hex_odd}
use Rattle.hexadecimal.proofs.hex.Goals as goal

pub returns-then-is_same : goal.returns-then-is_same
returns-then-is_same c = (hex_dash c.args.word.now (sym c.is_same.ensures ∙ c.if-is_same.true), zero-le)

pub returns-then-not-all : goal.returns-then-not-all
returns-then-not-all c =
    let xs = c.args.word.now in
    let e : c.all.result ≡ every is_hex_digit xs =
    all_from_yields_List is_hex_digit _ _ c.all.result c.all.ensures.ran (YieldsList-from_slice xs cc) (λ x b q k. search rules) ∙ every_all is_hex_digit xs
    in
    (hex_other xs (sym c.is_same.ensures ∙ c.if-is_same.false) (sym e ∙ grind arith), zero-le)

pub returns-then-word-eq0 : goal.returns-then-word-eq0
returns-then-word-eq0 c =
    let xs = c.args.word.now in
    let e : c.all.result ≡ every is_hex_digit xs =
    all_from_yields_List is_hex_digit _ _ c.all.result c.all.ensures.ran (YieldsList-from_slice xs cc) (λ x b q k. search rules) ∙ every_all is_hex_digit xs
    in
    (hex_even xs (sym c.is_same.ensures ∙ c.if-is_same.false) (sym e ∙ grind arith) c.if-word-eq0.true, omega arith)

pub returns : goal.returns
returns c =
    let xs = c.args.word.now in
    let e : c.all.result ≡ every is_hex_digit xs =
    all_from_yields_List is_hex_digit _ _ c.all.result c.all.ensures.ran (YieldsList-from_slice xs cc) (λ x b q k. search rules) ∙ every_all is_hex_digit xs
    in
    (hex_odd xs (sym c.is_same.ensures ∙ c.if-is_same.false) (sym e ∙ grind arith) c.if-word-eq0.false, zero-le)
