-- `frame_text::put_decimal` meets its contract: the digits lie one behind the other, so together they are the number. Assumes nothing.
use mathlib.Core.Path.{ap, ◌∙◌}
use native.Mathlib.Omega.{arith}
use lib.ListN.{length}
use Rattle.slices.proofs.Laws.{length-splice}
use Rattle.frame_text.specs.Lines.{decimal_of}
use Rattle.frame_text.proofs.Texts.{decimal-length, decimal-laid}
use Rattle.frame_text.proofs.put_decimal.Goals as goal

pub shape_of-out : goal.shape_of-out
shape_of-out c =
    let a = c.args in
    let d₁ = c.put_digit-a in
    let d₂ = c.put_digit-b in
    let d₃ = c.put_digit-c in
    let d₄ = c.put_digit-d in
    ap length (decimal-laid a.n d₁.result d₂.result d₃.result d₄.result
    d₁.ensures.1 d₂.ensures.1 d₃.ensures.1 d₄.ensures.1
    a.out.now d₁.new.out d₂.new.out d₃.new.out d₄.new.out
    d₁.ensures.2 d₂.ensures.2 d₃.ensures.2 d₄.ensures.2)
    ∙ length-splice 0 (decimal_of a.n) a.out.now

pub returns : goal.returns
returns c =
    let a = c.args in
    let d₁ = c.put_digit-a in
    let d₂ = c.put_digit-b in
    let d₃ = c.put_digit-c in
    let d₄ = c.put_digit-d in (
      omega arith,
      decimal-length a.n d₁.result d₂.result d₃.result d₄.result
          d₁.ensures.1 d₂.ensures.1 d₃.ensures.1 d₄.ensures.1,
      decimal-laid a.n d₁.result d₂.result d₃.result d₄.result
          d₁.ensures.1 d₂.ensures.1 d₃.ensures.1 d₄.ensures.1
          a.out.now d₁.new.out d₂.new.out d₃.new.out d₄.new.out
          d₁.ensures.2 d₂.ensures.2 d₃.ensures.2 d₄.ensures.2,
    )
