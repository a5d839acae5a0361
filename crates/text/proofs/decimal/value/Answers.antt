-- `text::decimal::value` meets its contract: v is the value of the digits so far; a value that has reached 2^64 stays too large. Assumes nothing.
use Rattle.std.proofs.Common.{rules, ◌≡◌, ℕ, ◌+◌, ◌*◌, ◌-◌, ◌≤◌, ◌<◌, ◌^◌, get_or, drop, Err, refl, sym, ap, ◌∙◌, arith}
use Rattle.text.specs.declared.values.NumberError.TheVariants.{TooLarge}
use Rattle.text.specs.Decimal.{value_from, below_limit}
use Rattle.text.proofs.Digits.{value_step, value_end, fits, too_large}
use Rattle.text.proofs.decimal.value.Goals as goal

pub returns-in_err-tenfold : goal.returns-in_err-tenfold
returns-in_err-tenfold c =
    let e : c.from_residual.result ≡ Err TooLarge = search rules in
    let k : 2 ^ 64 ≤ c.loop-b.v * 10 = grind arith in
    let l = c.loop-b in
    e ∙ too_large l.v _ c.args.word.now l.b-index _ (omega arith) refl (omega arith) l.invariant.so_far

pub returns-in_err-v : goal.returns-in_err-v
returns-in_err-v c =
    let e : c.from_residual-in_err-v.result ≡ Err TooLarge = search rules in
    let l = c.loop-b in
    let t : c.in_ok-tenfold.tenfold ≡ l.v * 10 = grind arith in
    let k : 2 ^ 64 ≤ c.in_ok-tenfold.tenfold + c.worth.result = grind arith in
    e ∙ too_large l.v _ c.args.word.now l.b-index _ (omega arith) refl (omega arith) l.invariant.so_far

pub loop-b-preserved : goal.loop-b-preserved
loop-b-preserved c =
    let l = c.loop-b in
    let t : c.in_ok-tenfold.tenfold ≡ l.v * 10 = grind arith in
    let s : c.in_ok-v.v ≡ c.in_ok-tenfold.tenfold + c.worth.result = grind arith in
    let f : c.in_ok-v.v < 2 ^ 64 = grind arith in
    let v : c.in_ok-v.v ≡ l.v * 10 + (get_or c.args.word.now l.b-index 0 - 48) = omega arith in record {
      fits = f;
      so_far =
          ap (λ (d : ℕ). value_from d (drop (l.b-index + 1) c.args.word.now)) v
          ∙ sym (value_step l.v c.args.word.now l.b-index (omega arith))
          ∙ l.invariant.so_far;
    }

pub returns : goal.returns
returns c =
    let l = c.loop-b in
    fits l.v l.invariant.fits
    ∙ ap below_limit (sym (value_end l.v c.args.word.now l.b-index (omega arith)) ∙ l.invariant.so_far)
