-- `inputs::keep` meets its contract: a character stands behind those that are kept. Assumes nothing.
use native.Mathlib.Omega.{arith}
use Rattle.inputs.proofs.Laws.{kept_more, kept_full}
use Rattle.inputs.proofs.keep.Goals as goal

pub returns-then-filled-lt8193 : goal.returns-then-filled-lt8193
returns-then-filled-lt8193 c = λ xs k. kept_more xs c.args.byte c.args.line.now c.told-line (omega (arith, c.told-line, c.if-filled-lt8193.true)) k

pub returns : goal.returns
returns c = λ xs k. kept_full xs c.args.byte c.args.line.now c.told-line (omega (arith, c.told-line, c.if-filled-lt8193.false)) k
