-- `lines::digit_at` meets its contract: a digit goes by the remainder of 16. Assumes nothing.
use Prim.Native.Nat.{◌/◌}
use Rattle.lines.proofs.Laws.{digit_low}
use mathlib.Core.Path.{◌∙◌}
use Rattle.lines.proofs.digit_at.Goals as goal

pub returns : goal.returns
returns c = c.digit.ensures ∙ digit_low (c.args.n / c.args.worth)
