-- `geometry::page_at` meets its contract: the code is the definition, and a remainder is below its divisor.
-- Assumes nothing.
use mathlib.Core.Path.{ap, ◌∙◌}
use Prim.Native.Nat.{ℕ, ◌%◌}
use Rattle.geometry.specs.Parts.{page_at}
use Rattle.geometry.proofs.page_at.Goals as goal

pub returns : goal.returns
unfolding page_at
returns c = (c.remainder.ensures.0 ∙ ap (λ (n : ℕ). n % c.args.g.pages) c.quotient.ensures, c.remainder.ensures.1)
