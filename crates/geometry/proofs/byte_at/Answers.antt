-- `geometry::byte_at` meets its contract: the code is the definition, and a remainder is below its divisor.
-- Assumes nothing.
use mathlib.Core.Path.{ap, ◌∙◌}
use Prim.Native.Nat.{ℕ, ◌%◌}
use Rattle.geometry.specs.Parts.{byte_at}
use Rattle.geometry.proofs.byte_at.Goals as goal

pub returns : goal.returns
unfolding byte_at
returns c = (c.remainder-2.ensures.0 ∙ ap (λ (n : ℕ). n % c.args.g.size) c.remainder.ensures.0, c.remainder-2.ensures.1)
