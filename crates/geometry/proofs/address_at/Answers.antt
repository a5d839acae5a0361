-- `geometry::address_at` meets its contract: the three bytes are those of the frame, and each is below 256, so nothing wraps.
-- Assumes nothing.
use Rattle.geometry.specs.Parts.{address_at}
use native.Mathlib.Omega.{arith}
use Rattle.geometry.proofs.address_at.Goals as goal

pub returns : goal.returns
unfolding address_at
returns c = (omega arith, omega arith)
