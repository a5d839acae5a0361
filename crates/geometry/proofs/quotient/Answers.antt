-- `geometry::quotient` meets its contract: the divisor in the code is d.
-- Assumes nothing.
use mathlib.Core.Path.{refl}
use Rattle.geometry.proofs.quotient.Goals as goal

pub returns-in-512 : goal.returns-in-512
returns-in-512 c = rw c.in-512.is refl

pub returns-in-256 : goal.returns-in-256
returns-in-256 c = rw c.in-256.is refl

pub returns-in_default : goal.returns-in_default
returns-in_default c = refl
