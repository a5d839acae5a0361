-- `geometry::row` meets its contract: the code is the definition. Assumes nothing.
use mathlib.Core.Path.{refl}
use Rattle.geometry.proofs.row.Goals as goal

pub returns : goal.returns
returns c = refl
