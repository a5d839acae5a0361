-- `sessions::is_going` meets its contract. Assumes nothing.
use mathlib.Core.Bool.{not}
use mathlib.Core.Path.{ap}
use Rattle.sessions.proofs.is_going.Goals as goal

pub returns : goal.returns
returns c = ap not c.has_ended.ensures
