-- `frames::lay` meets its contract: as many of the first bytes as are laid are lent on and become these.
-- Assumes nothing.
use mathlib.Core.Path.{refl}
use native.Mathlib.Omega.{arith}
use lib.ListN.{length}
use Rattle.state.proofs.Arms.{begun}
use Rattle.frames.proofs.lay.Goals as goal

pub returns : goal.returns
returns c =
    let a = c.args in
    begun (length a.bytes.now) a.buffers.now _ a.bytes.now (omega arith) refl c.copy.ensures
