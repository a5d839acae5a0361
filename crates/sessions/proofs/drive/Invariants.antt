-- `sessions::drive` meets its contract. Assumes nothing.
use Rattle.runs.proofs.Loop.{Along}
use Rattle.runs.specs.Runs.{bound_by}
use Rattle.runs.specs.Exchange.{Canonical}
use Rattle.blocks.specs.Promises.{held_in}
use Rattle.slots.specs.Driver.{is_ended}
use Prim.Native.Nat.{◌-◌}
use mathlib.Core.Bool.{true}
use mathlib.Core.Path.{◌≡◌}
use Rattle.sessions.proofs.drive.Given as goal

abbrev pub invariant-loop-g : goal.invariant-loop-g
invariant-loop-g l = (Along l.g (held_in l.initial.block l.initial.array) l.initial.s l.payload l.initial.staged l.script l.initial.log (held_in l.block l.array) l.s l.staged l.log) × (is_ended l.s.driver.course.stage ≡ true → Canonical l.block)

abbrev pub decreases-loop-g : goal.decreases-loop-g
decreases-loop-g l = bound_by l.initial.s - l.s.frames
