-- The fresh chip of the definitions, as a short part of either page size, and logs that are long enough for a poll limit of 1.
-- Assumes nothing.
use Rattle.std.specs.Prelude.{ℕ, List, map, replicate}
use Rattle.state.specs.Answers.{number_of}
use Rattle.state.specs.Memory.{State}
use Rattle.state.specs.Outcomes.{fresh_outcome}
use Rattle.slots.specs.Calls.{Out}
use Rattle.slots.specs.Lists.{Op, run_list}

-- what a fresh chip with factory bytes 0 leaves of an array of 33,792 bytes
unfoldable pub fresh_short : State
fresh_short = (fresh_outcome (replicate 64 0) (replicate 33792 0)).state

-- the same of 128 pages of 256 bytes
unfoldable pub fresh_short256 : State
fresh_short256 = (fresh_outcome (replicate 64 0) (replicate 32768 0)).state

-- a log long enough for any call with poll limit 1
unfoldable pub log : List ℕ
log = replicate 306 0

-- the answers' numbers of a list of calls and events
abbrev pub answers : List Op → State → List ℕ
answers os s = map (λ (o : Out). number_of o.answer) (run_list os s)
