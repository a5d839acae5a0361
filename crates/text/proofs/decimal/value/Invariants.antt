-- `text::decimal::value` meets its contract: v is the value of the digits so far; a value that has reached 2^64 stays too large. Assumes nothing.
use mathlib.Core.Path.{◌≡◌}
use Prim.Native.Nat.{◌^◌, ◌<◌}
use lib.ListN.{drop}
use Rattle.text.specs.Decimal.{value_from}
use Rattle.text.proofs.decimal.value.Given as goal

abbrev pub invariant-loop-b : goal.invariant-loop-b
invariant-loop-b l = record { fits : l.v < 2 ^ 64; so_far : value_from l.v (drop l.b-index l.word) ≡ value_from 0 l.word }
