-- Where the parts of an order lie: spans in the line, lengths within their rooms, numbers within their ranges.
-- Assumes nothing.
use Rattle.std.specs.Prelude.{ℕ, ◌≤◌, ◌<◌, Option, Some, None, Result, Ok, Err}
use Rattle.faults.specs.declared.Fault.{Fault}
use Rattle.orders.specs.declared.Order.{Order}
use Rattle.words.specs.Bounds.{Within}
use Rattle.operands.specs.Operands.{first_of}
use Rattle.operands.specs.Bounds.{Ranged}

-- a length lent is within its room
abbrev pub Roomed : ℕ → Option ℕ → Type 0
Roomed room None = Unit
Roomed room (Some n) = n ≤ room

-- an order read in a line of n characters
pub record Sound (n : ℕ) (o : Order) : Type 0 where
  pub short : n ≤ 8192
  pub bytes : Within n o.bytes
  pub script : Within n o.script
  pub number : Ranged (first_of o.command) o.number
  pub seed : o.seed < 256
  pub junk : Roomed 1114112 o.junk
  pub log : Roomed 102204 o.log
  pub buffer : Roomed 65536 o.buffer
  pub reply : Roomed 65536 o.reply

-- a line's order, if it says one
abbrev pub SoundReading : ℕ → Result Order Fault → Type 0
SoundReading n (Ok o) = Sound n o
SoundReading n (Err f) = Unit
