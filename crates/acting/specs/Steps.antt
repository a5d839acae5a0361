-- What a step does: the call or event that its order names, on the chip, the junk of its seed and the buffers that it lends.
-- Assumes nothing.
use Rattle.std.specs.Prelude.{ℕ, ◌≡◌, Bool, true, false, not, List, [], get_or, replicate, eqb}
use Rattle.slices.specs.Lists.{over}
use Rattle.state.specs.declared.Answer.{Answer}
use Rattle.state.specs.declared.Chip.{Chip}
use Rattle.state.specs.Answers.{number_of}
use Rattle.state.specs.Memory.{State, chip_in}
use Rattle.blocks.specs.Promises.{held_in, stored_by, pin_moved}
use Rattle.slots.specs.Lists.{Op, call, raw, straight, pin, busy_end, cut, put, patch, get, wipe, out_of, next_of, log_of}
use Rattle.runs.specs.Promises.{kept_in}
use Rattle.words.specs.declared.Command.{Command}
use Rattle.words.specs.declared.Command.TheVariants.{Put, Patch, Get, Wipe, Raw, Send, End, Pin, Cut, Part, Sum}
use Rattle.orders.specs.declared.Order.{Order}
use Rattle.acting.specs.declared.Totals.{Totals}

-- ---- the order

-- every command is a call or an event on the chip, but part and sum
abbrev pub is_step : Command → Bool
is_step Put = true
is_step Patch = true
is_step Get = true
is_step Wipe = true
is_step Raw = true
is_step Send = true
is_step End = true
is_step Pin = true
is_step Cut = true
is_step Part = false
is_step Sum = false

-- the seed of the junk, by the command
abbrev pub seed_by : Command → Order → ℕ
seed_by Put o = o.seed
seed_by Patch o = o.seed
seed_by Get o = o.seed
seed_by Wipe o = o.seed
seed_by Raw o = o.seed
seed_by Send o = o.seed
seed_by End o = o.seed
seed_by Pin o = o.seed
seed_by Cut o = o.number
seed_by Part o = o.seed
seed_by Sum o = o.seed

-- SEED of cut, else the option junk
abbrev pub seed_of : Order → ℕ
seed_of o = seed_by o.command o

-- a log, get buffer or reply before the step: A5h throughout
abbrev pub blank : ℕ → List ℕ
blank n = replicate n 0xA5

-- the call or event by the command, on the bytes of HEX, the script, the junk, the log, and the get buffer or reply; part and sum are none, and
-- what stands there is not looked at
abbrev pub op_by : Command → Order → (bytes script junk log out : List ℕ) → Op
op_by Put o bytes script junk log out = put o.number o.limit o.term script bytes junk log
op_by Patch o bytes script junk log out = patch o.number o.limit o.place script bytes junk log
op_by Get o bytes script junk log out = get o.number o.limit o.today script junk log out
op_by Wipe o bytes script junk log out = wipe o.number o.limit script junk log
op_by Raw o bytes script junk log out = raw bytes script junk log out
op_by Send o bytes script junk log out = straight bytes out
op_by End o bytes script junk log out = busy_end
op_by Pin o bytes script junk log out = pin (not (eqb o.number 0))
op_by Cut o bytes script junk log out = cut junk
op_by Part o bytes script junk log out = busy_end
op_by Sum o bytes script junk log out = busy_end

-- the call or event that the order names
abbrev pub op_of : Order → (bytes script junk log out : List ℕ) → Op
op_of o bytes script junk log out = op_by o.command o bytes script junk log out

-- ---- what it leaves

-- the answer's number; the record block, the array, the lent log, the lent get buffer or reply; frames, polls, and n of a get
pub record Seen : Type 0 where
  pub answer : ℕ
  pub block : List ℕ
  pub array : List ℕ
  pub log : List ℕ
  pub out : List ℕ
  pub frames : ℕ
  pub polls : ℕ
  pub given : ℕ

-- the block by the answer and the new chip: a call keeps it under 1 to 7 and 14 alone, an event under all but 0, and a pin moves one byte
unfoldable pub block_after : Op → List ℕ → Answer → Chip → List ℕ
block_after (call asked detail script payload junk log lent) block a c = kept_in block a c
block_after (raw frame script junk log reply) block a c = kept_in block a c
block_after (straight frame reply) block a c = stored_by block a c
block_after (pin high) block a c = pin_moved block high
block_after busy_end block a c = stored_by block a c
block_after (cut junk) block a c = stored_by block a c

-- the block after a call or event on this state
abbrev pub block_by : Op → List ℕ → State → List ℕ
block_by o block s = block_after o block (out_of o s).answer (chip_in (next_of o s))

-- what a call or event leaves of a chip in this state, which the block holds
unfoldable pub seen_on : Op → List ℕ → State → Seen
seen_on o block s =
    record {
      answer = number_of (out_of o s).answer;
      block = block_by o block s;
      array = (next_of o s).memory.array;
      log = over (out_of o s).lines (log_of o);
      out = (out_of o s).lent;
      frames = (out_of o s).frames;
      polls = (out_of o s).polls;
      given = (out_of o s).count;
    }

-- of the chip that block and array hold
abbrev pub seen_by : Op → (block array : List ℕ) → Seen
seen_by o block array = seen_on o block (held_in block array)

-- a step that hands back r, and leaves block, array, log, and get buffer or reply as held, xs, l and u, has left z
pub record Took (z : Seen) (r : Totals) (held xs l u : List ℕ) : Type 0 where
  pub answer : r.answer ≡ z.answer
  pub block : held ≡ z.block
  pub array : xs ≡ z.array
  pub log : l ≡ z.log
  pub out : u ≡ z.out
  pub frames : r.frames ≡ z.frames
  pub polls : r.polls ≡ z.polls
  pub given : r.given ≡ z.given

-- ---- on the way there

-- an answer and the three counts of a call, put together
abbrev pub told : ℕ → List ℕ → Totals
told answer counts = record { answer = answer; frames = get_or counts 0 0; polls = get_or counts 1 0; given = get_or counts 2 0 }

-- what the command does not lend is empty
abbrev pub Spares : Command → (log out : List ℕ) → Type 0
Spares Put log out = out ≡ []
Spares Patch log out = out ≡ []
Spares Get log out = Unit
Spares Wipe log out = out ≡ []
Spares Raw log out = Unit
Spares Send log out = log ≡ []
Spares End log out = (log ≡ []) × (out ≡ [])
Spares Pin log out = (log ≡ []) × (out ≡ [])
Spares Cut log out = (log ≡ []) × (out ≡ [])
Spares Part log out = ⊥
Spares Sum log out = ⊥
