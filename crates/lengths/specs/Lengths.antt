-- The lengths that a step lends (docs/OUTLINE.md): as the line gives them or as the call needs them, and at most the room that there is.
-- Assumes nothing.
use Rattle.geometry.specs.declared.Geometry.{Geometry}
use Rattle.std.specs.Prelude.{ℕ, ◌+◌, ◌*◌, min, ◌≡◌, None, Option, Some}
use Rattle.geometry.specs.Parts.{part_of}
use Rattle.slots.specs.declared.Kind.TheVariants as Kind
use Rattle.slots.specs.Plans.{stated}
use Rattle.slots.specs.Records.{limit_of}
use Rattle.words.specs.declared.Command.{Command}
use Rattle.words.specs.declared.Command.TheVariants as Command
use Rattle.orders.specs.declared.Order.{Order}
use Rattle.lengths.specs.declared.room.Lengths.{Lengths}

-- ---- the room that there is

-- for the chip's array: the largest part's
abbrev pub array_room : ℕ
array_room = 1081344

-- for a log: six bytes for each of the most frames that a call sends
abbrev pub log_room : ℕ
log_room = 102204

-- for a get buffer or a reply
abbrev pub out_room : ℕ
out_room = 65536

-- for junk
abbrev pub junk_room : ℕ
junk_room = 1114112

-- a length as needed, or as given; at most the room that there is
abbrev pub lent_by : Option ℕ → ℕ → ℕ → ℕ
lent_by None needed room = min needed room
lent_by (Some n) needed room = min n room

-- ---- what is needed

-- the most frames that a call sends, with b polls a wait; events are no calls
unfoldable pub frames_for : Command → ℕ → ℕ
frames_for Command.Put b = stated Kind.Put b
frames_for Command.Patch b = stated Kind.Patch b
frames_for Command.Get b = stated Kind.Get b
frames_for Command.Wipe b = stated Kind.Wipe b
frames_for Command.Raw b = 1
frames_for Command.Send b = 0
frames_for Command.End b = 0
frames_for Command.Pin b = 0
frames_for Command.Cut b = 0
frames_for Command.Part b = 0
frames_for Command.Sum b = 0

-- the log: six bytes for each frame; a poll limit over 1,000 counts as 1,000
unfoldable pub log_for : Command → ℕ → ℕ
log_for c b = 6 * frames_for c (min b 1000)

-- the junk that a cut takes: for both buffers and for the array, which has n bytes
unfoldable pub junk_for : Option Geometry → ℕ → ℕ
junk_for (Some g) n = 2 * g.size + n
junk_for None n = 0

-- the get buffer: the longest recipe of either version
unfoldable pub buffer_for : Option Geometry → ℕ
buffer_for (Some g) = limit_of g 1
buffer_for None = 0

-- ---- what a step lends

-- nothing but so many bytes for a reply
abbrev pub reply_alone : ℕ → Lengths
reply_alone n = record { junk = 0; log = 0; out = n }

-- nothing but so many bytes of junk
abbrev pub junk_alone : ℕ → Lengths
junk_alone n = record { junk = n; log = 0; out = 0 }

-- a call's junk and log, and so many bytes for a get buffer or reply
unfoldable pub call_lengths : Order → ℕ → ℕ → Lengths
call_lengths o size out =
    record {
      junk = lent_by o.junk (junk_for (part_of size) size) junk_room;
      log = lent_by o.log (log_for o.command o.limit) log_room;
      out = out;
    }

-- by the command
unfoldable pub lengths_by : Command → Order → (size count : ℕ) → Lengths
lengths_by Command.Put o size count = call_lengths o size 0
lengths_by Command.Patch o size count = call_lengths o size 0
lengths_by Command.Get o size count = call_lengths o size (lent_by o.buffer (buffer_for (part_of size)) out_room)
lengths_by Command.Wipe o size count = call_lengths o size 0
lengths_by Command.Raw o size count = call_lengths o size (lent_by o.reply count out_room)
lengths_by Command.Send o size count = reply_alone (min count out_room)
lengths_by Command.End o size count = reply_alone 0
lengths_by Command.Pin o size count = reply_alone 0
lengths_by Command.Cut o size count = junk_alone (junk_for (part_of size) size)
lengths_by Command.Part o size count = reply_alone 0
lengths_by Command.Sum o size count = reply_alone 0

-- the lengths that an order lends: the chip's array has `size` bytes, HEX `count`
abbrev pub lengths_of : Order → (size count : ℕ) → Lengths
lengths_of o size count = lengths_by o.command o size count

-- junk, log, and get buffer or reply of these lengths are lent as the order says
abbrev pub Lends : Order → (size count junk log out : ℕ) → Type 0
Lends o size count junk log out =
    (junk ≡ (lengths_of o size count).junk) × (log ≡ (lengths_of o size count).log) × (out ≡ (lengths_of o size count).out)
