-- What a line does, and what it prints (docs/OUTLINE.md).
-- Assumes nothing.
use Rattle.std.specs.Prelude.{Bool, true, false, cond, List, [], ℕ, length, Result, Ok, Err}
use Rattle.text.specs.Hexadecimal.{bytes_of}
use Rattle.words.specs.declared.Command.{Command}
use Rattle.words.specs.declared.Command.TheVariants.{Put, Patch, Get, Wipe, Raw, Send, End, Pin, Cut, Part, Sum}
use Rattle.orders.specs.declared.Order.{Order}
use Rattle.words.specs.Words.{is_call, part_of}
use Rattle.orders.specs.Lines.{read_of}
use Rattle.faults.specs.declared.Fault.{Fault}
use Rattle.faults.specs.Messages.{text_of}
use Rattle.lines.specs.Texts.{answer_text, fault_text}
use Rattle.printing.specs.Texts.{call_text, sum_line}
use Rattle.lengths.specs.declared.room.Lengths.{Lengths}
use Rattle.contents.specs.Junk.{junk_of}
use Rattle.lengths.specs.Lengths.{lengths_of}
use Rattle.acting.specs.Steps.{is_step, seed_of, blank, op_of, Seen, seen_by}
use Rattle.obeying.specs.Desk.{Desk, counted, renewed}

-- ---- a step: a call, or an event on the chip

-- what it leaves of the chip that block and array hold, with these lengths lent, and these bytes of HEX and of the script
unfoldable pub seen_with : Order → Lengths → (bytes script block array : List ℕ) → Seen
seen_with o l bytes script block array =
    seen_by (op_of o bytes script (junk_of (seed_of o) l.junk) (blank l.log) (blank l.out)) block array

-- the same with the lengths that it lends
unfoldable pub seen_on : Order → (bytes script block array : List ℕ) → Seen
seen_on o bytes script block array = seen_with o (lengths_of o (length array) (length bytes)) bytes script block array

-- the same of an order read in a line
unfoldable pub seen_in : Order → List ℕ → Desk → Seen
seen_in o line d = seen_on o (bytes_of (part_of line o.bytes)) (bytes_of (part_of line o.script)) d.block d.array

-- the desk after it
abbrev pub stepped : Seen → Desk → Desk
stepped z d =
    record {
      block = z.block;
      array = z.array;
      log = z.log;
      out = z.out;
      given = z.given;
      lines = d.lines;
    }

-- a call shows its frames and totals, an event its answer
unfoldable pub shown_by : Bool → List ℕ → (frames polls answer : ℕ) → List ℕ
shown_by true log frames polls answer = call_text log frames polls answer
shown_by false log frames polls answer = answer_text answer

-- what a step shows
abbrev pub shown_of : Command → Seen → List ℕ
shown_of c z = shown_by (is_call c) z.log z.frames z.polls z.answer

-- ---- an order

-- it is `sum`
abbrev pub is_sum : Command → Bool
is_sum Put = false
is_sum Patch = false
is_sum Get = false
is_sum Wipe = false
is_sum Raw = false
is_sum Send = false
is_sum End = false
is_sum Pin = false
is_sum Cut = false
is_sum Part = false
is_sum Sum = true

-- the line of `sum`: the checksums of the last step
unfoldable pub summed : Desk → List ℕ
summed d = sum_line d.block d.array d.log d.out d.given

-- the desk after an order of a line: `sum` changes nothing, `part` brings a fresh part
unfoldable pub obeyed : Order → List ℕ → Desk → Desk
obeyed o line d = cond (is_step o.command) (stepped (seen_in o line d) d) (cond (is_sum o.command) d (renewed o.number d))

-- what it prints: of `part` nothing
unfoldable pub shown : Order → List ℕ → Desk → List ℕ
shown o line d =
    cond (is_step o.command) (shown_of o.command (seen_in o line d))
    (cond (is_sum o.command) (summed d) [])

-- ---- a line

-- the desk after a line that says this
abbrev pub after_reading : Result Order Fault → List ℕ → Desk → Desk
after_reading (Ok o) line d = obeyed o line d
after_reading (Err f) line d = d

-- what it prints: the order's text, or what is wrong
abbrev pub reading_text : Result Order Fault → List ℕ → Desk → List ℕ
reading_text (Ok o) line d = shown o line d
reading_text (Err f) line d = fault_text d.lines (text_of f)

-- the desk after a line, which counts whatever it says
unfoldable pub after_line : List ℕ → Desk → Desk
after_line line d = after_reading (read_of line) line (counted d)

-- what a line prints
unfoldable pub line_text : List ℕ → Desk → List ℕ
line_text line d = reading_text (read_of line) line (counted d)
