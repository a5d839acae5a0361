-- The texts of the faults.
-- Assumes nothing.
use Rattle.std.specs.Prelude.{ℕ, ◌+◌, ◌≡◌, List, ◌++◌, length}
use Rattle.slices.specs.Lists.{splice}
use Rattle.words.specs.Letters.{bytes}
use Rattle.words.specs.declared.Key.{Key}
use Rattle.faults.specs.declared.Name.{Name}
use Rattle.faults.specs.declared.Fault.{Fault}

-- the name of an option
unfoldable pub key_text : Key → List ℕ
key_text Key.Limit = bytes "b"
key_text Key.Script = bytes "script"
key_text Key.Seed = bytes "junk"
key_text Key.Junk = bytes "junklen"
key_text Key.Log = bytes "log"
key_text Key.Buffer = bytes "buffer"
key_text Key.Reply = bytes "reply"
key_text Key.First = bytes "first"
key_text Key.Last = bytes "last"
key_text Key.Today = bytes "today"

-- what is written for an operand or an option
unfoldable pub name_text : Name → List ℕ
name_text Name.Slot = bytes "S"
name_text Name.Place = bytes "PLACE"
name_text Name.Hex = bytes "HEX"
name_text Name.Seed = bytes "SEED"
name_text Name.Level = bytes "level"
name_text Name.Part = bytes "part"
name_text (Name.Option k) = key_text k

-- ` is over 65536`; of junklen ` is over 1114112`, of log ` is over 102204`
unfoldable pub over_text : Key → List ℕ
over_text Key.Limit = bytes " is over 65536"
over_text Key.Script = bytes " is over 65536"
over_text Key.Seed = bytes " is over 65536"
over_text Key.Junk = bytes " is over 1114112"
over_text Key.Log = bytes " is over 102204"
over_text Key.Buffer = bytes " is over 65536"
over_text Key.Reply = bytes " is over 65536"
over_text Key.First = bytes " is over 65536"
over_text Key.Last = bytes " is over 65536"
over_text Key.Today = bytes " is over 65536"

-- the text behind `line N: `
unfoldable pub text_of : Fault → List ℕ
text_of Fault.TooLong = bytes "longer than 8192 characters"
text_of Fault.NoCommand = bytes "no command"
text_of Fault.UnknownCommand = bytes "unknown command"
text_of (Fault.Missing n) = name_text n ++ bytes " is missing"
text_of (Fault.NotNumber n) = name_text n ++ bytes " is not a number"
text_of (Fault.NotDate n) = name_text n ++ bytes " is not a date"
text_of (Fault.TooLarge n) = name_text n ++ bytes " is too large"
text_of (Fault.NotHex n) = name_text n ++ bytes " has a character that is not a hexadecimal digit"
text_of (Fault.Odd n) = name_text n ++ bytes " has an odd number of digits"
text_of Fault.NotLevel = bytes "level is not 0 or 1"
text_of Fault.NotPart = bytes "part is not 128, 4096, 128x256 or 4096x256"
text_of Fault.UnknownOption = bytes "unknown option"
text_of Fault.TooManyWords = bytes "too many words"
text_of Fault.Twice = bytes "option given twice"
text_of (Fault.Over k) = key_text k ++ over_text k

-- a text laid over a list from index a on, and the index behind it
pub record Put (a : ℕ) (text before after : List ℕ) (r : ℕ) : Type 0 where
  pub end : r ≡ a + length text
  pub laid : after ≡ splice a text before
