-- The words of a line (docs/OUTLINE.md): where they lie, the commands, the names of the options, and which commands are calls.
-- Assumes nothing.
use Rattle.std.specs.Prelude.{ℕ, ◌-◌, Bool, true, false, cond, ◌&&◌, List, length, take, drop, leb, Option, Some, None}
use Rattle.slices.specs.Lists.{same}
use Rattle.text.specs.Lists.{scan}
use Rattle.text.specs.Words.{is_blank, not_blank}
use Rattle.words.specs.Letters.{bytes}
use Rattle.words.specs.declared.Span.{Span}
use Rattle.words.specs.declared.Command.{Command}
use Rattle.words.specs.declared.Command.TheVariants.{Put, Patch, Get, Wipe, Raw, Send, End, Pin, Cut, Part, Sum}
use Rattle.words.specs.declared.Key.{Key}
use Rattle.words.specs.declared.Key.TheVariants.{Limit, Script, Seed, Junk, Log, Buffer, Reply, First, Last, Today}

-- the first word from index at on: from the first byte that is no blank up to the next blank
abbrev pub word_from : List ℕ → ℕ → Span
word_from xs at = record { start = scan is_blank xs at; end = scan not_blank xs (scan is_blank xs at) }

-- the bytes of a part of a line
abbrev pub part_of : List ℕ → Span → List ℕ
part_of xs w = take (w.end - w.start) (drop w.start xs)

-- an empty part of a line
abbrev pub nowhere : Span
nowhere = record { start = 0; end = 0 }

-- the word begins with these bytes
unfoldable pub begins_with : List ℕ → List ℕ → Bool
begins_with word opening = leb (length opening) (length word) && same (take (length opening) word) opening

-- the command c where the word is its name, else the other
abbrev pub if_named : List ℕ → List ℕ → Command → Option Command → Option Command
if_named word name c other = cond (same word name) (Some c) other

-- the command that a word is
unfoldable pub command_of : List ℕ → Option Command
command_of w =
    if_named w (bytes "put") Put
    (if_named w (bytes "patch") Patch
    (if_named w (bytes "get") Get
    (if_named w (bytes "wipe") Wipe
    (if_named w (bytes "raw") Raw
    (if_named w (bytes "send") Send
    (if_named w (bytes "end") End
    (if_named w (bytes "pin") Pin
    (if_named w (bytes "cut") Cut
    (if_named w (bytes "part") Part
    (if_named w (bytes "sum") Sum None))))))))))

-- the option k where the word begins with its name, and the index at which its value begins; else the other
abbrev pub if_begun : List ℕ → List ℕ → Key → Option (Key × ℕ) → Option (Key × ℕ)
if_begun word opening k other = cond (begins_with word opening) (Some (k, length opening)) other

-- the option that a word is
unfoldable pub key_of : List ℕ → Option (Key × ℕ)
key_of w =
    if_begun w (bytes "b=") Limit
    (if_begun w (bytes "script=") Script
    (if_begun w (bytes "junk=") Seed
    (if_begun w (bytes "junklen=") Junk
    (if_begun w (bytes "log=") Log
    (if_begun w (bytes "buffer=") Buffer
    (if_begun w (bytes "reply=") Reply
    (if_begun w (bytes "first=") First
    (if_begun w (bytes "last=") Last
    (if_begun w (bytes "today=") Today None)))))))))

-- the five calls alone take options
abbrev pub is_call : Command → Bool
is_call Put = true
is_call Patch = true
is_call Get = true
is_call Wipe = true
is_call Raw = true
is_call Send = false
is_call End = false
is_call Pin = false
is_call Cut = false
is_call Part = false
is_call Sum = false
