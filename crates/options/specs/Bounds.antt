-- Where options lie: the script in the line, the lengths within their rooms.
-- Assumes nothing.
use Rattle.std.specs.Prelude.{ℕ, ◌≤◌, Result, Ok, Err, unwrap_or}
use Rattle.words.specs.Words.{nowhere}
use Rattle.faults.specs.declared.Fault.{Fault}
use Rattle.words.specs.Bounds.{Within}
use Rattle.settings.specs.declared.Settings.{Settings}

-- options: the script's part in the line, the lengths within their rooms
pub record SoundSettings (n : ℕ) (s : Settings) : Type 0 where
  pub script : Within n (unwrap_or s.script nowhere)
  pub junk : unwrap_or s.junk 0 ≤ 1114112
  pub log : unwrap_or s.log 0 ≤ 102204
  pub buffer : unwrap_or s.buffer 0 ≤ 65536
  pub reply : unwrap_or s.reply 0 ≤ 65536

-- the same where there is no fault
abbrev pub SoundChoice : ℕ → Result Settings Fault → Type 0
SoundChoice n (Ok s) = SoundSettings n s
SoundChoice n (Err f) = Unit
