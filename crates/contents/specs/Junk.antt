-- The junk of a cut.
-- Assumes nothing.
use Rattle.std.specs.Prelude.{ℕ, ◌+◌, ◌*◌, ◌/◌, ◌%◌, List}
use Rattle.slices.specs.Lists.{tabulate}

-- byte i of J: (SEED*7 + i*13 + (i div 256)*31) mod 256
unfoldable pub junk_byte : ℕ → ℕ → ℕ
junk_byte seed i = (seed * 7 + i * 13 + i / 256 * 31) % 256

-- J, n bytes of it
abbrev pub junk_of : ℕ → ℕ → List ℕ
junk_of seed n = tabulate n (junk_byte seed)
