-- The bytes of a reply.
-- Assumes nothing.
use Rattle.std.specs.Prelude.{ℕ, ◌+◌, ◌-◌, ◌%◌, cond, List, get_or, ltb}
use Rattle.slices.specs.Lists.{tabulate}

-- (3.11) n bytes: FFh for those of the lead, then the data f 0, f 1, ..
unfoldable pub replied : ℕ → ℕ → (ℕ → ℕ) → List ℕ
replied n lead f = tabulate n (λ i. cond (ltb i lead) 255 (f (i - lead)))

-- (3.13) nothing is read
abbrev pub no_data : ℕ → ℕ
no_data i = 255

-- (3.14) bytes read once, then FFh
abbrev pub once_data : List ℕ → ℕ → ℕ
once_data bytes i = get_or bytes i 255

-- (3.15) bytes read in a ring of `size`, from index start on
abbrev pub ring_data : ℕ → ℕ → List ℕ → ℕ → ℕ
ring_data size start bytes i = get_or bytes ((start + i) % size) 0
