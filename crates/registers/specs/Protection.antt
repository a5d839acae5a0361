-- Listed, locked and sealed sectors, by their numbers: 0 is 0a, 1 is 0b, j + 1 is sector j.
-- Assumes nothing.
use Rattle.std.specs.Prelude.{ℕ, zero, suc, ◌+◌, ◌-◌, ◌*◌, ◌/◌, ◌%◌, ◌≡◌, Bool, cond, not, ◌&&◌, ◌||◌, List, get_or, take, set, eqb, ltb}
use Rattle.std.specs.Int.Bits.{bit_or}
use Rattle.geometry.specs.declared.Geometry.{Geometry}
use Rattle.geometry.specs.Parts.{register_room}
use Rattle.geometry.specs.Sectors.{sector_count}
use Rattle.registers.specs.declared.Registers.{Registers}
use Rattle.registers.specs.declared.Seals.{Seals}

-- (2.7) the bytes of a register: as many as the part has
abbrev pub register_of : Geometry → List ℕ → List ℕ
register_of g bytes = take g.register bytes

-- (2.7) a sector's bits: of byte 0 the two high ones for 0a and the next two for 0b, of byte j all for sector j
-- (2.8) the low four of byte 0 are nobody's
unfoldable pub bits_of : Geometry → List ℕ → ℕ → ℕ
bits_of g bytes zero = get_or (register_of g bytes) 0 0 / 64
bits_of g bytes (suc zero) = get_or (register_of g bytes) 0 0 / 16 % 4
bits_of g bytes (suc (suc j)) = get_or (register_of g bytes) (suc j) 0

-- (2.9) one of a sector's bits is 1, or more are
unfoldable pub has_bits : Geometry → List ℕ → ℕ → Bool
has_bits g bytes s = not (eqb (bits_of g bytes s) 0)

-- (2.10) listed: one of its protection bits is 1
abbrev pub listed : Geometry → Registers → ℕ → Bool
listed g r s = has_bits g r.protection s

-- (2.10) locked: one of its lockdown bits is
abbrev pub locked : Geometry → Registers → ℕ → Bool
locked g r s = has_bits g r.lockdown s

-- (2.11) the protect mark is on, or WP has its low level
abbrev pub guarded : Registers → Bool
guarded r = r.protect || not r.wp

-- (2.12) locked; or listed, in a guarded chip
unfoldable pub sealed : Geometry → Registers → ℕ → Bool
sealed g r s = locked g r s || (listed g r s && guarded r)

-- (6.7) the sectors from s on, n of them, that are not sealed: bit i is sector s + i
unfoldable pub unsealed_from : Geometry → Registers → ℕ → ℕ → ℕ
unsealed_from g r zero s = 0
unsealed_from g r (suc n) s = cond (sealed g r s) 0 1 + 2 * unsealed_from g r n (s + 1)

-- (6.7) those of the part, which a Chip Erase takes
unfoldable pub unsealed_set : Geometry → Registers → ℕ
unsealed_set g r = unsealed_from g r (sector_count g) 0

-- (7.13) all bits of a sector, in its byte
unfoldable pub mask_of : ℕ → ℕ
mask_of zero = 0xC0
mask_of (suc zero) = 0x30
mask_of (suc (suc j)) = 0xFF

-- (7.13) the lockdown bytes with all bits of a sector set, and the others as they were; 0a and 0b are both in byte 0
unfoldable pub locked_bytes : Geometry → List ℕ → ℕ → List ℕ
locked_bytes g bytes s = cond (ltb (s - 1) g.register) (set bytes (s - 1) (bit_or (get_or bytes (s - 1) 0) (mask_of s))) bytes

-- ---- Aid: the part's registers fill their room in the record

abbrev pub Roomed : Geometry → Type 0
Roomed g = g.register ≡ register_room

-- ---- Aid: what of the registers decides whether a sector is sealed, so that the code copies no more

abbrev pub seals_of : Registers → Seals
seals_of r = record { protection = r.protection; lockdown = r.lockdown; protect = r.protect; wp = r.wp }

-- it holds of all registers that have these seals
abbrev pub WithSeals : Seals → (Registers → Type 0) → Type 0
WithSeals s P = (r : Registers) → seals_of r ≡ s → P r
