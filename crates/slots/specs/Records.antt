-- A slot and the record in it: one writing and one reading of a record's head, for both versions.
-- Assumes nothing.
use Rattle.std.specs.Prelude.{ℕ, ◌+◌, ◌-◌, ◌*◌, ◌/◌, ◌%◌, Bool, true, cond, ◌&&◌, ◌||◌, List, [], ◌∷◌, ◌++◌, length, get_or, eqb, ltb, leb}
use Rattle.geometry.specs.declared.Geometry.{Geometry}
use Rattle.slots.specs.declared.Period.{Period}
use Rattle.slots.specs.declared.Period.TheVariants.{Always, Days}
use Rattle.slots.specs.declared.Verdict.{Verdict}
use Rattle.slots.specs.declared.Verdict.TheVariants.{Good, Blank, Beyond, Outside, Miscompared}

-- (9.1) a slot's bytes: eight pages
unfoldable pub slot_size : Geometry → ℕ
slot_size g = 8 * g.size

-- (9.2) the bytes before the body, by version: version and length; in version 2 the first and the last day too. No other version has a head
unfoldable pub head_size : ℕ → ℕ
head_size version = cond (eqb version 1) 3 (cond (eqb version 2) 11 0)

-- (9.3) the longest body, by version: what the head leaves of the slot
unfoldable pub limit_of : Geometry → ℕ → ℕ
limit_of g version = slot_size g - head_size version

-- ---- writing

-- (9.4) the version that a recipe is stored with: 2 with a term, 1 without
unfoldable pub version_of : Period → ℕ
version_of Always = 1
version_of (Days first last) = 2

-- (9.4) a day number in four bytes, the most significant first
unfoldable pub day_bytes : ℕ → List ℕ
day_bytes n = n / 16777216 % 256 ∷ n / 65536 % 256 ∷ n / 256 % 256 ∷ n % 256 ∷ []

-- (9.4) the bytes of a term
unfoldable pub period_bytes : Period → List ℕ
period_bytes Always = []
period_bytes (Days first last) = day_bytes first ++ day_bytes last

-- (9.4) the head of a recipe of n bytes: version, length, term
abbrev pub head_of : Period → ℕ → List ℕ
head_of period n = version_of period ∷ n / 256 % 256 ∷ n % 256 ∷ period_bytes period

-- (9.4) byte i of the slot in which a recipe is stored: the head, the recipe, and zeros
unfoldable pub image : Period → List ℕ → ℕ → ℕ
image period recipe i = get_or (head_of period (length recipe) ++ recipe) i 0

-- ---- reading

-- (9.5) the version that a slot's first bytes tell
abbrev pub version_in : List ℕ → ℕ
version_in bytes = get_or bytes 0 0

-- (9.5) the length n
unfoldable pub length_in : List ℕ → ℕ
length_in bytes = get_or bytes 1 0 * 256 + get_or bytes 2 0

-- (9.5) the day number at index i
unfoldable pub day_in : List ℕ → ℕ → ℕ
day_in bytes i = get_or bytes i 0 * 16777216 + get_or bytes (i + 1) 0 * 65536 + get_or bytes (i + 2) 0 * 256 + get_or bytes (i + 3) 0

-- (9.5) the term: of version 2 alone, any numbers
unfoldable pub period_in : List ℕ → Period
period_in bytes = cond (eqb (version_in bytes) 2) (Days (day_in bytes 3) (day_in bytes 7)) Always

-- (9.6) they begin a record: version 1 or 2, and a length within that version's limit
unfoldable pub is_record : Geometry → List ℕ → Bool
is_record g bytes = (eqb (version_in bytes) 1 || eqb (version_in bytes) 2) && leb (length_in bytes) (limit_of g (version_in bytes))

-- (9.12) a day is inside a term: first and last day are; where there is no term, every day is
unfoldable pub is_within : Period → ℕ → Bool
is_within Always today = true
is_within (Days first last) today = leb first today && leb today last

-- ---- a patch

-- (9.7) byte i of a slot that held `old` there, with a patch's bytes at its place in the body, which begins behind a head of so many bytes
unfoldable pub patched : ℕ → ℕ → List ℕ → ℕ → ℕ → ℕ
patched head place bytes old i =
    cond (leb (head + place) i && ltb i (head + place + length bytes)) (get_or bytes (i - (head + place)) 0) old

-- (9.8) the same by the verdict so far: under 12 or 13 as it was; a page that differs keeps no other from being changed
unfoldable pub changed : Verdict → ℕ → ℕ → List ℕ → ℕ → ℕ → ℕ
changed Good head place bytes old i = patched head place bytes old i
changed Blank head place bytes old i = old
changed Beyond head place bytes old i = old
changed Outside head place bytes old i = old
changed Miscompared head place bytes old i = patched head place bytes old i

-- ---- verdicts

-- (9.9) what a slot's first bytes tell a get on this day: 12, then 15
unfoldable pub get_verdict : Geometry → ℕ → List ℕ → Verdict
get_verdict g today bytes = cond (is_record g bytes) (cond (is_within (period_in bytes) today) Good Outside) Blank

-- (9.10) and a patch that ends at `end`, whatever the term: 12, then 13
unfoldable pub patch_verdict : Geometry → ℕ → List ℕ → Verdict
patch_verdict g end bytes = cond (is_record g bytes) (cond (leb end (length_in bytes)) Good Beyond) Blank
