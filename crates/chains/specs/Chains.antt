-- Calls of the C functions on a record block and an array, one after another. What a function does is its promise, and nothing else; the block and the
-- array that it leaves are those of the next.
-- Assumes nothing.
use Rattle.std.specs.Prelude.{ℕ, ◌*◌, ◌≤◌, ◌≡◌, Bool, true, false, List, [], ◌∷◌, ◌⊎◌, length, get_or, take}
use Rattle.dates.specs.declared.Date.{Date}
use Rattle.dates.specs.declared.Term.{Term}
use Rattle.dates.specs.Calendar.{day_of}
use Rattle.state.specs.Outcomes.{send_outcome, end_outcome, cut_outcome}
use Rattle.blocks.specs.Promises.{held_in, Met, MetPin}
use Rattle.slots.specs.Details.{period_of}
use Rattle.slots.specs.Records.{is_within}
use Rattle.slots.specs.Lists.{Op, call, raw, straight, pin, busy_end, cut, lent_to, log_of}
use Rattle.runs.specs.Promises.{Called}

-- (14.4) what a caller has after a call: the number returned, block and array, the log, the three counts, and the get buffer or the reply; [] where none
-- is lent
pub record Seen : Type 0 where
  pub number : ℕ
  pub block : List ℕ
  pub array : List ℕ
  pub log : List ℕ
  pub counts : List ℕ
  pub lent : List ℕ

-- Aid: no log and no counts are lent
abbrev pub Bare : Seen → Type 0
Bare z = (z.log ≡ []) × (z.counts ≡ [])

-- (14.4) the promise of the function that is called: slipknoll_put (a put without a term), _put_term (one between its two dates), _patch, _get (on its date),
-- _wipe, _raw, _send, _move_pin, _end_busy, _cut
abbrev pub Does : Op → (held xs : List ℕ) → Seen → Type 0
Does (call a detail script payload junk log lent) held xs z =
    Called (call a detail script payload junk log lent) held xs z.number z.block z.array z.log z.counts z.lent
Does (raw frame script junk log reply) held xs z =
    Called (raw frame script junk log reply) held xs z.number z.block z.array z.log z.counts z.lent
Does (straight frame reply) held xs z = Met held (send_outcome (held_in held xs) frame reply) z.number z.block z.array z.lent × Bare z
Does (pin high) held xs z = MetPin held high z.number z.block × (z.array ≡ xs) × Bare z × (z.lent ≡ [])
Does busy_end held xs z = Met held (end_outcome (held_in held xs)) z.number z.block z.array z.lent × Bare z
Does (cut junk) held xs z = Met held (cut_outcome junk (held_in held xs)) z.number z.block z.array z.lent × Bare z

-- (14.10) a list of them
abbrev pub Chain : (held xs : List ℕ) → List Op → List Seen → Type 0
Chain held xs [] [] = Unit {0}
Chain held xs [] (z ∷ zs) = ⊥
Chain held xs (o ∷ os) [] = ⊥
Chain held xs (o ∷ os) (z ∷ zs) = Does o held xs z × Chain z.block z.array os zs

-- Aid: what is left after the last of them
unfoldable pub last_in : Seen → List Seen → Seen
last_in z [] = z
last_in z (y ∷ ys) = last_in y ys

-- ---- Aid: what a caller reads of it

-- frames, polls, n; 0 where no counts are lent
abbrev pub frames_in : Seen → ℕ
frames_in z = get_or z.counts 0 0

abbrev pub polls_in : Seen → ℕ
polls_in z = get_or z.counts 1 0

abbrev pub count_in : Seen → ℕ
count_in z = get_or z.counts 2 0

-- (14.24) the part of the log that was written: six bytes a frame
abbrev pub written_in : Seen → List ℕ
written_in z = take (6 * frames_in z) z.log

-- ---- demand 3: what is the same of two

-- (14.24) 0, 12, 13, 15
abbrev pub SoftNumber : ℕ → Type 0
SoftNumber n = ((n ≡ 0) ⊎ (n ≡ 12)) ⊎ ((n ≡ 13) ⊎ (n ≡ 15))

-- (14.28) of the driver's functions 16 too
abbrev pub DataNumber : ℕ → Type 0
DataNumber n = SoftNumber n ⊎ (n ≡ 16)

-- (14.24) what is compared of two calls
pub record SameSeen (y z : Seen) : Type 0 where
  pub written : written_in y ≡ written_in z
  pub frames : frames_in y ≡ frames_in z
  pub polls : polls_in y ≡ polls_in z
  pub answer : (y.number ≡ z.number) ⊎ (SoftNumber y.number × SoftNumber z.number)

-- (14.24) of two lists, one by one
abbrev pub AllSeen : List Seen → List Seen → Type 0
AllSeen [] [] = Unit {0}
AllSeen [] (z ∷ zs) = ⊥
AllSeen (y ∷ ys) [] = ⊥
AllSeen (y ∷ ys) (z ∷ zs) = SameSeen y z × AllSeen ys zs

-- (14.30) none of a list answers 16
abbrev pub NoneMiscompares : List Seen → Type 0
NoneMiscompares [] = Unit {0}
NoneMiscompares (z ∷ zs) = (z.number ≡ 16 → ⊥) × NoneMiscompares zs

-- ---- demand 2: what a get returns

-- (14.10) on a day inside the term 0 with exactly the recipe, outside it 15, n 0 and the buffer as it was
abbrev pub DeliversIn : Bool → (recipe buffer : List ℕ) → Seen → Type 0
DeliversIn true recipe buffer z = (z.number ≡ 0) × (count_in z ≡ length recipe) × (take (count_in z) z.lent ≡ recipe)
DeliversIn false recipe buffer z = (z.number ≡ 15) × (count_in z ≡ 0) × (z.lent ≡ buffer)

-- (14.10) refused (1 to 9, 14), cut (11), or the one or the other by the term and today's date
abbrev pub ReturnsIn : Term → Date → (recipe buffer : List ℕ) → Seen → Type 0
ReturnsIn term today recipe buffer z =
    ((((1 ≤ z.number) × (z.number ≤ 9)) ⊎ (z.number ≡ 14)) ⊎ (z.number ≡ 11))
    ⊎ DeliversIn (is_within (period_of term) (day_of today)) recipe buffer z

-- ---- demand 1: as a refusal leaves it

-- (14.4) 1 to 7, 14
abbrev pub RefusalNumber : ℕ → Type 0
RefusalNumber n = ((1 ≤ n) × (n ≤ 7)) ⊎ (n ≡ 14)

-- (14.4) block, array, log and what was lent as they were; no frame, no poll, n 0
pub record Refused (o : Op) (held xs : List ℕ) (z : Seen) : Type 0 where
  pub block : z.block ≡ held
  pub array : z.array ≡ xs
  pub log : z.log ≡ log_of o
  pub lent : z.lent ≡ lent_to o
  pub frames : frames_in z ≡ 0
  pub polls : polls_in z ≡ 0
  pub count : count_in z ≡ 0
