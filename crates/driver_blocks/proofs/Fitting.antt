-- Every state of a call fits its block, so the block carries the driver from call to call and loses nothing: a start fits where its numbers do, a block
-- of bytes reads as a state that fits, and a reply keeps it so. The plan has fewer than 256 steps, and the polls left become fewer, or the limit.
-- Assumes nothing.
use Rattle.std.specs.Prelude.{None, Option, Some}
use mathlib.Core.Path.{◌≡◌, refl, sym, subst}
use mathlib.Core.Bool.{Bool, true, false}
use mathlib.Core.List.{List, [], ◌∷◌}
use Prim.Native.Nat.{ℕ, zero, suc, ◌+◌, ◌^◌, ◌<◌}
use native.Mathlib.Omega.{arith}
use lib.ListN.{length, get_or}
use lib.Dec.{eqb, lit<}
use Rattle.slices.specs.Words.{word_at}
use Rattle.slices.proofs.Words.{word_at-small}
use Rattle.dates.specs.declared.Term.{Term}
use Rattle.dates.specs.declared.Term.TheVariants.{Unlimited, Between}
use Rattle.geometry.specs.declared.Geometry.{Geometry}
use Rattle.geometry.specs.Parts.{part_of}
use Rattle.slots.specs.declared.Course.{Course}
use Rattle.slots.specs.declared.Detail.{Detail}
use Rattle.slots.specs.declared.Driver.{Driver}
use Rattle.slots.specs.declared.Period.{Period}
use Rattle.slots.specs.declared.Verdict.{Verdict}
use Rattle.slots.specs.Plans.{Asked, plan_of, step_at}
use Rattle.slots.specs.Details.{period_of, aim_of}
use Rattle.slots.specs.Driver.{Heard, heard, after, is_ended}
use Rattle.slots.specs.Calls.{first_course}
use Rattle.slots.proofs.Places.{course_cases}
use Rattle.slots.proofs.Counts.{place-few}
use Rattle.slots.proofs.Parts.{cases}
use Rattle.slots.proofs.ReadBack.{day_most}
use Rattle.worlds.specs.Turns.{asked_of, with, step_in}
use Rattle.worlds.specs.Start.{start_driver}
use Rattle.worlds.specs.Step.{stage_by, took_by, took_in}
use Rattle.worlds.proofs.Sane.{Facts, going-facts, took_ended, took_going}
use Rattle.driver_blocks.specs.Block.{first_of, last_of, period_at, decode_course, decode_aim, decode_driver, encode_driver, Fits}
use Rattle.driver_blocks.proofs.RoundTrip.{decode_encode}

-- ---- the start

-- a term's days are those of dates
days_fit : (t : Term) → (first_of (period_of t) < 2 ^ 64) × (last_of (period_of t) < 2 ^ 64)
unfolding period_of first_of last_of
days_fit Unlimited = (lit< tt, lit< tt)
days_fit (Between first last) = (omega (arith, day_most first), omega (arith, day_most last))

pub fits-start : (array : ℕ) (a : Asked) (d : Detail) (payload lent : ℕ) → array < 2 ^ 64 → a.slot < 2 ^ 64 → a.limit < 2 ^ 64 → d.place < 2 ^ 64
    → Fits (start_driver array a d payload lent)
unfolding start_driver first_course aim_of
fits-start array a d payload lent n s l p =
    let days = days_fit d.term in
    record {
      array = n;
      slot = s;
      limit = l;
      place = p;
      left = l;
      first = days.0;
      last = days.1;
      today = omega (arith, day_most d.today);
      step = lit< tt;
    }

-- ---- a block of bytes

bytes : (xs : List ℕ) → ((k : ℕ) → k < length xs → get_or xs k 0 < 256) → (k : ℕ) → get_or xs k 0 < 256
bytes [] h k = lit< tt
bytes (x ∷ xs) h zero = h zero (omega arith)
bytes (x ∷ xs) h (suc k) = bytes xs (λ j l. h (suc j) (omega arith)) k

-- a term's days are the numbers that it is read from
period_fits : (n first last : ℕ) → first < 2 ^ 64 → last < 2 ^ 64 → (first_of (period_at n first last) < 2 ^ 64) × (last_of (period_at n first last) < 2 ^ 64)
unfolding period_at first_of last_of
period_fits n first last f l = cases (λ (p : Period). (first_of p < 2 ^ 64) × (last_of p < 2 ^ 64)) (eqb n 0) (lit< tt, lit< tt) (f, l)

pub fits_decode : (block : List ℕ) → ((k : ℕ) → k < length block → get_or block k 0 < 256) → Fits (decode_driver block)
unfolding decode_driver decode_course decode_aim
fits_decode block h =
    let b = bytes block h in
    let days = period_fits (get_or block 7 0) (word_at block 48) (word_at block 56) (word_at-small block 48 (λ k _. b (48 + k))) (word_at-small block 56 (λ k _. b (56 + k))) in
    record {
      array = word_at-small block 8 (λ k _. b (8 + k));
      slot = word_at-small block 16 (λ k _. b (16 + k));
      limit = word_at-small block 24 (λ k _. b (24 + k));
      place = word_at-small block 32 (λ k _. b (32 + k));
      left = word_at-small block 40 (λ k _. b (40 + k));
      first = days.0;
      last = days.1;
      today = word_at-small block 64 (λ k _. b (64 + k));
      step = b 4;
    }

-- ---- a reply

abbrev Short : Course → Type 0
Short c = (c.place < 256) × (c.left < 2 ^ 64)

after-short : (g : Geometry) (d : Driver) (o : Heard) → Facts g d → Fits d → Short (after g (asked_of d) d.course o)
after-short g d o w h =
    let i : d.course.place < 51 = place-few d.kind g d.slot d.course.place w.step in
    course_cases Short (step_in g d) (step_at (plan_of g (asked_of d)) (suc d.course.place)) d.limit d.course o w.step
    (λ _ _. (h.step, h.left)) (λ _ _. (h.step, omega (arith, h.left))) (λ _ _. (omega (arith, i), h.limit))

-- the numbers that a reply does not change
with-fits : (d : Driver) (v : Verdict) (c : Course) → Fits d → Short c → Fits (with d v c)
with-fits d v c h s =
    record {
      array = h.array;
      slot = h.slot;
      limit = h.limit;
      place = h.place;
      left = s.1;
      first = h.first;
      last = h.last;
      today = h.today;
      step = s.0;
    }

pub fits_took : (d : Driver) (payload staged reply : List ℕ) → Fits d → Fits (took_in d payload staged reply)
unfolding took_in took_by
fits_took d payload staged reply h = go (part_of d.array) refl
  where
    on : (g : Geometry) → part_of d.array ≡ Some g → (b : Bool) → is_ended (stage_by (Some g) d) ≡ b → Fits (took_in d payload staged reply)
    on g p true e =
        subst Fits (sym (took_ended g d payload staged reply p e))
        (with-fits d _ _ h (h.step, h.left))
    on g p false e =
        let c = after-short g d (heard g (step_in g d) _ reply) (going-facts g d e).1 h in
        subst Fits (sym (took_going g d payload staged reply p e))
        (with-fits d _ _ h c)

    go : (p : Option Geometry) → part_of d.array ≡ p → Fits (took_in d payload staged reply)
    go (Some g) p = on g p (is_ended (stage_by (Some g) d)) refl
    go None p =
        subst (λ (q : Option Geometry). Fits (took_by q d payload staged reply)) (sym p)
        (with-fits d _ _ h (h.step, h.left))

-- ---- from block to block: the state after a reply, stored, reads as that state
pub next_back : (block payload staged reply : List ℕ) → ((k : ℕ) → k < length block → get_or block k 0 < 256)
    → decode_driver (encode_driver (took_in (decode_driver block) payload staged reply)) ≡ took_in (decode_driver block) payload staged reply
next_back block payload staged reply h =
    decode_encode (took_in (decode_driver block) payload staged reply) (fits_took (decode_driver block) payload staged reply (fits_decode block h))
