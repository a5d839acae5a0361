-- The premise of two_runs can be met: lists with the same junk are alike along any two runs, whatever the recipes are. An example puts
-- recipes of 1 and of 2,000 bytes.
-- Assumes nothing.
use Rattle.std.specs.Prelude.{None, Option, Some}
use Prim.Native.Nat.{ℕ, ◌-◌, ◌*◌}
use mathlib.Core.Path.{◌≡◌, refl, sym, ap, subst, ◌∙◌}
use mathlib.Core.Bool.{Bool, true, false, cond, ◌&&◌}
use mathlib.Core.List.{List, [], ◌∷◌}
use lib.ListN.{length, replicate}
use lib.Dec.{eqb, ltb}
use native.Mathlib.Omega.{arith}
use Rattle.geometry.specs.declared.Geometry.{Geometry}
use Rattle.geometry.specs.Parts.{parts, part_of}
use Rattle.geometry.proofs.Pages.{Each, known_case}
use Rattle.registers.proofs.Places.{placed_known}
use Rattle.control.specs.Control.{control}
use Rattle.control.specs.PowerLoss.{reaching}
use Rattle.state.specs.Answers.{number_of}
use Rattle.slots.specs.declared.Kind.TheVariants.{Put}
use Rattle.state.specs.Memory.{State, chip_in}
use Rattle.state.specs.Whole.{Whole}
use Rattle.state.specs.Outcomes.{part_in, cut_fits}
use Rattle.slots.specs.Records.{slot_size, limit_of, head_size, version_of}
use Rattle.slots.specs.Refusals.{is_over, is_misdated}
use Rattle.slots.specs.Calls.{scripted}
use Rattle.dates.specs.declared.Term.{Term}
use Rattle.dates.specs.declared.Term.TheVariants.{Unlimited, Between}
use Rattle.dates.specs.Calendar.{is_leap, days_in_year, days_in_month, is_date, days_of_years, days_of_months, day_number, day_of}
use Rattle.dates.specs.Terms.{is_term}
use Rattle.slots.specs.Details.{period_of}
use Rattle.slots.specs.Lists.{Op, asking, call, put, raw, straight, pin, busy_end, cut, secret, run_list, next_of}
use Rattle.slots.specs.Alike.{Twins, Given, calls, raws, straights, pins, ends, cuts, oversize, misdated, call_junk, raw_junk, cut_junk, junk_by, junk_of, Alike, AlikeLists, AllSame}
use Rattle.slots.proofs.TwoRuns.{Flawed, request-same, ran_blind, raw_refusal_lem, part_same, next_twins, two_runs}

-- the junk that a call or an event is given
unfoldable pub junk_in : Op → List ℕ
junk_in (call a detail script payload junk log lent) = junk
junk_in (raw frame script junk log reply) = junk
junk_in (straight frame reply) = []
junk_in (pin high) = []
junk_in busy_end = []
junk_in (cut junk) = junk

by_junk : (p : Option Geometry) {o u : Op} → Given o u → Flawed p o u → (s t : State) → Twins s t → junk_in o ≡ junk_in u
    → junk_by p o s ≡ junk_by p u t
unfolding junk_by junk_in oversize misdated call_junk raw_junk cut_junk
by_junk (Some g) (calls a script {p} {q} {a = x} {b = y} {j} {k} {l} {m} {x = c} {y = d} ej el ex) e s t h z =
    let r = ran_blind g (request-same g a script p q x y j k l m c d (e.0 g refl) e.1 ej el ex) (secret x p j c) (secret y q k d) s t h in
    λ i. cond (r i).cut (reaching g (r i).registers.operation (z i)) []
by_junk (Some g) (raws frame script {j} {k} {l} {m} {a} {b} ej el ea) e s t h z =
    let r = raw_refusal_lem g frame script j k l m a b s t ej el ea h in
    λ i. cond (eqb (number_of (r i)) 0 && eqb (scripted script 0) 2) (reaching g (control g (h.registers i) frame).registers.operation (z i)) []
by_junk (Some g) (straights frame ea) e s t h z = refl
by_junk (Some g) (pins high) e s t h z = refl
by_junk (Some g) ends e s t h z = refl
by_junk (Some g) (cuts ej) e s t h z = λ i. cond (cut_fits g (h.size i) (ej i)) (reaching g (h.registers i).operation (z i)) []
by_junk None d e s t h z = refl

-- alike in all that is public, with the same junk; 5 is met in both or in neither, whatever the part is, and so is 14
abbrev pub SameJunk : List Op → List Op → Type 0
SameJunk [] [] = Unit {0}
SameJunk [] (u ∷ us) = ⊥
SameJunk (o ∷ os) [] = ⊥
SameJunk (o ∷ os) (u ∷ us) = Given o u × ((n : ℕ) (g : Geometry) → part_of n ≡ Some g → oversize g o ≡ oversize g u) × (misdated o ≡ misdated u) × (junk_in o ≡ junk_in u) × SameJunk os us

alike : (o u : Op) (s t : State) → Twins s t → Given o u → ((n : ℕ) (g : Geometry) → part_of n ≡ Some g → oversize g o ≡ oversize g u) → misdated o ≡ misdated u → junk_in o ≡ junk_in u → Alike o u s t
unfolding junk_of
alike o u s t h d e f j =
    let z : (g : Geometry) → part_in s ≡ Some g → oversize g o ≡ oversize g u =
    λ g k. e (length s.memory.array) g (placed_known (length s.memory.array) s.registers.operation g k).0 in
    record {
      given = d;
      size = z;
      dates = f;
      junk = subst (λ (p : Option Geometry). junk_by (part_in s) o s ≡ junk_by p u t) (part_same s t h) (by_junk (part_in s) d (z, f) s t h j);
    }

alike_lists : (os us : List Op) (s t : State) → Twins s t → SameJunk os us → AlikeLists os us s t
alike_lists [] [] s t h a = tt
alike_lists [] (u ∷ us) s t h a = a
alike_lists (o ∷ os) [] s t h a = a
alike_lists (o ∷ os) (u ∷ us) s t h a =
    let z = alike o u s t h a.0 a.1 a.2 a.3 in
    (z, alike_lists os us (next_of o s) (next_of u t) (next_twins o u s t h z) a.4)

pub two_runs_same-junk : (os us : List Op) (s t : State) → Whole (chip_in s) → Whole (chip_in t) → Twins s t → SameJunk os us → AllSame (run_list os s) (run_list us t)
two_runs_same-junk os us s t w z h a = two_runs os us s t w z h (alike_lists os us s t h a)

-- ---- an example

-- every part takes a recipe of 1 byte without a term, and of 2,000 bytes with one
both_fit : (n : ℕ) (g : Geometry) → part_of n ≡ Some g → ltb (8 * g.size - 3) 1 ≡ ltb (8 * g.size - 11) (length (replicate {A = ℕ} 2000 9))
unfolding parts Each
both_fit n g e =
    (known_case (λ h. ltb (8 * h.size - 3) 1 ≡ ltb (8 * h.size - 11) (length (replicate {A = ℕ} 2000 9))) (refl, (refl, (refl, (refl, tt)))) n g e).0

-- 1 March to 31 May 2027
abbrev spring : Term
spring = Between (record { year = 2027; month = 3; day = 1 }) (record { year = 2027; month = 5; day = 31 })

-- a recipe of 1 byte without a term, and one of 2,000 bytes for the spring of 2027, put by alike calls on any two chips that are alike: the same outlines,
-- counts and answers
pub example : (log log' : List ℕ) → length log ≡ length log' → (s t : State) → Whole (chip_in s) → Whole (chip_in t) → Twins s t
    → AllSame (run_list (put 3 1 Unlimited [] (7 ∷ []) [] log ∷ busy_end ∷ []) s) (run_list (put 3 1 spring [] (replicate 2000 9) [] log' ∷ busy_end ∷ []) t)
unfolding oversize misdated is_over is_misdated is_term is_date day_of day_number days_of_years days_of_months days_in_year days_in_month is_leap period_of version_of junk_in limit_of slot_size head_size
example log log' l s t w z h =
    two_runs_same-junk _ _ s t w z h (
      calls (asking Put 3 1) [] refl l refl,
      both_fit,
      refl,
      refl,
      (ends, (λ n g k. refl), refl, refl, tt),
    )
