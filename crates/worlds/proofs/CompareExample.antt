-- A put of one byte on a short part in front of worlds that answer with a status and with registers of zeros: where bit 6 is set in the status that ends the wait
-- after a 60, if only after the last page's, the answer is 16 and all frames are sent; in an earlier poll of that wait, or in the wait after an 83, it is not
-- looked at. Computed.
-- Assumes nothing.
use Rattle.state.specs.declared.Answer.{Answer}
use Rattle.std.specs.Prelude.{Option, Some}
use Prim.Native.Nat.{ℕ, ◌-◌, ◌%◌}
use mathlib.Core.Path.{◌≡◌, refl}
use mathlib.Core.Bool.{false, cond, ◌||◌}
use mathlib.Core.List.{List, [], ◌∷◌}
use lib.ListN.{replicate}
use lib.Dec.{eqb}
use Rattle.slices.specs.Lists.{tabulate}
use Rattle.geometry.specs.declared.Geometry.{Geometry}
use Rattle.geometry.specs.Parts.{row}
use Rattle.geometry.specs.Sectors.{sector_of}
use Rattle.registers.specs.Protection.{has_bits, bits_of}
use Rattle.state.specs.Answers.{number_of}
use Rattle.state.specs.declared.Answer.TheVariants.{Done, Miscompare}
use Rattle.slots.specs.declared.Kind.TheVariants.{Put}
use Rattle.slots.specs.declared.Period.TheVariants.{Always}
use Rattle.slots.specs.declared.Verdict.TheVariants.{Good}
use Rattle.slots.specs.Plans.{is_asking, page_steps, run_by, pages, plan_by, step_at, is_end, is_wait}
use Rattle.slots.specs.Refusals.{early_refusal}
use Rattle.slots.specs.Calls.{first_course}
use Rattle.slots.specs.Driver.{Holding, register_in, heard, course_by, compare_in, miscomparing, taken_by, is_ended, weighed, verdict_answer, told_by}
use Rattle.slots.specs.Lists.{asking}
use Rattle.worlds.specs.Talks.{Talk, opened, talked, talk}

abbrev short : Geometry
short = row 264 128 512 false

-- a reply that is a status, or a register whose bits are all 0
abbrev reply : ℕ → List ℕ
reply status = 255 ∷ status ∷ 255 ∷ 255 ∷ replicate 16 0

-- ready, ready with bit 6, busy with bit 6
abbrev ready : ℕ
ready = 0xA4

abbrev differs : ℕ
differs = 0xE4

abbrev busy : ℕ
busy = 0x64

abbrev held : Holding
held = record { payload = 65 ∷ []; aim = record { place = 0; period = Always; today = 0 }; staged = []; verdict = Good }

-- a put into slot 0 with poll limit `limit`, each status by the frame's number
abbrev ran : ℕ → (ℕ → ℕ) → Talk
ran limit status = talk 60 short (asking Put 0 limit) (λ n. reply (status n)) (opened short (asking Put 0 limit) (record { size = false; dates = false }) held)

abbrev told : Talk → Option Answer
told t = told_by t.course.stage t.holding.verdict

-- by the frame's number, with one poll a wait: of a page 84, 83, D7, 60, D7 from frame 3 on; with two polls 84, 83, D7, D7, 60, D7, D7 from frame 4 on
pub record Compares : Type 0 where
  pub every : told (ran 1 (λ n. differs)) ≡ Some Miscompare
  pub sent : (ran 1 (λ n. differs)).frames ≡ 43
  pub last : told (ran 1 (λ n. cond (eqb n 42) differs ready)) ≡ Some Miscompare
  pub none : told (ran 1 (λ n. ready)) ≡ Some Done
  pub programmed : told (ran 1 (λ n. cond (eqb ((n - 3) % 5) 2) differs ready)) ≡ Some Done
  pub earlier : told (ran 2 (λ n. cond (eqb n 0 || (eqb ((n - 4) % 7) 2 || eqb ((n - 4) % 7) 5)) busy ready)) ≡ Some Done

pub compares : Compares
unfolding tabulate sector_of has_bits bits_of number_of is_asking page_steps run_by pages plan_by step_at is_end is_wait early_refusal first_course register_in heard course_by compare_in miscomparing taken_by is_ended weighed verdict_answer told_by opened talked talk
compares = record { every = refl; sent = refl; last = refl; none = refl; programmed = refl; earlier = refl }
