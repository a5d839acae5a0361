-- The driver in front of anything that answers, a real chip say: reply i is what came back for frame i, any bytes of any number. No chip is in it.
-- Assumes nothing.
use Rattle.std.specs.Prelude.{ℕ, zero, suc, ◌+◌, ◌≡◌, Bool, false, cond, List, [], ◌∷◌, ◌++◌, ◌⊎◌, Some}
use Rattle.geometry.specs.declared.Geometry.{Geometry}
use Rattle.state.specs.declared.Answer.{Answer}
use Rattle.slots.specs.declared.Course.{Course}
use Rattle.slots.specs.declared.Flaws.{Flaws}
use Rattle.slots.specs.Plans.{Asked, sector_for, is_wait}
use Rattle.slots.specs.Driver.{Heard, Holding, frame_of, heard, after, taken_by, step_of, is_ended, told_by}
use Rattle.slots.specs.Refusals.{early_refusal}
use Rattle.slots.specs.Calls.{outline, first_course}
use Rattle.slots.specs.Alike.{FromData}
use Rattle.slots.specs.Exchanges.{Exchange}

-- (14.25) a driver and what it has sent so far: control state, data, the frames' outlines, how many frames and polls
pub record Talk : Type 0 where
  pub course : Course
  pub holding : Holding
  pub lines : List ℕ
  pub frames : ℕ
  pub polls : ℕ

-- (14.25) where a call starts: 3, 4, 5 and 14 are the driver's own; a refused call has already ended
unfoldable pub opened : Geometry → Asked → Flaws → Holding → Talk
opened g a flaws h = record { course = first_course (early_refusal g a flaws) a.limit; holding = h; lines = []; frames = 0; polls = 0 }

-- Aid: what is heard of the next reply
abbrev pub hearing : Geometry → Asked → (ℕ → List ℕ) → Talk → Heard
hearing g a replies t = heard g (step_of g a t.course) (sector_for g a) (replies t.frames)

-- (14.25) one frame and its reply; after the end nothing
unfoldable pub talked : Geometry → Asked → (ℕ → List ℕ) → Talk → Talk
talked g a replies t =
    cond (is_ended t.course.stage) t
    (record {
      course = after g a t.course (hearing g a replies t);
      holding = taken_by (step_of g a t.course) g a.kind t.holding (replies t.frames);
      lines = t.lines ++ outline (frame_of g a.kind t.holding (step_of g a t.course));
      frames = t.frames + 1;
      polls = t.polls + cond (is_wait (step_of g a t.course)) 1 0;
    })

-- (14.25) n of them
-- (14.27) it has ended after as many as the bound
unfoldable pub talk : ℕ → Geometry → Asked → (ℕ → List ℕ) → Talk → Talk
talk zero g a replies t = t
talk (suc n) g a replies t = talk n g a replies (talked g a replies t)

-- (14.29) the exchanges of these; nothing cuts a call here
unfoldable pub exchanges_in : ℕ → Geometry → Asked → (ℕ → List ℕ) → Talk → List Exchange
exchanges_in zero g a replies t = []
exchanges_in (suc n) g a replies t =
    cond (is_ended t.course.stage) []
    (record { frame = frame_of g a.kind t.holding (step_of g a t.course); reply = replies t.frames; byte = 1 }
    ∷ exchanges_in n g a replies (talked g a replies t))

-- (14.26) the replies of two worlds agree in what is heard of each of the next n frames; frame by frame, as the first world has them
abbrev pub HeardAlike : ℕ → Geometry → Asked → (replies others : ℕ → List ℕ) → Talk → Type 0
HeardAlike zero g a replies others t = Unit {0}
HeardAlike (suc n) g a replies others t =
    (is_ended t.course.stage ≡ false → hearing g a replies t ≡ hearing g a others t) × HeardAlike n g a replies others (talked g a replies t)

-- (14.26) what is the same in both: the frames' outlines, their number, the polls, and what the driver tells (0, 12, 13, 15 and 16 as one)
pub record SameTalk (t u : Talk) : Type 0 where
  pub lines : t.lines ≡ u.lines
  pub frames : t.frames ≡ u.frames
  pub polls : t.polls ≡ u.polls
  pub stage : is_ended t.course.stage ≡ is_ended u.course.stage
  pub answer : (a b : Answer) → told_by t.course.stage t.holding.verdict ≡ Some a → told_by u.course.stage u.holding.verdict ≡ Some b
      → (a ≡ b) ⊎ (FromData a × FromData b)
