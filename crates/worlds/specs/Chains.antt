-- The driver's functions called in turn, each on the state that the one before left: frame, reply, frame, and so on to the end.
-- Assumes nothing.
use Rattle.std.specs.Prelude.{ℕ, zero, suc, ◌+◌, ◌≡◌, false, cond, List, [], ◌∷◌, ◌++◌, ◌⊎◌, Some}
use Rattle.geometry.specs.declared.Geometry.{Geometry}
use Rattle.state.specs.declared.Answer.{Answer}
use Rattle.slots.specs.declared.Driver.{Driver}
use Rattle.slots.specs.Plans.{sector_for}
use Rattle.slots.specs.Driver.{Heard, heard, is_ended}
use Rattle.slots.specs.Calls.{outline}
use Rattle.slots.specs.Alike.{FromData}
use Rattle.slots.specs.Exchanges.{Exchange}
use Rattle.worlds.specs.Turns.{asked_of, step_in}
use Rattle.worlds.specs.Step.{stage_in, frame_in, poll_in, took_in, staged_in, told_in}

-- (14.25) the driver, the bytes read so far, the outlines of the frames that it gave, how many frames and how many polls
pub record Chain : Type 0 where
  pub driver : Driver
  pub staged : List ℕ
  pub lines : List ℕ
  pub frames : ℕ
  pub polls : ℕ

-- Aid: nothing is sent yet
abbrev pub begun : Driver → List ℕ → Chain
begun d staged = record { driver = d; staged = staged; lines = []; frames = 0; polls = 0 }

-- (14.25) its frame sent, and reply number `frames` taken in; after the end nothing
unfoldable pub linked : List ℕ → (ℕ → List ℕ) → Chain → Chain
linked payload replies z =
    cond (is_ended (stage_in z.driver)) z
    (record {
      driver = took_in z.driver payload z.staged (replies z.frames);
      staged = staged_in z.driver payload z.staged (replies z.frames);
      lines = z.lines ++ outline (frame_in z.driver payload z.staged);
      frames = z.frames + 1;
      polls = z.polls + cond (poll_in z.driver) 1 0;
    })

-- (14.25) n of them
-- (14.27) it has ended after as many as the bound
unfoldable pub chain : ℕ → List ℕ → (ℕ → List ℕ) → Chain → Chain
chain zero payload replies z = z
chain (suc n) payload replies z = chain n payload replies (linked payload replies z)

-- (14.29) the exchanges of these; nothing cuts a call here
unfoldable pub exchanged : ℕ → List ℕ → (ℕ → List ℕ) → Chain → List Exchange
exchanged zero payload replies z = []
exchanged (suc n) payload replies z =
    cond (is_ended (stage_in z.driver)) []
    (record { frame = frame_in z.driver payload z.staged; reply = replies z.frames; byte = 1 } ∷ exchanged n payload replies (linked payload replies z))

-- ---- two chains

-- Aid: what is heard of a reply to the driver's frame
abbrev pub heard_in : Geometry → Driver → List ℕ → Heard
heard_in g d reply = heard g (step_in g d) (sector_for g (asked_of d)) reply

-- (14.26) the replies of two worlds agree in what is heard of each of the next n frames; frame by frame, as the first world has them
abbrev pub AgreeIn : ℕ → Geometry → List ℕ → (replies others : ℕ → List ℕ) → Chain → Type 0
AgreeIn zero g payload replies others z = Unit {0}
AgreeIn (suc n) g payload replies others z =
    (is_ended (stage_in z.driver) ≡ false → heard_in g z.driver (replies z.frames) ≡ heard_in g z.driver (others z.frames))
    × AgreeIn n g payload replies others (linked payload replies z)

-- (14.26) what is the same of both: the frames' outlines, their number, the polls, whether it has ended, and what the driver tells (0, 12, 13, 15 and 16 as one)
pub record SameChain (y z : Chain) : Type 0 where
  pub lines : y.lines ≡ z.lines
  pub frames : y.frames ≡ z.frames
  pub polls : y.polls ≡ z.polls
  pub stage : is_ended (stage_in y.driver) ≡ is_ended (stage_in z.driver)
  pub answer : (a b : Answer) → told_in y.driver ≡ Some a → told_in z.driver ≡ Some b → (a ≡ b) ⊎ (FromData a × FromData b)
