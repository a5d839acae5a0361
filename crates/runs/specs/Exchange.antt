-- Aid: one frame on a chip whose part is known, with its script byte: what the code leaves is what the run's definitions say.
-- Assumes nothing.
use Rattle.std.specs.Prelude.{ℕ, ◌≡◌, List}
use Rattle.slices.specs.Lists.{splice}
use Rattle.geometry.specs.declared.Geometry.{Geometry}
use Rattle.state.specs.Memory.{State}
use Rattle.state.specs.Frames.{reply_of}
use Rattle.state.specs.Outcomes.{sent_state}
use Rattle.blocks.specs.Block.{decode_chip, encode_chip}
use Rattle.slots.specs.Calls.{outline, state_after}

-- a block that has the form of a stored chip
abbrev pub Canonical : List ℕ → Type 0
Canonical block = block ≡ encode_chip (decode_chip block)

-- the frame f and the script byte b on the state s with log l₀ leave the state t, the reply and the log l
pub record Exchanged (g : Geometry) (b at : ℕ) (f : List ℕ) (s : State) (l₀ : List ℕ) (t : State) (answer l : List ℕ) : Type 0 where
  pub state : t ≡ state_after g b (sent_state g f s)
  pub reply : answer ≡ reply_of g s.registers s.memory f
  pub log : l ≡ splice at (outline f) l₀
