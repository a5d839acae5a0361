-- What each entry point answers and leaves, for accepted and refused input: a refusal changes nothing.
-- Assumes nothing.
use Rattle.std.specs.Prelude.{ℕ, ◌+◌, ◌*◌, ◌≡◌, Bool, true, false, cond, ◌&&◌, List, [], length, replicate, eqb, leb, None, Option, Some}
use Rattle.geometry.specs.declared.Geometry.{Geometry}
use Rattle.geometry.specs.Parts.{register_room, part_of}
use Rattle.registers.specs.declared.Operation.TheVariants.{Idle}
use Rattle.registers.specs.declared.Registers.{Registers}
use Rattle.registers.specs.Fields.{with_wp}
use Rattle.registers.specs.Operations.{placed}
use Rattle.control.specs.Control.{control}
use Rattle.control.specs.Completion.{completed}
use Rattle.control.specs.PowerLoss.{reaching, lost}
use Rattle.state.specs.declared.Answer.{Answer}
use Rattle.state.specs.declared.Answer.TheVariants as Answers
use Rattle.state.specs.declared.Outcome.{Outcome}
use Rattle.state.specs.Memory.{State, chip_in, buffer_size}
use Rattle.state.specs.Frames.{reply_of, sent_memory}
use Rattle.state.specs.Completion.{completed_memory}
use Rattle.state.specs.PowerLoss.{lost_memory}

-- Aid: what an entry point answers and leaves: the reply is [] where none is lent
pub record Left : Type 0 where
  pub answer : Answer
  pub state : State
  pub reply : List ℕ

-- Aid: the same, put together
abbrev pub left : Answer → State → List ℕ → Left
left a s reply = record { answer = a; state = s; reply = reply }

-- Aid: a function of crate chip that returns r, and at whose exit array and reply are xs and ys, leaves o
pub record Leaves (o : Left) (r : Outcome) (xs ys : List ℕ) : Type 0 where
  pub answer : r.answer ≡ o.answer
  pub chip : r.chip ≡ chip_in o.state
  pub array : xs ≡ o.state.memory.array
  pub reply : ys ≡ o.reply

-- (12.3) the part, by the array's length and the operation under way; None is answer 1
abbrev pub part_in : State → Option Geometry
part_in s = placed (length s.memory.array) s.registers.operation

-- ---- fresh

-- (2.13) the registers of a fresh chip
unfoldable pub fresh_registers : List ℕ → Registers
fresh_registers factory =
    record {
      protection = replicate register_room 0;
      lockdown = replicate register_room 0;
      user = replicate 64 255;
      factory = factory;
      used = false;
      protect = false;
      wp = true;
      deep = false;
      operation = Idle;
    }

-- (2.14) its buffers and its compare bit
unfoldable pub fresh_state : List ℕ → List ℕ → State
fresh_state factory xs =
    record {
      registers = fresh_registers factory;
      memory = record { array = xs; buffer1 = replicate buffer_size 0; buffer2 = replicate buffer_size 0; compare = false };
    }

-- (2.14) its array, FFh throughout
-- (12.15) answer 1 for an array of no part
unfoldable pub fresh_by : Option Geometry → List ℕ → List ℕ → Left
fresh_by None factory xs = left Answers.Part (fresh_state factory xs) []
fresh_by (Some g) factory xs = left Answers.Done (fresh_state factory (replicate (length xs) 255)) []

-- (12.15) the part looked up, by the array's length alone
unfoldable pub fresh_outcome : List ℕ → List ℕ → Left
fresh_outcome factory xs = fresh_by (part_of (length xs)) factory xs

-- ---- a frame sent straight

-- (3.1) a frame of n bytes and a reply of m are accepted; else answer 2
unfoldable pub framed : ℕ → ℕ → Bool
framed n m = leb 1 n && (leb n 1100 && eqb n m)

-- Aid: registers and memory after a frame
unfoldable pub sent_state : Geometry → List ℕ → State → State
sent_state g f s = record { registers = (control g s.registers f).registers; memory = sent_memory g s.registers f s.memory }

-- (12.11) answer 1, answer 2, or the frame's reply
unfoldable pub sent_by : Option Geometry → State → List ℕ → List ℕ → Left
sent_by None s f reply = left Answers.Part s reply
sent_by (Some g) s f reply =
    cond (framed (length f) (length reply))
    (left Answers.Done (sent_state g f s) (reply_of g s.registers s.memory f))
    (left Answers.Frame s reply)

-- (12.11) the part looked up; the frame, and the lent reply
unfoldable pub send_outcome : State → List ℕ → List ℕ → Left
send_outcome s f reply = sent_by (part_in s) s f reply

-- ---- a busy end

-- (7.1) registers and memory after a busy end
unfoldable pub ended_state : Geometry → State → State
ended_state g s = record { registers = completed g s.registers; memory = completed_memory g s.registers.operation s.memory }

-- (12.12) answer 1, or the busy end
unfoldable pub ended_by : Option Geometry → State → Left
ended_by None s = left Answers.Part s []
ended_by (Some g) s = left Answers.Done (ended_state g s) []

-- (12.12) the part looked up, busy or idle
unfoldable pub end_outcome : State → Left
end_outcome s = ended_by (part_in s) s

-- ---- a pin move

-- (8.1) the level of WP, and nothing else
unfoldable pub pinned_state : Bool → State → State
pinned_state high s = record { registers = with_wp s.registers high; memory = s.memory }

-- (12.13) answer 0
unfoldable pub pin_outcome : Bool → State → Left
pin_outcome high s = left Answers.Done (pinned_state high s) []

-- ---- a cut

-- (8.3) registers and memory after a cut, by the operation under way
unfoldable pub cut_state : Geometry → List ℕ → State → State
cut_state g junk s =
    record {
      registers = lost g s.registers (reaching g s.registers.operation junk);
      memory = lost_memory g s.registers.operation junk s.memory;
    }

-- (8.2) the lengths of array and junk go together; else answer 7
unfoldable pub cut_fits : Geometry → ℕ → ℕ → Bool
cut_fits g array junk = eqb junk (2 * g.size + array)

-- (12.14) answer 1, answer 7, or the cut
unfoldable pub cut_by : Option Geometry → List ℕ → State → Left
cut_by None junk s = left Answers.Part s []
cut_by (Some g) junk s =
    cond (cut_fits g (length s.memory.array) (length junk)) (left Answers.Done (cut_state g junk s) []) (left Answers.Script s [])

-- (12.14) the part looked up
unfoldable pub cut_outcome : List ℕ → State → Left
cut_outcome junk s = cut_by (part_in s) junk s
