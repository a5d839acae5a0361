-- What frames, busy ends, cuts and pin moves keep is kept by every call, event and list: a call is frames, each with its script byte, and a cut at its
-- end. The lengths of array and buffers are such things.
-- Assumes nothing.
use Rattle.std.specs.Prelude.{None, Option, Some}
use Prim.Native.Nat.{ℕ, zero, suc}
use mathlib.Core.Path.{sym, ap, subst, ◌∙◌}
use mathlib.Core.Bool.{Bool, true, false, cond}
use mathlib.Core.List.{List, [], ◌∷◌}
use lib.ListN.{length}
use lib.Dec.{eqb}
use Rattle.geometry.specs.declared.Geometry.{Geometry}
use Rattle.registers.specs.declared.Registers.{Registers}
use Rattle.registers.specs.Fields.{with_wp}
use Rattle.control.specs.Control.{control}
use Rattle.control.specs.Completion.{completed}
use Rattle.control.specs.PowerLoss.{reaching, lost}
use Rattle.state.specs.Answers.{number_of}
use Rattle.control.proofs.Rows.{control-lengths}
use Rattle.control.proofs.Ends.{completed-lengths, lost-lengths}
use Rattle.state.specs.Memory.{Memory, chip_of, State, chip_in}
use Rattle.state.specs.Frames.{sent_memory}
use Rattle.state.specs.Completion.{completed_memory}
use Rattle.state.specs.PowerLoss.{lost_memory}
use Rattle.state.specs.Outcomes.{framed, Left, part_in, sent_state, ended_state, pinned_state, cut_state, sent_by, ended_by, pin_outcome, cut_fits, cut_by}
use Rattle.state.proofs.Lengths.{sent-array, sent-first-length, sent_second_length, completed-array-length, completed-first-length, completed_second_length, lost-array-length, lost-first-length, lost_second_length}
use Rattle.slots.specs.Driver.{is_ended}
use Rattle.slots.specs.Refusals.{raw_refusal}
use Rattle.slots.specs.Plans.{bound}
use Rattle.state.specs.Whole.{Whole}
use Rattle.slots.specs.Calls.{Request, Secret, Open, Closed, scripted, sends, leaves, replies, hears, registers_after, memory_after, state_after, step_open, step_closed, open_after, closed_after, outline, run, start_open, start_closed, ran, reached, call_next, raw_next}
use Rattle.slots.specs.Lists.{Op, call, raw, straight, pin, busy_end, cut, asks, secret, called_by, raw_left, next_of, left_by}
use Rattle.slots.proofs.Parts.{next_at, next_at_lem, cases}

-- kept by whatever befalls a chip
pub record Steady (Q : Registers → Memory → Type 0) : Type 0 where
  pub frames : (g : Geometry) (f : List ℕ) (r : Registers) (m : Memory) → Q r m → Q (control g r f).registers (sent_memory g r f m)
  pub ends : (g : Geometry) (r : Registers) (m : Memory) → Q r m → Q (completed g r) (completed_memory g r.operation m)
  pub cuts : (g : Geometry) (junk : List ℕ) (r : Registers) (m : Memory) → Q r m → Q (lost g r (reaching g r.operation junk)) (lost_memory g r.operation junk m)
  pub pins : (high : Bool) (r : Registers) (m : Memory) → Q r m → Q (with_wp r high) m

module _ (Q : Registers → Memory → Type 0) (w : Steady Q) where
  abbrev pub In : State → Type 0
  In s = Q s.registers s.memory

  after_keeps : (g : Geometry) (b : ℕ) (r : Registers) (m : Memory) → Q r m → Q (registers_after g b r) (memory_after g b r m)
  unfolding registers_after memory_after
  after_keeps g b r m u = go (eqb b 0)
    where
      go : (d : Bool) → Q (cond d (completed g r) r) (cond d (completed_memory g r.operation m) m)
      go true = w.ends g r m u
      go false = u

  pub step_keeps : (g : Geometry) (v : Request) (p : Open) (q : Closed) → Q p.registers q.memory → Q (step_open g v p q).registers (step_closed g v p q).memory
  unfolding step_open step_closed open_after closed_after
  step_keeps g v p q u = go (is_ended p.course.stage)
    where
      next : Open
      next = open_after g v p (outline (sends g v p q)) (leaves g v p q) (hears g v p q)

      go : (d : Bool) → Q (cond d p next).registers
          (cond d q (closed_after g v p q (leaves g v p q) (sent_memory g p.registers (sends g v p q) q.memory) (replies g v p q))).memory
      go true = u
      go false =
          after_keeps g (scripted v.script p.frames) (leaves g v p q) (sent_memory g p.registers (sends g v p q) q.memory)
          (w.frames g (sends g v p q) p.registers q.memory u)

  pub run_keeps : (n : ℕ) (g : Geometry) (v : Request) (p : Open) (q : Closed) → Q p.registers q.memory → Q (run n g v p q).0.registers (run n g v p q).1.memory
  unfolding run
  run_keeps zero g v p q u = u
  run_keeps (suc n) g v p q u = run_keeps n g v (step_open g v p q) (step_closed g v p q) (step_keeps g v p q u)

  pub ran_keeps : (g : Geometry) (v : Request) (x : Secret) (s : State) → In s → In (reached (ran g v x s))
  unfolding ran start_open start_closed
  ran_keeps g v x s u = run_keeps (bound g v.asked) g v (start_open g (length s.memory.array) v s.registers) (start_closed x s.memory) u

  cut_keeps : (g : Geometry) (junk : List ℕ) (s : State) → In s → In (cut_state g junk s)
  unfolding cut_state
  cut_keeps g junk s u = w.cuts g junk s.registers s.memory u

  sent_keeps : (g : Geometry) (f : List ℕ) (s : State) → In s → In (sent_state g f s)
  unfolding sent_state
  sent_keeps g f s u = w.frames g f s.registers s.memory u

  end_keeps : (g : Geometry) (s : State) → In s → In (ended_state g s)
  unfolding ended_state
  end_keeps g s u = w.ends g s.registers s.memory u

  call_keeps : (g : Geometry) (v : Request) (x : Secret) (s : State) → In s → In (call_next g v x s)
  unfolding call_next
  call_keeps g v x s u =
      let k = ran_keeps g v x s u in
      cases In (ran g v x s).0.cut (cut_keeps g x.junk (reached (ran g v x s)) k) k

  raw_keeps : (g : Geometry) (f script : List ℕ) (log : ℕ) (junk : List ℕ) (reply : ℕ) (s : State) → In s → In (raw_next g f script log junk reply s)
  unfolding raw_next state_after
  raw_keeps g f script log junk reply s u =
      let k = sent_keeps g f s u in
      cases In (eqb (number_of (raw_refusal g (length s.memory.array) f reply log script (length junk))) 0)
      (cases In (eqb (scripted script 0) 2) (cut_keeps g junk (sent_state g f s) k)
      (after_keeps g (scripted script 0) (sent_state g f s).registers (sent_state g f s).memory k))
      u

  at_keeps : (p : Option Geometry) (o : Op) (s : State) → In s → In (next_at p o s)
  unfolding next_at called_by raw_left sent_by ended_by pin_outcome pinned_state cut_by
  at_keeps (Some g) (call a detail script payload junk log lent) s u = call_keeps g (asks g a detail script payload junk log lent) (secret payload detail junk lent) s u
  at_keeps (Some g) (raw frame script junk log reply) s u = raw_keeps g frame script (length log) junk (length reply) s u
  at_keeps (Some g) (straight frame reply) s u = cases (λ (l : Left). In l.state) (framed (length frame) (length reply)) (sent_keeps g frame s u) u
  at_keeps (Some g) busy_end s u = end_keeps g s u
  at_keeps (Some g) (cut junk) s u =
      cases (λ (l : Left). In l.state) (cut_fits g (length s.memory.array) (length junk)) (cut_keeps g junk s u) u
  at_keeps (Some g) (pin high) s u = w.pins high s.registers s.memory u
  at_keeps None (call a detail script payload junk log lent) s u = u
  at_keeps None (raw frame script junk log reply) s u = u
  at_keeps None (straight frame reply) s u = u
  at_keeps None (pin high) s u = w.pins high s.registers s.memory u
  at_keeps None busy_end s u = u
  at_keeps None (cut junk) s u = u

  pub op_keeps : (o : Op) (s : State) → In s → In (next_of o s)
  op_keeps o s u = subst In (sym (next_at_lem o s)) (at_keeps (part_in s) o s u)

  pub list_keeps : (os : List Op) (s : State) → In s → In (left_by os s)
  unfolding left_by
  list_keeps [] s u = u
  list_keeps (o ∷ os) s u = list_keeps os (next_of o s) (op_keeps o s u)

-- ---- the array's length, and buffer 1's

module _ (Q : ℕ → Type 0) where
  pub array_steady : Steady (λ r m. Q (length m.array))
  array_steady =
      record {
        frames = λ g f r m u. subst Q (sym (ap (λ (l : List ℕ). length l) (sent-array g r f m))) u;
        ends = λ g r m u. subst Q (sym (completed-array-length g r.operation m)) u;
        cuts = λ g junk r m u. subst Q (sym (lost-array-length g r.operation junk m)) u;
        pins = λ high r m u. u;
      }

  pub buffer_steady : Steady (λ r m. Q (length m.buffer1))
  buffer_steady =
      record {
        frames = λ g f r m u. subst Q (sym (sent-first-length g r f m)) u;
        ends = λ g r m u. subst Q (sym (completed-first-length g r.operation m)) u;
        cuts = λ g junk r m u. subst Q (sym (lost-first-length g r.operation junk m)) u;
        pins = λ high r m u. u;
      }

-- two things that are kept are kept together
pub both_steady : (P Q : Registers → Memory → Type 0) → Steady P → Steady Q → Steady (λ r m. P r m × Q r m)
both_steady P Q v w =
    record {
      frames = λ g f r m u. (v.frames g f r m u.0, w.frames g f r m u.1);
      ends = λ g r m u. (v.ends g r m u.0, w.ends g r m u.1);
      cuts = λ g junk r m u. (v.cuts g junk r m u.0, w.cuts g junk r m u.1);
      pins = λ high r m u. (v.pins high r m u.0, w.pins high r m u.1);
    }

-- ---- a state whose registers and buffers have their lengths

pub whole_steady : Steady (λ r m. Whole (chip_of r m))
whole_steady =
    record {
      frames = λ g f r m u.
          record {
            registers = control-lengths g r f u.registers;
            buffer1 = sent-first-length g r f m ∙ u.buffer1;
            buffer2 = sent_second_length g r f m ∙ u.buffer2;
          };
      ends = λ g r m u.
          record {
            registers = completed-lengths g r u.registers;
            buffer1 = completed-first-length g r.operation m ∙ u.buffer1;
            buffer2 = completed_second_length g r.operation m ∙ u.buffer2;
          };
      cuts = λ g junk r m u.
          record {
            registers = lost-lengths g r (reaching g r.operation junk) u.registers;
            buffer1 = lost-first-length g r.operation junk m ∙ u.buffer1;
            buffer2 = lost_second_length g r.operation junk m ∙ u.buffer2;
          };
      pins = λ high r m u.
          record {
            registers = record { protection = u.registers.protection; lockdown = u.registers.lockdown; user = u.registers.user; factory = u.registers.factory };
            buffer1 = u.buffer1;
            buffer2 = u.buffer2;
          };
    }

-- it is kept by every call and event, and by every list
pub whole_list : (os : List Op) (s : State) → Whole (chip_in s) → Whole (chip_in (left_by os s))
whole_list os s u = list_keeps (λ r m. Whole (chip_of r m)) whole_steady os s u

pub whole_op : (o : Op) (s : State) → Whole (chip_in s) → Whole (chip_in (next_of o s))
whole_op o s u = op_keeps (λ r m. Whole (chip_of r m)) whole_steady o s u
