-- A call's lines are six bytes a frame, and the log has room for them: 6 is met where it has not.
-- Assumes nothing.
use Rattle.std.specs.Prelude.{None, Option, Some}
use Prim.Native.Nat.{ℕ, zero, suc, ◌+◌, ◌*◌, ◌≤◌}
use native.Mathlib.Omega.{arith}
use mathlib.Core.Path.{◌≡◌, refl, sym, ap, subst, ◌∙◌}
use mathlib.Core.Bool.{Bool, true, false}
use mathlib.Core.List.{List, [], ◌++◌}
use lib.ListN.{length, length-append}
use lib.Dec.{eqb}
use borrow.Author.Tests.{eqb-true}
use Rattle.geometry.specs.declared.Geometry.{Geometry}
use Rattle.state.specs.declared.Answer.{Answer}
use Rattle.state.specs.Answers.{number_of}
use Rattle.state.specs.Memory.{State}
use Rattle.state.specs.Outcomes.{part_in}
use Rattle.blocks.specs.Promises.{held_in}
use Rattle.slots.specs.declared.Detail.{Detail}
use Rattle.slots.specs.Plans.{Asked, stated, bound}
use Rattle.slots.specs.Driver.{is_ended}
use Rattle.slots.specs.Refusals.{raw_refusal}
use Rattle.slots.specs.Calls.{Out, Request, Secret, Open, Closed, refused, outline, sends, open_after, step_open, step_closed, run, refusal_of, start_open, start_closed, ran, out_from, call_out, raw_sent, raw_out}
use Rattle.slots.specs.Lists.{Op, call, raw, straight, pin, busy_end, cut, asks, secret, call_by, raw_by, out_of, bound_of, log_of}
use Rattle.slots.proofs.Parts.{cases}
use Rattle.slots.proofs.Counts.{bounds}
use Rattle.slots.proofs.Accepted.{picked, accepted}
use Rattle.slots.proofs.Driven.{other}
use Rattle.slots.proofs.Bound.{within-bound}
use Rattle.slots.proofs.Refused.{refused-call}
use Rattle.runs.proofs.Raws.{raw_taken}

-- ---- a run

abbrev Six : Open → Type 0
Six p = length p.lines ≡ 6 * p.frames

step_six : (g : Geometry) (v : Request) (p : Open) (q : Closed) → Six p → Six (step_open g v p q)
unfolding step_open open_after outline
step_six g v p q e =
    let more : (f : List ℕ) → length (p.lines ++ outline f) ≡ 6 * (p.frames + 1) = λ f. length-append p.lines (outline f) ∙ omega (arith, e) in
    cases Six (is_ended p.course.stage) e (more (sends g v p q))

run_six : (n : ℕ) (g : Geometry) (v : Request) (p : Open) (q : Closed) → Six p → Six (run n g v p q).0
unfolding run
run_six zero g v p q e = e
run_six (suc n) g v p q e = run_six n g v (step_open g v p q) (step_closed g v p q) (step_six g v p q e)

ran_six : (g : Geometry) (v : Request) (x : Secret) (s : State) → Six (ran g v x s).0
unfolding ran start_open
ran_six g v x s = run_six (bound g v.asked) g v (start_open g (length s.memory.array) v s.registers) (start_closed x s.memory) refl

-- ---- an outcome

-- six bytes a frame, and at most so many
pub record Fits (log : ℕ) (o : Out) : Type 0 where
  pub six : length o.lines ≡ 6 * o.frames
  pub room : 6 * o.frames ≤ log

none-fits : (log : ℕ) (o : Out) → o.lines ≡ [] → o.frames ≡ 0 → Fits log o
none-fits log o e f = record { six = ap length e ∙ omega (arith, f); room = omega (arith, f) }

call_fits : (g : Geometry) (a : Asked) (detail : Detail) (script payload junk log lent : List ℕ) (s : State) → part_in s ≡ Some g
    → Fits (length log) (call_out g (asks g a detail script payload junk log lent) (secret payload detail junk lent) s)
unfolding call_out out_from out_of call_by bound_of
call_fits g a detail script payload junk log lent s p = go (eqb (number_of (refusal_of g n v)) 0) refl
  where
    n : ℕ
    n = length s.memory.array

    v : Request
    v = asks g a detail script payload junk log lent

    x : Secret
    x = secret payload detail junk lent

    few : (call_out g v x s).frames ≤ stated a.kind a.limit
    few =
        subst (λ (q : Option Geometry). (call_by q a detail script payload junk log lent s).frames ≤ stated a.kind a.limit) p
        (within-bound (call a detail script payload junk log lent) s).frames

    go : (b : Bool) → eqb (number_of (refusal_of g n v)) 0 ≡ b → Fits (length log) (call_out g v x s)
    go true e =
        let w = accepted g n v e in
        record { six = ran_six g v x s; room = omega (arith, few, w.lent.room, bounds a.kind g a.slot a.limit) }
    go false e =
        let w = refused-call g v x s e in
        none-fits (length log) (call_out g v x s) (ap (λ (o : Out). o.lines) w.out) (ap (λ (o : Out). o.frames) w.out)

raw-fits : (g : Geometry) (f script junk log reply held xs : List ℕ) → part_in (held_in held xs) ≡ Some g
    → Fits (length log) (raw_out g f script (length log) (length junk) reply (held_in held xs))
unfolding raw_out raw_sent outline
raw-fits g f script junk log reply held xs p = go (eqb (number_of refusal) 0) refl
  where
    refusal : Answer
    refusal = raw_refusal g (length xs) f (length reply) (length log) script (length junk)

    go : (b : Bool) → eqb (number_of refusal) 0 ≡ b → Fits (length log) (raw_out g f script (length log) (length junk) reply (held_in held xs))
    go true e =
        let t = raw_taken f script junk log reply held xs g p (eqb-true (number_of refusal) 0 e) in
        subst (Fits (length log)) (sym (picked (eqb (number_of refusal) 0) (raw_sent g script f (held_in held xs)) (refused refusal reply) e))
        (record { six = refl; room = omega (arith, t.1) })
    go false e =
        subst (Fits (length log)) (sym (other (eqb (number_of refusal) 0) (raw_sent g script f (held_in held xs)) (refused refusal reply) e))
        (none-fits (length log) (refused refusal reply) refl refl)

pub lines_fit : (o : Op) (held xs : List ℕ) → Fits (length (log_of o)) (out_of o (held_in held xs))
unfolding out_of call_by raw_by log_of
lines_fit (call a detail script payload junk log lent) held xs = go (part_in (held_in held xs)) refl
  where
    go : (p : Option Geometry) → part_in (held_in held xs) ≡ p → Fits (length log) (call_by p a detail script payload junk log lent (held_in held xs))
    go (Some g) p = call_fits g a detail script payload junk log lent (held_in held xs) p
    go None p = none-fits (length log) _ refl refl
lines_fit (raw f script junk log reply) held xs = go (part_in (held_in held xs)) refl
  where
    go : (p : Option Geometry) → part_in (held_in held xs) ≡ p → Fits (length log) (raw_by p f script junk log reply (held_in held xs))
    go (Some g) p = raw-fits g f script junk log reply held xs p
    go None p = none-fits (length log) _ refl refl
lines_fit (straight frame reply) held xs = none-fits 0 _ refl refl
lines_fit (pin high) held xs = none-fits 0 _ refl refl
lines_fit busy_end held xs = none-fits 0 _ refl refl
lines_fit (cut junk) held xs = none-fits 0 _ refl refl
