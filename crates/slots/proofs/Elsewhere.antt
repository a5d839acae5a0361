-- A call programs and erases in its own slot alone, and a get nowhere: of its frames only 83 and 50 start anything that writes, they name pages of the call's own slot,
-- and a get sends neither. So every other page keeps its bytes, whatever the chip and the script; and read-back holds through calls elsewhere.
-- Assumes nothing.
use Rattle.std.specs.Prelude.{None, Option, Some}
use Prim.Native.Nat.{ℕ, zero, suc, ◌+◌, ◌*◌, ◌/◌, ◌%◌, ◌<◌, ◌≤◌}
use native.Mathlib.Omega.{arith}
use mathlib.Core.Path.{◌≡◌, refl, sym, ap, subst, ◌∙◌}
use mathlib.Core.Bool.{Bool, true, false, cond, ◌&&◌}
use mathlib.Core.List.{List, [], ◌∷◌}
use mathlib.Core.Logic.{◌⊎◌, inl, inr}
use lib.ListN.{length, replicate}
use lib.Dec.{eqb}
use borrow.Author.Tests.{eqb-true, eq-eqb, ne_eqb}
use Rattle.slices.specs.Lists.{tabulate}
use Rattle.geometry.specs.declared.Geometry.{Geometry}
use Rattle.geometry.specs.Parts.{part_of, address_at, page_at, page_of}
use Rattle.geometry.specs.Sectors.{sector_of}
use Rattle.geometry.proofs.Pages.{sized}
use Rattle.geometry.proofs.Addresses.{address-bytes, page_address}
use Rattle.commands.specs.declared.Buffer.TheVariants.{One}
use Rattle.commands.specs.declared.Decoded.{Decoded}
use Rattle.commands.specs.Decode.{decode_of}
use Rattle.commands.proofs.Frames.{decode_program, decode_erase, decode_compare}
use Rattle.registers.specs.declared.Operation.{Operation}
use Rattle.registers.specs.declared.Operation.TheVariants.{Idle, Program, EraseBlock, Compare}
use Rattle.registers.specs.declared.Registers.{Registers}
use Rattle.registers.specs.Operations.{writes}
use Rattle.registers.specs.Protection.{sealed}
use Rattle.registers.proofs.Operations.{writes_program, writes-block, writes-compare}
use Rattle.registers.proofs.Places.{placed_known}
use Rattle.control.specs.declared.Decision.{Decision}
use Rattle.control.specs.Control.{control, started, started_on, ignored, row_of, row_decided}
use Rattle.control.proofs.Rows.{control_cases}
use Rattle.control.proofs.Frames.{status_keeps, protection_keeps, lockdown_keeps}
use Rattle.state.specs.declared.Answer.TheVariants as Answers
use Rattle.state.specs.Answers.{number_of}
use Rattle.state.specs.Frames.{is_idle}
use Rattle.state.proofs.Status.{idle_is}
use Rattle.slots.specs.declared.Kind.{Kind}
use Rattle.slots.specs.declared.Kind.TheVariants.{Put, Patch, Get, Wipe}
use Rattle.slots.specs.declared.Command.TheVariants as C
use Rattle.slots.specs.declared.Step.{Step}
use Rattle.slots.specs.declared.Step.TheVariants.{Wait, Protection, Lockdown, Read, Load, Send, End}
use Rattle.state.specs.Memory.{State, chip_in}
use Rattle.state.specs.Outcomes.{part_in}
use Rattle.state.specs.Whole.{Whole}
use Rattle.slots.specs.Plans.{Asked, opening, is_asking, page_steps, pages, run_by, plan_by, plan_of, bound, step_at, is_end}
use Rattle.slots.specs.Driver.{Holding, opcode_of, shape_of, frame_byte, frame_of, is_ended}
use Rattle.slots.specs.Calls.{Request, Secret, Open, Closed, refusal_of, step_open, step_closed, start_open, start_closed}
use Rattle.slots.specs.Lists.{Op, call, put, get, pin, busy_end, cut, asks, secret, out_of, next_of, left_by}
use Rattle.slots.specs.Quiet.{Spares, started_by, QuietFrames, QuietCall, QuietBy, QuietIn, Returns}
use Rattle.slots.proofs.Parts.{cases}
use Rattle.slots.proofs.Places.{never, both, second, every, every_append}
use Rattle.slots.proofs.Accepted.{step-ended, accepted}
use Rattle.slots.proofs.Bound.{Ok, step_ok, begin_ok, start-ended}
use Rattle.slots.proofs.Blind.{load_registers, protection-registers, lockdown-registers}
use Rattle.slots.proofs.Sent.{addressed-few, read_keeps}
use Rattle.slots.proofs.Kept.{idle_spares, op_kept}
use Rattle.slots.proofs.ReadBack.{read_back}
use Rattle.slots.specs.declared.Detail.{Detail}
use Rattle.dates.specs.declared.Date.{Date}
use Rattle.dates.specs.declared.Term.{Term}
use Rattle.dates.specs.Calendar.{day_of}
use Rattle.slots.specs.Details.{period_of}

-- ---- what the steps of a plan name

-- a command names a page of the slot
unfoldable in_slot : ℕ → Step → Bool
in_slot slot (Wait c) = true
in_slot slot Protection = true
in_slot slot Lockdown = true
in_slot slot (Read p) = true
in_slot slot (Load p) = true
in_slot slot (Send c p) = eqb (p / 8) slot
in_slot slot End = true

-- no command
unfoldable is_still : Step → Bool
is_still (Wait c) = true
is_still Protection = true
is_still Lockdown = true
is_still (Read p) = true
is_still (Load p) = true
is_still (Send c p) = false
is_still End = true

-- what holds of each step holds of the one at any place
step-every : (f : Step → Bool) (xs : List Step) (i : ℕ) → f End ≡ true → every f xs ≡ true → f (step_at xs i) ≡ true
unfolding step_at every
step-every f [] i e h = e
step-every f (x ∷ xs) zero e h = both (f x) (every f xs) h
step-every f (x ∷ xs) (suc i) e h = step-every f xs i e (second (f x) (every f xs) h)

every-pages_in : (f : Step → Bool) (n k : ℕ) (steps : ℕ → List Step) → ((p : ℕ) → k ≤ p → p < k + n → every f (steps p) ≡ true) → every f (pages n k steps) ≡ true
unfolding every pages
every-pages_in f zero k steps e = refl
every-pages_in f (suc n) k steps e =
    every_append f (steps k) (pages n (suc k) steps) (e k (omega arith) (omega arith)) (every-pages_in f n (suc k) steps (λ p l u. e p (omega arith) (omega arith)))

opening_in : (slot : ℕ) (b : Bool) → every (in_slot slot) (opening b) ≡ true
unfolding every in_slot
opening_in slot true = refl
opening_in slot false = refl

page_in_lem : (k : Kind) (slot p : ℕ) → eqb (p / 8) slot ≡ true → every (in_slot slot) (page_steps k p) ≡ true
unfolding every in_slot page_steps
page_in_lem Put slot p e = λ i. e i && (e i && true)
page_in_lem Patch slot p e = λ i. e i && (e i && true)
page_in_lem Get slot p e = refl
page_in_lem Wipe slot p e = λ i. e i && true

run_in : (k : Kind) (g : Geometry) (slot : ℕ) → ((run_by k g slot).first ≡ 8 * slot) × ((run_by k g slot).count ≤ 8)
unfolding run_by
run_in Put g slot = (refl, omega arith)
run_in Patch g slot = (refl, omega arith)
run_in Get g slot = (refl, omega arith)
run_in Wipe g slot = (refl, omega arith)

-- a plan's commands name pages of its slot
plan_in : (k : Kind) (g : Geometry) (slot : ℕ) → every (in_slot slot) (plan_by k g slot) ≡ true
unfolding plan_by
plan_in k g slot =
    let z = run_in k g slot in
    every_append (in_slot slot) (opening (is_asking k)) (pages (run_by k g slot).count (run_by k g slot).first (page_steps k)) (opening_in slot (is_asking k))
    (every-pages_in (in_slot slot) (run_by k g slot).count (run_by k g slot).first (page_steps k)
    (λ p l u. page_in_lem k slot p (eq-eqb (p / 8) slot (omega (arith, z.0, z.1, l, u)))))

-- a get's plan has none
get_still : (g : Geometry) (slot : ℕ) → every is_still (plan_by Get g slot) ≡ true
unfolding plan_by is_asking run_by every is_still page_steps
get_still g slot = every-pages_in is_still 8 (8 * slot) (page_steps Get) (λ p l u. refl)

-- ---- what frames start

module _ (g : Geometry) (first end : ℕ) where
  -- a frame that leaves the registers starts nothing
  still : (r : Registers) (f : List ℕ) → (control g r f).registers ≡ r → Spares g first end (started_by g r f)
  unfolding started_by
  still r f e = go (is_idle r.operation) refl
    where
      go : (b : Bool) → is_idle r.operation ≡ b → Spares g first end (cond b (control g r f).registers.operation Idle)
      go true i = idle_spares g first end (control g r f).registers.operation (ap (λ (t : Registers). t.operation) e ∙ idle_is r.operation i)
      go false i = idle_spares g first end Idle refl

  -- a frame whose row starts an operation starts that operation or none
  starts : (r : Registers) (f : List ℕ) (d : Decoded) (x : Decision) → decode_of f ≡ d → row_of g r f d.lead d.effect ≡ x
      → (r.operation ≡ Idle → Spares g first end x.registers.operation) → Spares g first end (started_by g r f)
  unfolding started_by
  starts r f d x e h u = go (is_idle r.operation) refl
    where
      go : (b : Bool) → is_idle r.operation ≡ b → Spares g first end (cond b (control g r f).registers.operation Idle)
      go true i =
          let z = idle_is r.operation i in
          control_cases g r f (λ c. Spares g first end c.registers.operation) (idle_spares g first end r.operation z)
          (λ _. subst (λ (c : Decoded). Spares g first end (row_of g r f c.lead c.effect).registers.operation) (sym e)
          (subst (λ (c : Decision). Spares g first end c.registers.operation) (sym h) (u z)))
      go false i = idle_spares g first end Idle refl

  -- a program or erase, unless its sector is sealed
  starts_on : (r : Registers) (f : List ℕ) (d : Decoded) (page : ℕ) (o : Operation) → decode_of f ≡ d → row_of g r f d.lead d.effect ≡ started_on g r page o
      → Spares g first end o → Spares g first end (started_by g r f)
  unfolding started_on
  starts_on r f d page o e h u =
      starts r f d (started_on g r page o) e h
      (λ i. cases (λ (c : Decision). Spares g first end c.registers.operation) (sealed g r (sector_of g page)) {x = ignored r} {y = started r o}
      (idle_spares g first end r.operation i) u)

  module _ (n : ℕ) (part : part_of n ≡ Some g) (r : Registers) (k : Kind) (h : Holding) where
    -- the page that an 83 or a 50 names
    named : (opcode p : ℕ) → p < g.pages → page_at g (address_at (opcode ∷ g.field * p / 65536 % 256 ∷ g.field * p / 256 % 256 ∷ g.field * p % 256 ∷ []) 1) ≡ p
    named opcode p l = ap (page_at g) (address-bytes opcode (g.field * p) [] (addressed-few n g p part l)) ∙ page_address g p l (sized n g part).addressed

    -- a command on a page of a block that the pages do not touch
    send_spares : (c : _) (p : ℕ) → p < g.pages → ((q : ℕ) → first ≤ q → q < end → q / 8 ≡ p / 8 → ⊥) → Spares g first end (started_by g r (frame_of g k h (Send c p)))
    unfolding shape_of opcode_of frame_byte tabulate row_decided
    send_spares C.Program p l far =
        let a = g.field * p in
        let f : List ℕ = 0x83 ∷ a / 65536 % 256 ∷ a / 256 % 256 ∷ a % 256 ∷ [] in
        let e = named 0x83 p l in
        starts_on r f _ (page_at g (address_at f 1)) (Program One (page_at g (address_at f 1))) (decode_program (a / 65536 % 256) (a / 256 % 256) (a % 256) []) refl
        (λ q i j. writes_program g q One (page_at g (address_at f 1)) ∙ ne_eqb q (page_at g (address_at f 1)) (λ z. far q i j (ap (λ (x : ℕ). x / 8) (z ∙ e))))
    send_spares C.Erase p l far =
        let a = g.field * p in
        let f : List ℕ = 0x50 ∷ a / 65536 % 256 ∷ a / 256 % 256 ∷ a % 256 ∷ [] in
        let e = named 0x50 p l in
        starts_on r f _ (page_at g (address_at f 1)) (EraseBlock (page_at g (address_at f 1) / 8)) (decode_erase (a / 65536 % 256) (a / 256 % 256) (a % 256) []) refl
        (λ q i j. writes-block g q (page_at g (address_at f 1) / 8) ∙ ne_eqb (q / 8) (page_at g (address_at f 1) / 8) (λ z. far q i j (z ∙ ap (λ (x : ℕ). x / 8) e)))
    send_spares C.Compare p l far =
        let a = g.field * p in
        let f : List ℕ = 0x60 ∷ a / 65536 % 256 ∷ a / 256 % 256 ∷ a % 256 ∷ [] in
        starts r f _ (started r (Compare One (page_at g (address_at f 1)))) (decode_compare (a / 65536 % 256) (a / 256 % 256) (a % 256) []) refl
        (λ _ q i j. writes-compare g q One (page_at g (address_at f 1)))

    -- any other step starts nothing
    still_spares : (x : Step) → is_end x ≡ false → is_still x ≡ true → Spares g first end (started_by g r (frame_of g k h x))
    unfolding shape_of frame_byte tabulate is_end is_still
    still_spares (Wait c) o e = still r (0xD7 ∷ 0 ∷ []) (status_keeps g r (0 ∷ []))
    still_spares Protection o e = still r (frame_of g k h Protection) (protection-registers g r k h)
    still_spares Lockdown o e = still r (frame_of g k h Lockdown) (lockdown-registers g r k h)
    still_spares (Read p) o e = still r (frame_of g k h (Read p)) (read_keeps g r k h p)
    still_spares (Load p) o e = still r (frame_of g k h (Load p)) (load_registers g r k p h)
    still_spares (Send c p) o e = never e
    still_spares End o e = never (sym o)

    step-spares : (slot : ℕ) → 8 * slot + 8 ≤ g.pages → ((q : ℕ) → first ≤ q → q < end → q / 8 ≡ slot → ⊥) → (x : Step) → is_end x ≡ false → in_slot slot x ≡ true
        → Spares g first end (started_by g r (frame_of g k h x))
    unfolding in_slot is_still is_end
    step-spares slot fits far (Wait c) o e = still_spares (Wait c) refl refl
    step-spares slot fits far Protection o e = still_spares Protection refl refl
    step-spares slot fits far Lockdown o e = still_spares Lockdown refl refl
    step-spares slot fits far (Read p) o e = still_spares (Read p) refl refl
    step-spares slot fits far (Load p) o e = still_spares (Load p) refl refl
    step-spares slot fits far (Send c p) o e =
        let z : p / 8 ≡ slot = eqb-true (p / 8) slot e in
        send_spares c p (omega (arith, z)) (λ q i j y. far q i j (y ∙ z))
    step-spares slot fits far End o e = never (sym o)

-- ---- calls

-- a get, or a call on a slot that the pages do not touch
abbrev pub Apart : ℕ → ℕ → Asked → Type 0
Apart first end a = (a.kind ≡ Get) ⊎ ((q : ℕ) → first ≤ q → q < end → q / 8 ≡ a.slot → ⊥)

-- a call that has ended sends nothing
ended_quiet : (first end n : ℕ) (g : Geometry) (v : Request) (p : Open) (q : Closed) → is_ended p.course.stage ≡ true → QuietFrames first end n g v p q
ended_quiet first end zero g v p q e = tt
ended_quiet first end (suc n) g v p q e = (
  (λ f. never (sym f ∙ e)),
  ended_quiet first end n g v (step_open g v p q) (step_closed g v p q) (ap (λ (o : Open). is_ended o.course.stage) (step-ended g v p q e).0 ∙ e),
)

module _ (g : Geometry) (first end : ℕ) (v : Request) (x : Secret) (s : State) where
  -- what any step of the call starts
  any_step : (n : ℕ) → part_of n ≡ Some g → 8 * v.asked.slot + 8 ≤ g.pages → Apart first end v.asked → (i : ℕ) (r : Registers) (h : Holding)
      → is_end (step_at (plan_of g v.asked) i) ≡ false → Spares g first end (started_by g r (frame_of g v.asked.kind h (step_at (plan_of g v.asked) i)))
  unfolding in_slot is_still
  any_step n part fits (inl e) i r h o =
      still_spares g first end n part r v.asked.kind h (step_at (plan_of g v.asked) i) o
      (step-every is_still (plan_of g v.asked) i refl (ap (λ (k : Kind). every is_still (plan_by k g v.asked.slot)) e ∙ get_still g v.asked.slot))
  any_step n part fits (inr far) i r h o =
      step-spares g first end n part r v.asked.kind h v.asked.slot fits far (step_at (plan_of g v.asked) i) o
      (step-every (in_slot v.asked.slot) (plan_of g v.asked) i refl (plan_in v.asked.kind g v.asked.slot))

  frames_quiet : (k : ℕ) → part_of k ≡ Some g → 8 * v.asked.slot + 8 ≤ g.pages → Apart first end v.asked → (n : ℕ) (p : Open) (q : Closed)
      → Ok (plan_of g v.asked) v.asked.limit n p.course → QuietFrames first end n g v p q
  frames_quiet k part fits far zero p q w = tt
  frames_quiet k part fits far (suc n) p q w = (
    (λ e. any_step k part fits far p.course.place p.registers q.holding (w.step e)),
    frames_quiet k part fits far n (step_open g v p q) (step_closed g v p q) (step_ok g v p q n w),
  )

  pub call_quiet : part_in s ≡ Some g → Apart first end v.asked → QuietCall first end g v x s
  unfolding start_open
  call_quiet k far = go (eqb (number_of (refusal_of g n v)) 0) refl
    where
      n : ℕ
      n = length s.memory.array

      go : (b : Bool) → eqb (number_of (refusal_of g n v)) 0 ≡ b → QuietCall first end g v x s
      go true e =
          frames_quiet n (placed_known n s.registers.operation g k).0 (accepted g n v e).asked.fits far (bound g v.asked) (start_open g n v s.registers) (start_closed x s.memory) (begin_ok g n v e)
      go false e = ended_quiet first end (bound g v.asked) g v (start_open g n v s.registers) (start_closed x s.memory) (start-ended g n v e)

-- NOTHING ELSE IS TOUCHED: in any state and under any script, a call leaves every page outside its slot that the operation under way before it was not
-- writing; and a get leaves those of its slot too
pub call-spares : (a : Asked) (detail : Detail) (sc payload junk lg lent : List ℕ) (s : State) (g : Geometry) (p : ℕ) → part_in s ≡ Some g → p < g.pages
    → (a.kind ≡ Get) ⊎ (p / 8 ≡ a.slot → ⊥) → writes g s.registers.operation p ≡ false
    → page_of g p (next_of (call a detail sc payload junk lg lent) s).memory.array ≡ page_of g p s.memory.array
call-spares a detail sc payload junk lg lent s g p k l far w =
    (op_kept g p (suc p) (λ q. page_of g q s.memory.array) (call a detail sc payload junk lg lent) s
    (record { part = k; fits = l; spares = λ q i j. let e : q ≡ p = omega arith in ap (writes g s.registers.operation) e ∙ w; bytes = λ q i j. refl })
    (subst (λ (z : Option Geometry). QuietBy p (suc p) z (call a detail sc payload junk lg lent) s) (sym k)
    (call_quiet g p (suc p) (asks g a detail sc payload junk lg lent) (secret payload detail junk lent) s k (apart far)))
    ).bytes p (omega arith) (omega arith)
  where
    apart : (a.kind ≡ Get) ⊎ (p / 8 ≡ a.slot → ⊥) → Apart p (suc p) a
    apart (inl e) = inl e
    apart (inr f) = inr (λ q i j e. let z : q ≡ p = omega arith in f (ap (λ (x : ℕ). x / 8) (sym z) ∙ e))

-- ---- lists

-- gets of any slot, puts, patches and wipes of other slots, pin moves, busy ends and cuts
pub data Elsewhere (slot : ℕ) : Op → Type 0 where
  calls : (a : Asked) (detail : Detail) (sc payload junk lg lent : List ℕ) → (a.kind ≡ Get) ⊎ (a.slot ≡ slot → ⊥) → Elsewhere slot (call a detail sc payload junk lg lent)
  pins : (high : Bool) → Elsewhere slot (pin high)
  ends : Elsewhere slot busy_end
  cuts : (junk : List ℕ) → Elsewhere slot (cut junk)

abbrev pub AllElsewhere : ℕ → List Op → Type 0
AllElsewhere slot [] = Unit {0}
AllElsewhere slot (o ∷ os) = Elsewhere slot o × AllElsewhere slot os

op_quiet : (slot : ℕ) (o : Op) (s : State) (p : Option Geometry) → part_in s ≡ p → Elsewhere slot o → QuietBy (8 * slot) (8 * slot + 8) p o s
op_quiet slot o s None k u = tt
op_quiet slot o s (Some g) k (calls a detail sc payload junk lg lent far) =
    call_quiet g (8 * slot) (8 * slot + 8) (asks g a detail sc payload junk lg lent) (secret payload detail junk lent) s k (apart far)
  where
    apart : (a.kind ≡ Get) ⊎ (a.slot ≡ slot → ⊥) → Apart (8 * slot) (8 * slot + 8) a
    apart (inl e) = inl e
    apart (inr f) = inr (λ q i j e. f (omega (arith, e)))
op_quiet slot o s (Some g) k (pins high) = tt
op_quiet slot o s (Some g) k ends = tt
op_quiet slot o s (Some g) k (cuts junk) = tt

pub elsewhere_quiet : (slot : ℕ) (os : List Op) (s : State) → AllElsewhere slot os → QuietIn slot os s
elsewhere_quiet slot [] s u = tt
elsewhere_quiet slot (o ∷ os) s u = (op_quiet slot o s (part_in s) refl u.0, elsewhere_quiet slot os (next_of o s) u.1)

-- DEMAND 2, as a caller meets it
pub read_back_elsewhere : (slot limit : ℕ) (term : Term) (script recipe junk log : List ℕ) (s : State) → Whole (chip_in s)
    → (out_of (put slot limit term script recipe junk log) s).answer ≡ Answers.Done
    → (os : List Op) → AllElsewhere slot os
    → (limit' : ℕ) (today : Date) (script' junk' log' buffer : List ℕ)
    → Returns (period_of term) (day_of today) recipe buffer (out_of (get slot limit' today script' junk' log' buffer) (left_by os (next_of (put slot limit term script recipe junk log) s)))
read_back_elsewhere slot limit term script recipe junk log s b d os u =
    read_back slot limit term script recipe junk log s b d os (elsewhere_quiet slot os (next_of (put slot limit term script recipe junk log) s) u)
