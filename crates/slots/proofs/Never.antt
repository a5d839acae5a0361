-- NEVER 16: over the chip as modelled no call answers it. Where a call compares a page it has loaded, programmed and waited for it before (`Stores`), so that the
-- 60 finds page and buffer alike; and no other call compares.
-- Assumes nothing.
use Rattle.std.specs.Prelude.{None, Option, Some}
use Prim.Native.Nat.{ℕ, ◌+◌, ◌*◌, ◌≤◌, ◌<◌}
use native.Mathlib.Omega.{arith}
use mathlib.Core.Path.{◌≡◌, refl, sym, ap, subst, ◌∙◌}
use mathlib.Core.Bool.{Bool, true, false, cond}
use mathlib.Core.List.{List, [], ◌∷◌}
use lib.ListN.{length, length-replicate}
use lib.Dec.{eqb, leb, ltb}
use Rattle.geometry.specs.declared.Geometry.{Geometry}
use Rattle.geometry.specs.Parts.{slot_room, Sized, page_of}
use Rattle.geometry.proofs.Pages.{sized_own}
use Rattle.registers.proofs.Places.{placed_sized}
use Rattle.state.specs.declared.Answer.{Answer}
use Rattle.state.specs.declared.Answer.TheVariants as Answers
use Rattle.state.specs.Answers.{number_of}
use Rattle.state.specs.Memory.{Memory, State, chip_in}
use Rattle.state.specs.Completion.{completed_memory}
use Rattle.state.specs.Outcomes.{framed, left, Left, part_in, sent_by, ended_by, pin_outcome, cut_fits, cut_by}
use Rattle.state.specs.Whole.{Whole}
use Rattle.state.proofs.Lengths.{completed-array-length}
use Rattle.slots.specs.declared.Detail.{Detail}
use Rattle.slots.specs.declared.Kind.{Kind}
use Rattle.slots.specs.declared.Kind.TheVariants.{Put, Patch, Get, Wipe}
use Rattle.slots.specs.declared.Verdict.{Verdict}
use Rattle.slots.specs.declared.Verdict.TheVariants.{Good, Blank, Beyond}
use Rattle.slots.specs.Plans.{plan_by}
use Rattle.slots.specs.Records.{is_record, length_in, patch_verdict}
use Rattle.slots.specs.Details.{period_of, aim_of}
use Rattle.slots.specs.Driver.{Holding, verdict_answer}
use Rattle.slots.specs.Refusals.{bad_script, late_refusal, raw_refusal}
use Rattle.slots.specs.Calls.{Out, Request, Secret, refused, scripted, refusal_of, start_closed, ran, call_out, raw_sent, raw_out}
use Rattle.slots.specs.Lists.{Op, call, raw, straight, pin, busy_end, cut, asking, asks, secret, met, call_by, raw_by, out_of, next_of, run_list, NoMiscompare}
use Rattle.slots.specs.Exchanges.{Result, finished, stopped, answer_for}
use Rattle.slots.specs.Quiet.{page_in, Refuses}
use Rattle.slots.specs.Quiet as Q
use Rattle.slots.specs.Leaves.{slot_byte}
use Rattle.slots.proofs.Parts.{cases, out_at, out_at_lem}
use Rattle.slots.proofs.Places.{never}
use Rattle.slots.proofs.Accepted.{accepted}
use Rattle.slots.proofs.Refused.{refused-call}
use Rattle.slots.proofs.Driven.{Ends}
use Rattle.slots.proofs.Planned.{on_chip, Came, comes}
use Rattle.slots.proofs.Steady.{whole_op}
use Rattle.slots.proofs.Stores.{Writer, cold, Lawful, Wrote, call_stores}
use Rattle.slots.proofs.Written.{put_writer, put_lawful, wipe_writer, wipe_lawful, patch_writer, patch_lawful}
use Rattle.slots.proofs.Miscompare.{BeforeResult, before_other, follows_before, get_never}
use Rattle.slots.proofs.ReadBack.{refusal_refuses}
use Rattle.slots.proofs.Leaves.{page_in_slot}

-- another answer than 16
abbrev pub No16 : Answer → Type 0
No16 a = a ≡ Answers.Miscompare → ⊥

pub by_number : (a : Answer) → eqb (number_of a) 16 ≡ false → No16 a
unfolding number_of
by_number a e f = never (sym e ∙ ap (λ (b : Answer). eqb (number_of b) 16) f)

refuses_other : (a : Answer) → Refuses a → No16 a
unfolding number_of
refuses_other a Q.part = by_number Answers.Part refl
refuses_other a Q.frame = by_number Answers.Frame refl
refuses_other a Q.slot = by_number Answers.Slot refl
refuses_other a Q.limit = by_number Answers.Limit refl
refuses_other a Q.size = by_number Answers.Size refl
refuses_other a Q.log = by_number Answers.Log refl
refuses_other a Q.script = by_number Answers.Script refl
refuses_other a Q.device = by_number Answers.Device refl
refuses_other a Q.busy = by_number Answers.Busy refl
refuses_other a Q.lost = by_number Answers.Cut refl
refuses_other a Q.dates = by_number Answers.Dates refl

-- ---- put, patch, get, wipe

module _ (g : Geometry) (slot limit : ℕ) (detail : Detail) (script payload junk log lent : List ℕ) (s : State) (whole : Whole (chip_in s)) (k : part_in s ≡ Some g) where
  abbrev n : ℕ
  n = length s.memory.array

  abbrev x : Secret
  x = secret payload detail junk lent

  abbrev v : Kind → Request
  v K = asks g (asking K slot limit) detail script payload junk log lent

  sizes : Sized g n
  sizes = placed_sized n s.registers.operation g k

  few : Sized g (g.pages * g.size)
  few = sized_own g n sizes

  -- once what is under way has ended
  abbrev settled : List ℕ
  settled = (completed_memory g s.registers.operation s.memory).array

  settled_sized : Sized g (length settled)
  settled_sized = subst (Sized g) (sym (completed-array-length g s.registers.operation s.memory)) sizes

  patch_other : (end : ℕ) (bytes : List ℕ) → No16 (verdict_answer (patch_verdict g end bytes))
  unfolding patch_verdict verdict_answer number_of
  patch_other end bytes =
      let N : Verdict → Type 0 = λ v. No16 (verdict_answer v) in
      cases N (is_record g bytes) {x = cond (leb end (length_in bytes)) Good Beyond} {y = Blank}
      (cases N (leb end (length_in bytes)) {x = Good} {y = Beyond} (by_number Answers.Done refl) (by_number Answers.End refl)) (by_number Answers.Blank refl)

  good_other : (v : Verdict) → v ≡ Good → No16 (verdict_answer v)
  unfolding verdict_answer number_of
  good_other v e = subst (λ (w : Verdict). No16 (verdict_answer w)) (sym e) (by_number Answers.Done refl)

  module _ (K : Kind) (e : eqb (number_of (refusal_of g n (v K))) 0 ≡ true) (stage : (ran g (v K) x s).0.course.stage ≡ Some Answers.Done) where
    fits : 8 * slot + 8 ≤ g.pages
    fits = (accepted g n (v K) e).asked.fits

    stored : (W : Writer g K slot) → Lawful g K slot W fits few cold (plan_by K g slot) → W.Opens s.registers s.memory → W.Fresh (8 * slot) (start_closed x s.memory).holding
        → Wrote g K slot W (ran g (v K) x s)
    stored W law o f = call_stores g (v K) W x s k (omega (arith, sizes.most, whole.buffer1)) e fits few law o f stage

  -- a call that comes to its plan's end
  finished_other : (K : Kind) → eqb (number_of (refusal_of g n (v K))) 0 ≡ true → (ran g (v K) x s).0.course.stage ≡ Some Answers.Done
      → (K ≡ Get → No16 (verdict_answer (ran g (v K) x s).1.holding.verdict)) → No16 (verdict_answer (ran g (v K) x s).1.holding.verdict)
  unfolding put_writer patch_writer wipe_writer start_closed aim_of
  finished_other Put e t u =
      let w = stored Put e t (put_writer g slot (period_of detail.term) payload) (put_lawful g slot (period_of detail.term) payload (fits Put e t) few) tt (refl, refl, refl) in
      good_other (ran g (v Put) x s).1.holding.verdict w.fresh.2
  finished_other Patch e t u =
      let one : 1 ≤ g.size = omega (arith, sizes.some) in
      let old = slot_byte g slot settled in
      let w = stored Patch e t (patch_writer g slot detail.place payload old one) (patch_lawful g slot detail.place payload old one (fits Patch e t) few)
      (λ p l u. page_in_slot g slot settled p settled_sized (fits Patch e t) l u)
      (record { payload = refl; places = refl; verdict = λ f. absurd (f refl); version = λ f. absurd (f refl); room = omega (arith, sizes.most, length-replicate {A = ℕ} slot_room 0) }) in
      subst (λ (d : Verdict). No16 (verdict_answer d)) (sym (w.fresh.verdict (λ f. absurd (omega (arith, f))))) (patch_other (detail.place + length payload) (page_in g old 0))
  finished_other Get e t u = u refl
  finished_other Wipe e t u =
      let w = stored Wipe e t (wipe_writer g slot) (wipe_lawful g slot (fits Wipe e t) few) tt refl in
      good_other (ran g (v Wipe) x s).1.holding.verdict w.fresh

  call_never : (K : Kind) → No16 (call_out g (v K) x s).answer
  unfolding start_closed
  call_never K = go (eqb (number_of (refusal_of g n (v K))) 0) refl
    where
      ended : eqb (number_of (refusal_of g n (v K))) 0 ≡ true → (t : Result) → Ends (on_chip g (v K)) t (ran g (v K) x s) → BeforeResult t → (K ≡ Get → No16 (answer_for t)) → No16 (answer_for t)
      ended e (finished h) w b f =
          subst (λ (d : Holding). No16 (verdict_answer d.verdict)) w.1
          (finished_other K e w.0 (λ i. subst (λ (d : Holding). No16 (verdict_answer d.verdict)) (sym w.1) (f i)))
      ended e (stopped m) w b f = before_other m b

      go : (b : Bool) → eqb (number_of (refusal_of g n (v K))) 0 ≡ b → No16 (call_out g (v K) x s).answer
      go false e = subst (λ (o : Out). No16 o.answer) (sym (refused-call g (v K) x s e).out) (refuses_other (refusal_of g n (v K)) (refusal_refuses g n (v K) e))
      go true e =
          let c = comes g (v K) x s e in
          subst No16 (sym c.planned.answer)
          (ended e c.planned.result c.ends (follows_before c.planned.follows) (λ i. get_never g (asking K slot limit) i c.planned.follows refl))

-- ---- any call or event

raw_other : (g : Geometry) (array reply log junk : ℕ) (frame script : List ℕ) → No16 (raw_refusal g array frame reply log script junk)
unfolding raw_refusal late_refusal number_of
raw_other g array reply log junk frame script =
    cases No16 (framed (length frame) reply)
    (cases No16 (ltb log 6) (by_number Answers.Log refl) (cases No16 (bad_script g array script junk) (by_number Answers.Script refl) (by_number Answers.Done refl)))
    (by_number Answers.Frame refl)

met_other : (b : Bool) (x y : Left) → No16 x.answer → No16 y.answer → No16 (cond b x y).answer
met_other true x y u w = u
met_other false x y u w = w

at_never : (p : Option Geometry) (o : Op) (s : State) → part_in s ≡ p → Whole (chip_in s) → No16 (out_at p o s).answer
unfolding out_at call_by raw_by raw_out raw_sent sent_by ended_by pin_outcome cut_by number_of
at_never (Some g) (call a d script payload junk log lent) s e w = call_never g a.slot a.limit d script payload junk log lent s w e a.kind
at_never (Some g) (raw frame script junk log reply) s e w =
    cases (λ (o : Out). No16 o.answer) (eqb (number_of (raw_refusal g (length s.memory.array) frame (length reply) (length log) script (length junk))) 0)
    (cases No16 (eqb (scripted script 0) 2) (by_number Answers.Cut refl) (by_number Answers.Done refl)) (raw_other g (length s.memory.array) (length reply) (length log) (length junk) frame script)
at_never (Some g) (straight frame reply) s e w = met_other (framed (length frame) (length reply)) _ _ (by_number Answers.Done refl) (by_number Answers.Frame refl)
at_never (Some g) (pin high) s e w = by_number Answers.Done refl
at_never (Some g) busy_end s e w = by_number Answers.Done refl
at_never (Some g) (cut junk) s e w = met_other (cut_fits g (length s.memory.array) (length junk)) _ _ (by_number Answers.Done refl) (by_number Answers.Script refl)
at_never None (call a d script payload junk log lent) s e w = by_number Answers.Part refl
at_never None (raw frame script junk log reply) s e w = by_number Answers.Part refl
at_never None (straight frame reply) s e w = by_number Answers.Part refl
at_never None (pin high) s e w = by_number Answers.Done refl
at_never None busy_end s e w = by_number Answers.Part refl
at_never None (cut junk) s e w = by_number Answers.Part refl

pub op_never : (o : Op) (s : State) → Whole (chip_in s) → No16 (out_of o s).answer
op_never o s w = subst (λ (x : Out). No16 x.answer) (sym (out_at_lem o s)) (at_never (part_in s) o s refl w)

-- for every list, whatever compare bit, buffers, array, scripts and junk are
pub never_miscompares : (os : List Op) (s : State) → Whole (chip_in s) → NoMiscompare (run_list os s)
unfolding run_list
never_miscompares [] s w = tt
never_miscompares (o ∷ os) s w = (op_never o s w, never_miscompares os (next_of o s) (whole_op o s w))
