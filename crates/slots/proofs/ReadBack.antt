-- DEMAND 2: a recipe whose put answered 0 comes back from every later get that is neither refused nor cut, until a frame programs or erases in its slot.
-- A put that answers 0 leaves the record in the slot (`put_holds`), what starts nothing in the slot leaves it there (`list_holds`), a get of a slot that
-- holds a record returns it (`get_returns`); and a patch that answers 0 leaves the patched recipe (`patch-holds`).
-- Assumes nothing.
use Rattle.std.specs.Prelude.{None, Option, Some}
use Prim.Native.Nat.{ℕ, ◌+◌, ◌*◌, ◌/◌, ◌%◌, ◌<◌, ◌≤◌}
use native.Mathlib.Omega.{arith}
use mathlib.Core.Path.{◌≡◌, refl, sym, ap, subst, ◌∙◌}
use mathlib.Core.Bool.{Bool, true, false, cond, not, ◌&&◌, ◌||◌}
use mathlib.Core.List.{List, []}
use mathlib.Core.Logic.{inl, inr}
use lib.ListN.{length, get_or, take, drop, length-replicate}
use lib.Dec.{eqb, ltb, leb}
use borrow.Author.Tests.{ltb-false}
use Rattle.slices.specs.Lists.{over, splice}
use Rattle.slices.proofs.Laws.{get_or-tabulate, tabulate-same, length-splice, splice-zero, splice-part, over_nil}
use Rattle.geometry.specs.declared.Geometry.{Geometry}
use Rattle.geometry.specs.Parts.{part_of, slot_room, Sized}
use Rattle.geometry.proofs.Pages.{sized_own}
use Rattle.registers.specs.declared.Operation.{Operation}
use Rattle.registers.specs.declared.Operation.TheVariants.{Idle}
use Rattle.registers.specs.Operations.{within, placed}
use Rattle.registers.proofs.Places.{known_placed, placed_sized}
use Rattle.state.specs.declared.Answer.{Answer}
use Rattle.state.specs.declared.Answer.TheVariants as Answers
use Rattle.state.specs.Answers.{number_of}
use Rattle.state.specs.Memory.{State, chip_in}
use Rattle.slots.specs.declared.Kind.TheVariants.{Put, Patch, Get}
use Rattle.slots.specs.declared.Verdict.{Verdict}
use Rattle.slots.specs.declared.Verdict.TheVariants.{Good, Blank, Beyond, Outside, Miscompared}
use Rattle.state.specs.Outcomes.{part_in, cut_state}
use Rattle.state.specs.Whole.{Whole}
use Rattle.slots.specs.Plans.{bound, is_asking, page_steps, plan_by, Asked}
use Rattle.slots.specs.Records.{slot_size, head_size, limit_of, image, changed, get_verdict, patch_verdict, version_of, version_in, is_within}
use Rattle.slots.specs.Refusals.{is_over, is_short, bad_script, early_refusal, late_refusal, or_else, call_refusal, flaws_in}
use Rattle.slots.specs.Driver.{Holding, verdict_answer, weighed, told_by}
use Rattle.slots.specs.Calls.{Out, Request, Secret, Open, Closed, refusal_of, start_closed, ran, reached, count_by, count_of, delivered, out_from, answer_in, answer_at, call_out, call_next}
use Rattle.slots.specs.Lists.{Op, put, patch, get, call, asking, asks, secret, call_by, out_of, called_by, next_of, left_by}
use Rattle.slots.specs.Exchanges.{Result, finished, stopped, answer_for}
use Rattle.slots.specs.Quiet.{page_in, KeptSlot, Holds, QuietIn, Refuses, part, slot, limit, size, log, script, device, busy, lost, Returns, Small, dates, Delivers}
use Rattle.slots.proofs.Parts.{cases}
use Rattle.slots.proofs.Places.{never, known, every, every_plan}
use Rattle.slots.proofs.Steady.{whole_op, whole_list}
use Rattle.slots.proofs.Accepted.{accepted}
use Rattle.slots.proofs.Refused.{refused-call}
use Rattle.slots.proofs.Driven.{Ends}
use Rattle.slots.proofs.Planned.{comes, on_chip, is_free, Halts, ResultHalts, free_halts}
use Rattle.slots.proofs.Planned as H
use Rattle.slots.proofs.Kept.{idle_spares, end_kept, list_kept}
use Rattle.slots.proofs.Stores.{Writer, Wrote, call_stores}
use Rattle.slots.proofs.Written.{put_writer, put_lawful, patch_writer, patch_lawful}
use Rattle.slots.proofs.Gets.{call-reads}
use Rattle.slots.proofs.Image.{head-some, head-most, version_told, length-told, get-told, patch-ends, recipe_told, image-patched}
use Rattle.slots.specs.declared.Detail.{Detail}
use Rattle.slots.specs.declared.Period.{Period}
use Rattle.dates.specs.declared.Date.{Date}
use Rattle.dates.specs.declared.Term.{Term}
use Rattle.dates.specs.declared.Term.TheVariants.{Unlimited, Between}
use Rattle.dates.specs.Calendar.{day_of, is_date}
use Rattle.slots.specs.Details.{period_of, aim_of, storing, changing, reading}
use Rattle.dates.proofs.Laws.{at_most}

-- ---- what an answer tells of the end

zero-done : (n : Answer) → eqb (number_of n) 0 ≡ true → n ≡ Answers.Done
unfolding number_of
zero-done Answers.Done e = refl
zero-done Answers.Part e = never e
zero-done Answers.Frame e = never e
zero-done Answers.Slot e = never e
zero-done Answers.Limit e = never e
zero-done Answers.Size e = never e
zero-done Answers.Log e = never e
zero-done Answers.Script e = never e
zero-done Answers.Device e = never e
zero-done Answers.Busy e = never e
zero-done Answers.Sealed e = never e
zero-done Answers.Cut e = never e
zero-done Answers.Blank e = never e
zero-done Answers.End e = never e
zero-done Answers.Dates e = never e
zero-done Answers.Term e = never e
zero-done Answers.Miscompare e = never e

good_is : (v : Verdict) → verdict_answer v ≡ Answers.Done → v ≡ Good
unfolding verdict_answer
good_is Good e = refl
good_is Blank e = let z : ◌≡◌ {A = ℕ} 0 1 = cc in absurd (omega arith)
good_is Beyond e = let z : ◌≡◌ {A = ℕ} 0 1 = cc in absurd (omega arith)
good_is Outside e = let z : ◌≡◌ {A = ℕ} 0 1 = cc in absurd (omega arith)
good_is Miscompared e = let z : ◌≡◌ {A = ℕ} 0 1 = cc in absurd (omega arith)

-- 0 is the plan's end, and a good verdict
pub answer-done : (t : Option Answer) (v : Verdict) → answer_in (told_by t v) ≡ Answers.Done → (t ≡ Some Answers.Done) × (v ≡ Good)
unfolding answer_in told_by weighed number_of
answer-done None v e = let z : ◌≡◌ {A = ℕ} 0 1 = cc in absurd (omega arith)
answer-done (Some n) v e = go (eqb (number_of n) 0) refl e
  where
    go : (b : Bool) → eqb (number_of n) 0 ≡ b → cond b (verdict_answer v) n ≡ Answers.Done → (Some n ≡ Some Answers.Done) × (v ≡ Good)
    go true z h = (ap (λ (a : Answer). Some a) (zero-done n z), good_is v h)
    go false z h = never (sym z ∙ ap (λ (a : Answer). eqb (number_of a) 0) h)

module _ (g : Geometry) (v : Request) (x : Secret) (s : State) where
  -- a call that answers 0 was not refused
  pub done-accepted : (call_out g v x s).answer ≡ Answers.Done → eqb (number_of (refusal_of g (length s.memory.array) v)) 0 ≡ true
  unfolding number_of
  done-accepted d = go (eqb (number_of (refusal_of g (length s.memory.array) v)) 0) refl
    where
      go : (b : Bool) → eqb (number_of (refusal_of g (length s.memory.array) v)) 0 ≡ b → eqb (number_of (refusal_of g (length s.memory.array) v)) 0 ≡ true
      go true e = e
      go false e = ap (λ (a : Answer). eqb (number_of a) 0) (sym (ap (λ (o : Out). o.answer) (refused-call g v x s e).out) ∙ d)

  -- and came to its end
  pub done-stage : (call_out g v x s).answer ≡ Answers.Done → ((ran g v x s).0.course.stage ≡ Some Answers.Done) × ((ran g v x s).1.holding.verdict ≡ Good)
  unfolding call_out out_from
  done-stage d = answer-done (ran g v x s).0.course.stage (ran g v x s).1.holding.verdict d

-- a call that answers 0 has a known part
known_part : (a : Asked) (detail : Detail) (sc payload junk lg lent : List ℕ) (s : State) → (out_of (call a detail sc payload junk lg lent) s).answer ≡ Answers.Done → (Q : Option Geometry → Type 0)
    → ((g : Geometry) → part_in s ≡ Some g → (call_out g (asks g a detail sc payload junk lg lent) (secret payload detail junk lent) s).answer ≡ Answers.Done → Q (Some g)) → Q (part_in s)
unfolding out_of call_by
known_part a detail sc payload junk lg lent s d Q on = go (part_in s) refl d
  where
    go : (p : Option Geometry) → part_in s ≡ p → (call_by p a detail sc payload junk lg lent s).answer ≡ Answers.Done → Q p
    go (Some g) e h = on g e h
    go None e h = let z : ◌≡◌ {A = ℕ} 0 1 = cc in absurd (omega arith)

-- ---- a written slot

-- an idle chip has its part
ready-placed : (n : ℕ) (o : Operation) (g : Geometry) → part_of n ≡ Some g → o ≡ Idle → placed n o ≡ Some g
unfolding within
ready-placed n o g e i = ap (λ (x : Operation). placed n x) i ∙ known_placed n Idle g e refl

-- the state after a call that wrote its slot
pub wrote_kept : (g : Geometry) (v : Request) (W : Writer g v.asked.kind v.asked.slot) (x : Secret) (s : State) → 8 * v.asked.slot + 8 ≤ g.pages
    → Wrote g v.asked.kind v.asked.slot W (ran g v x s) → KeptSlot g v.asked.slot W.bytes (call_next g v x s)
unfolding call_next
wrote_kept g v W x s fits w =
    let z = ran g v x s in
    subst (λ (b : Bool). KeptSlot g v.asked.slot W.bytes (cond b (cut_state g x.junk (reached z)) (reached z))) (sym w.uncut)
    (record {
      part = ready-placed (length z.1.memory.array) z.0.registers.operation g w.room.0 w.ready.0;
      fits = fits;
      spares = idle_spares g (8 * v.asked.slot) (8 * v.asked.slot + 8) z.0.registers.operation w.ready.0;
      bytes = w.pages;
    })

-- room for a page in buffer 1
whole_room : (g : Geometry) (n : ℕ) (s : State) → Sized g n → Whole (chip_in s) → g.size ≤ length s.memory.buffer1
whole_room g n s z w = omega (arith, z.most, w.buffer1)

-- ---- a put

-- a day number fits four bytes
pub day_most : (d : Date) → day_of d ≤ 73048
unfolding day_of
day_most d = known (λ (n : ℕ). n ≤ 73048) (is_date d) (at_most d) (λ _. omega arith)

small_term : (term : Term) → Small (period_of term)
unfolding period_of
small_term Unlimited = tt
small_term (Between first last) = (omega (arith, day_most first), omega (arith, day_most last))

pub put_holds : (sl lim : ℕ) (term : Term) (sc recipe junk lg : List ℕ) (s : State) → Whole (chip_in s)
    → (out_of (put sl lim term sc recipe junk lg) s).answer ≡ Answers.Done → Holds sl (period_of term) recipe (next_of (put sl lim term sc recipe junk lg) s)
unfolding next_of called_by flaws_in is_over is_short put_writer start_closed aim_of
put_holds sl lim term sc recipe junk lg s w d =
    known_part (asking Put sl lim) (storing term) sc recipe junk lg [] s d
    (λ p. Holds sl (period_of term) recipe (called_by p (asking Put sl lim) (storing term) sc recipe junk lg [] s)) (λ g k h.
    let v = asks g (asking Put sl lim) (storing term) sc recipe junk lg [] in
    let x = secret recipe (storing term) junk [] in
    let most = limit_of g (version_of (period_of term)) in
    let W = put_writer g sl (period_of term) recipe in
    let n = length s.memory.array in
    let e = done-accepted g v x s h in
    let a = (accepted g n v e).asked in
    let z = placed_sized n s.registers.operation g k in
    let few = sized_own g n z in
    record {
      geometry = g;
      limit = ltb-false most (length recipe) (or_left (ltb most (length recipe)) a.size);
      small = small_term term;
      kept =
          wrote_kept g v W x s a.fits
          (call_stores g v W x s k (whole_room g n s z w) e a.fits few (put_lawful g sl (period_of term) recipe a.fits few) tt (refl, refl, refl) (done-stage g v x s h).0);
    })
  where
    or_left : (b : Bool) → (b || false) ≡ false → b ≡ false
    or_left true e = e
    or_left false e = e

pub list_holds : (sl : ℕ) (period : Period) (recipe : List ℕ) (os : List Op) (s : State) → Holds sl period recipe s → QuietIn sl os s → Holds sl period recipe (left_by os s)
list_holds sl period recipe os s u q =
    record {
      geometry = u.geometry;
      limit = u.limit;
      small = u.small;
      kept = list_kept u.geometry (8 * sl) (8 * sl + 8) (page_in u.geometry (image period recipe)) os s u.kept q;
    }

-- ---- a get

-- a refusal is one of 1 to 9, or 14
early_refuses : (g : Geometry) (v : Request) → (eqb (number_of (early_refusal g v.asked v.flaws)) 0 ≡ false) → Refuses (early_refusal g v.asked v.flaws)
unfolding early_refusal number_of
early_refuses g v =
    let Q : Answer → Type 0 = λ a. eqb (number_of a) 0 ≡ false → Refuses a in
    cases Q (leb (g.pages / 8) v.asked.slot) (λ _. slot)
    (cases Q (not (leb 1 v.asked.limit && leb v.asked.limit 1000)) (λ _. limit)
    (cases Q v.flaws.size (λ _. size) (cases Q v.flaws.dates (λ _. dates) (λ (e : true ≡ false). never (sym e)))))

late_refuses : (g : Geometry) (n lg least : ℕ) (sc : List ℕ) (junk : ℕ) → eqb (number_of (late_refusal g n lg least sc junk)) 0 ≡ false → Refuses (late_refusal g n lg least sc junk)
unfolding late_refusal number_of
late_refuses g n lg least sc junk =
    let Q : Answer → Type 0 = λ a. eqb (number_of a) 0 ≡ false → Refuses a in
    cases Q (ltb lg least) (λ _. log) (cases Q (bad_script g n sc junk) (λ _. script) (λ (e : true ≡ false). never (sym e)))

pub refusal_refuses : (g : Geometry) (n : ℕ) (v : Request) → eqb (number_of (refusal_of g n v)) 0 ≡ false → Refuses (refusal_of g n v)
unfolding call_refusal or_else
refusal_refuses g n v = go (eqb (number_of (early_refusal g v.asked v.flaws)) 0) refl
  where
    b : Answer
    b = late_refusal g n v.log (6 * bound g v.asked) v.script v.junk

    go : (d : Bool) → eqb (number_of (early_refusal g v.asked v.flaws)) 0 ≡ d → eqb (number_of (cond d b (early_refusal g v.asked v.flaws))) 0 ≡ false
        → Refuses (cond d b (early_refusal g v.asked v.flaws))
    go true e h = late_refuses g n v.log (6 * bound g v.asked) v.script v.junk h
    go false e h = early_refuses g v e

halts_refuses : (n : Answer) → Halts n → Refuses n
halts_refuses n H.device = device
halts_refuses n H.busy = busy
halts_refuses n H.lost = lost

-- a get tests no seal
get-free : (g : Geometry) (sl : ℕ) → every is_free (plan_by Get g sl) ≡ true
unfolding every is_free is_asking page_steps
get-free g sl = every_plan is_free Get g sl refl (λ p. refl)

-- the first page of a slot that holds a record begins as the record does
page_begins : (g : Geometry) (period : Period) (recipe : List ℕ) → 11 ≤ g.size → (i : ℕ) → i < head_size (version_of period)
    → get_or (page_in g (image period recipe) 0) i 0 ≡ image period recipe i
page_begins g period recipe some i k =
    let e : g.size * 0 + i ≡ i = omega arith in
    get_or-tabulate g.size (λ i. image period recipe (g.size * 0 + i)) i 0 (omega (arith, head-most period)) ∙ ap (image period recipe) e

module _ (g : Geometry) (period : Period) (recipe : List ℕ) (fits : length recipe ≤ limit_of g (version_of period)) (few : 8 * g.size ≤ slot_room) (some : 11 ≤ g.size) where
  abbrev head : ℕ
  head = head_size (version_of period)

  short : head + length recipe ≤ 8 * g.size
  unfolding limit_of slot_size
  short = omega (arith, fits, head-most period)

  -- what page 0 of the record is judged
  first-told : Small period → (today : ℕ) → get_verdict g today (page_in g (image period recipe) 0) ≡ cond (is_within period today) Good Outside
  first-told z today = get-told period recipe (page_in g (image period recipe) 0) (omega (arith, short)) z (page_begins g period recipe some) g fits today

  -- the outcome of a get that has read the record: inside its term, and outside it
  returned : (staged buffer lines : List ℕ) (frames polls : ℕ) (a : Answer) → limit_of g 1 ≤ length buffer → 8 * g.size ≤ length staged
      → ((i : ℕ) → i < 8 * g.size → get_or staged i 0 ≡ image period recipe i) → (b : Bool) → a ≡ verdict_answer (cond b Good Outside)
      → Delivers b recipe buffer (record { answer = a; lines = lines; frames = frames; polls = polls; count = count_of Get a staged; lent = delivered (count_of Get a staged) staged buffer })
  unfolding count_of count_by number_of verdict_answer limit_of slot_size head_size
  returned staged buffer lines frames polls a room l same true e =
      let begins : (i : ℕ) → i < head → get_or staged i 0 ≡ image period recipe i = λ i k. same i (omega (arith, some, head-most period)) in
      let n : count_of Get a staged ≡ length recipe = ap (λ (x : Answer). count_of Get x staged) e ∙ length-told period recipe staged (omega (arith, short)) begins in
      let body : take (count_of Get a staged) (drop (head_size (version_in staged)) staged) ≡ recipe =
      (λ i. take (n i) (drop (head_size (version_told period recipe staged (omega (arith, short)) begins i)) staged))
      ∙ recipe_told period recipe staged (omega (arith, l, short)) (λ i k. same i (omega (arith, short))) in (
        e,
        n,
        ap (λ (k : ℕ). take k (delivered (count_of Get a staged) staged buffer)) n
            ∙ ap (λ (x : List ℕ). take (length recipe) (over x buffer)) body
            ∙ ap (take (length recipe)) (sym (splice-zero recipe buffer))
            ∙ splice-part 0 recipe buffer (omega (arith, short, room, head-some period)),
      )
  returned staged buffer lines frames polls a room l same false e =
      let n : count_of Get a staged ≡ 0 = ap (λ (x : Answer). count_of Get x staged) e in (
        e,
        n,
        ap (λ (k : ℕ). delivered k staged buffer) n ∙ over_nil buffer,
      )

pub get_returns : (sl : ℕ) (s : State) (period : Period) (recipe : List ℕ) → Holds sl period recipe s → (lim : ℕ) (today : Date) (sc junk lg buffer : List ℕ)
    → Returns period (day_of today) recipe buffer (out_of (get sl lim today sc junk lg buffer) s)
unfolding out_of call_by call_out out_from flaws_in is_over is_short verdict_answer aim_of
get_returns sl s period recipe u lim today sc junk lg buffer =
    subst (λ (p : Option Geometry). Returns period (day_of today) recipe buffer (call_by p (asking Get sl lim) (reading today) sc [] junk lg buffer s)) (sym u.kept.part) (go (eqb (number_of (refusal_of g n v)) 0) refl)
  where
    g : Geometry
    g = u.geometry

    n : ℕ
    n = length s.memory.array

    v : Request
    v = asks g (asking Get sl lim) (reading today) sc [] junk lg buffer

    x : Secret
    x = secret [] (reading today) junk buffer

    z : Open × Closed
    z = ran g v x s

    sizes : Sized g n
    sizes = placed_sized n s.registers.operation g u.kept.part

    ended : (t : Result) → Ends (on_chip g v) t (ran g v x s) → (call_out g v x s).answer ≡ answer_for t → ResultHalts t → eqb (number_of (refusal_of g n v)) 0 ≡ true
        → Returns period (day_of today) recipe buffer (call_out g v x s)
    ended (finished h) w a f e =
        let some = sizes.some in
        let most = sizes.most in
        let got = call-reads g sl lim sc (length lg) (length junk) v.flaws (image period recipe) x s (omega (arith, some)) u.kept e w.0 in
        let told : h.verdict ≡ cond (is_within period (day_of today)) Good Outside =
        sym (ap (λ (k : Holding). k.verdict) w.1) ∙ got.verdict ∙ first-told g period recipe u.limit (omega (arith, most)) (omega (arith, some)) u.small (day_of today) in
        inr (returned g period recipe u.limit (omega (arith, most)) (omega (arith, some)) z.1.holding.staged buffer z.0.lines z.0.frames z.0.polls (answer_at z)
        (ltb-false (length buffer) (limit_of g 1) (accepted g n v e).asked.size) got.room got.bytes (is_within period (day_of today)) (a ∙ ap verdict_answer told))
    ended (stopped k) w a f e = inl (subst Refuses (sym a) (halts_refuses k f))

    go : (b : Bool) → eqb (number_of (refusal_of g n v)) 0 ≡ b → Returns period (day_of today) recipe buffer (call_out g v x s)
    go false e = inl (subst (λ (o : Out). Refuses o.answer) (sym (refused-call g v x s e).out) (refusal_refuses g n v e))
    go true e =
        let c = comes g v x s e in
        ended c.planned.result c.ends c.planned.answer (free_halts c.planned.follows (get-free g sl)) e

-- ---- a patch

-- a patch that answers 0 in a slot that holds a recipe leaves that recipe with the bytes in their place
pub patch-holds : (sl lim place : ℕ) (sc bytes junk lg : List ℕ) (period : Period) (recipe : List ℕ) (s : State) → Whole (chip_in s) → Holds sl period recipe s
    → (out_of (patch sl lim place sc bytes junk lg) s).answer ≡ Answers.Done
    → (place + length bytes ≤ length recipe) × Holds sl period (splice place bytes recipe) (next_of (patch sl lim place sc bytes junk lg) s)
unfolding out_of call_by next_of called_by patch_writer start_closed limit_of slot_size changed aim_of image
patch-holds sl lim place sc bytes junk lg period recipe s w u d =
    subst (λ (p : Option Geometry). (place + length bytes ≤ length recipe) × Holds sl period (splice place bytes recipe) (called_by p (asking Patch sl lim) (changing place) sc bytes junk lg [] s)) (sym u.kept.part)
    (let g = u.geometry in
    let n = length s.memory.array in
    let v = asks g (asking Patch sl lim) (changing place) sc bytes junk lg [] in
    let x = secret bytes (changing place) junk [] in
    let h = subst (λ (p : Option Geometry). (call_by p (asking Patch sl lim) (changing place) sc bytes junk lg [] s).answer ≡ Answers.Done) u.kept.part d in
    let e = done-accepted g v x s h in
    let a = (accepted g n v e).asked in
    let z = placed_sized n s.registers.operation g u.kept.part in
    let some = z.some in
    let most = z.most in
    let room = u.limit in
    let few = sized_own g n z in
    let old = image period recipe in
    let one : 1 ≤ g.size = omega (arith, some) in
    let W = patch_writer g sl place bytes old one in
    let k = call_stores g v W x s u.kept.part (whole_room g n s z w) e a.fits few (patch_lawful g sl place bytes old one a.fits few) (end_kept u.kept).bytes
    (record { payload = refl; places = refl; verdict = λ f. absurd (f refl); version = λ f. absurd (f refl); room = omega (arith, z.most, length-replicate {A = ℕ} slot_room 0) }) (done-stage g v x s h).0 in
    let good : patch_verdict g (place + length bytes) (page_in g old 0) ≡ Good = sym (k.fresh.verdict (λ f. absurd (omega (arith, f)))) ∙ (done-stage g v x s h).1 in
    let within : place + length bytes ≤ length recipe =
    patch-ends period recipe (page_in g old 0) (omega (arith, room, most)) (page_begins g period recipe (omega (arith, some))) g (place + length bytes) good in
    let m = wrote_kept g v W x s a.fits k in (
      within,
      record {
        geometry = g;
        limit = omega (arith, room, length-splice place bytes recipe);
        small = u.small;
        kept =
            record {
              part = m.part;
              fits = m.fits;
              spares = m.spares;
              bytes = λ p l j. m.bytes p l j
                  ∙ tabulate-same g.size (λ i. changed (patch_verdict g (place + length bytes) (page_in g old 0)) (head_size (old 0)) place bytes (old (g.size * (p % 8) + i)) (g.size * (p % 8) + i))
                  (λ i. image period (splice place bytes recipe) (g.size * (p % 8) + i))
                  (λ i _. ap (λ (q : Verdict). changed q (head_size (old 0)) place bytes (old (g.size * (p % 8) + i)) (g.size * (p % 8) + i)) good
                  ∙ image-patched period place bytes recipe within (g.size * (p % 8) + i));
            };
      },
    ))

-- ---- the theorems

-- a put that answered 0, any list that starts nothing in its slot, and a get: unless it is refused or cut, it answers 15 exactly if today is outside the
-- term of the put, and else brings the recipe
pub read_back : (sl lim : ℕ) (term : Term) (sc recipe junk lg : List ℕ) (s : State) → Whole (chip_in s)
    → (out_of (put sl lim term sc recipe junk lg) s).answer ≡ Answers.Done
    → (os : List Op) → QuietIn sl os (next_of (put sl lim term sc recipe junk lg) s)
    → (lim' : ℕ) (today : Date) (sc' junk' lg' buffer : List ℕ)
    → Returns (period_of term) (day_of today) recipe buffer (out_of (get sl lim' today sc' junk' lg' buffer) (left_by os (next_of (put sl lim term sc recipe junk lg) s)))
read_back sl lim term sc recipe junk lg s w d os q lim' today sc' junk' lg' buffer =
    let t = next_of (put sl lim term sc recipe junk lg) s in
    get_returns sl (left_by os t) (period_of term) recipe (list_holds sl (period_of term) recipe os t (put_holds sl lim term sc recipe junk lg s w d) q) lim' today sc' junk' lg' buffer

-- the same of a patch that answered 0 in a slot that held a recipe; the term stays
pub read_back_patched : (sl lim place : ℕ) (sc bytes junk lg : List ℕ) (period : Period) (recipe : List ℕ) (s : State) → Whole (chip_in s) → Holds sl period recipe s
    → (out_of (patch sl lim place sc bytes junk lg) s).answer ≡ Answers.Done
    → (os : List Op) → QuietIn sl os (next_of (patch sl lim place sc bytes junk lg) s)
    → (lim' : ℕ) (today : Date) (sc' junk' lg' buffer : List ℕ)
    → Returns period (day_of today) (splice place bytes recipe) buffer (out_of (get sl lim' today sc' junk' lg' buffer) (left_by os (next_of (patch sl lim place sc bytes junk lg) s)))
read_back_patched sl lim place sc bytes junk lg period recipe s w u d os q lim' today sc' junk' lg' buffer =
    let t = next_of (patch sl lim place sc bytes junk lg) s in
    let p = (patch-holds sl lim place sc bytes junk lg period recipe s w u d).1 in
    get_returns sl (left_by os t) period (splice place bytes recipe) (list_holds sl period (splice place bytes recipe) os t p q) lim' today sc' junk' lg' buffer

-- put, a quiet list, patch, a quiet list, get
pub read_back_put-patched : (sl lim : ℕ) (term : Term) (sc recipe junk lg : List ℕ) (s : State) → Whole (chip_in s)
    → (out_of (put sl lim term sc recipe junk lg) s).answer ≡ Answers.Done
    → (os : List Op) → QuietIn sl os (next_of (put sl lim term sc recipe junk lg) s)
    → (lim' place : ℕ) (sc' bytes junk' lg' : List ℕ)
    → (out_of (patch sl lim' place sc' bytes junk' lg') (left_by os (next_of (put sl lim term sc recipe junk lg) s))).answer ≡ Answers.Done
    → (us : List Op) → QuietIn sl us (next_of (patch sl lim' place sc' bytes junk' lg') (left_by os (next_of (put sl lim term sc recipe junk lg) s)))
    → (lim'' : ℕ) (today : Date) (sc'' junk'' lg'' buffer : List ℕ)
    → Returns (period_of term) (day_of today) (splice place bytes recipe) buffer
    (out_of (get sl lim'' today sc'' junk'' lg'' buffer) (left_by us (next_of (patch sl lim' place sc' bytes junk' lg') (left_by os (next_of (put sl lim term sc recipe junk lg) s)))))
read_back_put-patched sl lim term sc recipe junk lg s w d os q lim' place sc' bytes junk' lg' d' us q' lim'' today sc'' junk'' lg'' buffer =
    let t = next_of (put sl lim term sc recipe junk lg) s in
    read_back_patched sl lim' place sc' bytes junk' lg' (period_of term) recipe (left_by os t) (whole_list os t (whole_op (put sl lim term sc recipe junk lg) s w))
    (list_holds sl (period_of term) recipe os t (put_holds sl lim term sc recipe junk lg s w d) q) d' us q' lim'' today sc'' junk'' lg'' buffer
