-- A whole call: refused, or begun where its run begins, driven to the run's end, and finished as the run's outcome says.
-- Assumes nothing.
use Rattle.std.specs.Prelude.{None, Option, Some}
use mathlib.Core.Path.{◌≡◌, refl, sym, ap, subst, subst⁻¹, ◌∙◌}
use mathlib.Core.Bool.{true, false, cond}
use mathlib.Core.List.{List, [], ◌++◌}
use Prim.Native.Nat.{ℕ, ◌*◌}
use native.Mathlib.Omega.{arith}
use lib.ListN.{length, take, drop, replicate, take-append-drop}
use lib.Seq.{length-take-le}
use lib.Dec.{eqb}
use borrow.Author.Tests.{eq-eqb, ne_eqb}
use Rattle.slices.specs.Lists.{over}
use Rattle.slices.proofs.Laws.{over_append}
use Rattle.geometry.specs.declared.Geometry.{Geometry}
use Rattle.geometry.specs.Parts.{part_of, Sized, slot_room}
use Rattle.registers.proofs.Places.{placed_known, placed_sized}
use Rattle.state.specs.declared.Answer.{Answer}
use Rattle.state.specs.declared.Answer.TheVariants as Answers
use Rattle.state.specs.Answers.{number_of}
use Rattle.state.specs.Memory.{State}
use Rattle.state.specs.Outcomes.{part_in, cut_fits, cut_state}
use Rattle.slots.specs.declared.Detail.{Detail}
use Rattle.slots.specs.declared.Driver.{Driver}
use Rattle.slots.specs.declared.Flaws.{Flaws}
use Rattle.slots.specs.Plans.{Asked, stated}
use Rattle.slots.specs.Refusals.{flaws_in, early_refusal, call_refusal}
use Rattle.slots.specs.Calls.{Out, Request, Secret, Open, Closed, refused, run, first_course, refusal_of, start_open, start_closed, ran, reached, count_of, delivered, out_from, answer_at, call_out, call_next}
use Rattle.slots.specs.Lists.{call, request, asks, secret, call_by, called_by, out_of, next_of, is_refusal, log_of}
use Rattle.slots.proofs.Counts.{bounds}
use Rattle.slots.proofs.Accepted.{Accepted, accepted, neither_applies}
use Rattle.slots.proofs.Refused.{refused-call, accepted_late}
use Rattle.worlds.specs.Turns.{asked_of}
use Rattle.worlds.specs.Start.{start_refusal, start_driver}
use Rattle.worlds.specs.Step.{flawless}
use Rattle.runs.specs.declared.Done.{Done}
use Rattle.runs.specs.declared.Session.{Session}
use Rattle.blocks.specs.Promises.{held_in}
use Rattle.runs.specs.Exchange.{Canonical}
use Rattle.runs.specs.Promises.{Promise}
use Rattle.runs.specs.Runs.{open_of, closed_of, request_of, Starts, Driven, asked_in, secret_in, Started, RunBy, last_of, answer_of}
use Rattle.runs.proofs.Promised.{Few, is_refusal_lem, call-few, leaves_as, leaves-refused, leaves-sent}
use Rattle.runs.proofs.Scripts.{junk-fits}
use Rattle.runs.proofs.Steps.{run-asks}

-- ---- refused
module _ (a : Asked) (detail : Detail) (payload buffer script junk log held xs : List ℕ) where
  -- 1
  pub refused_unknown : part_in (held_in held xs) ≡ None → (r : Done) → r ≡ record { answer = Answers.Part; frames = 0; polls = 0; count = 0 }
      → Promise (call a detail script payload junk log buffer) held xs r held xs log buffer
  unfolding out_of call_by next_of called_by number_of log_of
  refused_unknown e r d =
      leaves_as (ap (λ (p : Option Geometry). call_by p a detail script payload junk log buffer (held_in held xs)) e)
      (ap (λ (p : Option Geometry). called_by p a detail script payload junk log buffer (held_in held xs)) e) (leaves-refused Answers.Part held xs log buffer r refl d)

  module _ (g : Geometry) (p : part_in (held_in held xs) ≡ Some g) where
    pub out_known : out_of (call a detail script payload junk log buffer) (held_in held xs) ≡ call_out g (asks g a detail script payload junk log buffer) (secret payload detail junk buffer) (held_in held xs)
    unfolding out_of call_by
    out_known = ap (λ (q : Option Geometry). call_by q a detail script payload junk log buffer (held_in held xs)) p

    pub next_known : next_of (call a detail script payload junk log buffer) (held_in held xs) ≡ call_next g (asks g a detail script payload junk log buffer) (secret payload detail junk buffer) (held_in held xs)
    unfolding next_of called_by
    next_known = ap (λ (q : Option Geometry). called_by q a detail script payload junk log buffer (held_in held xs)) p

    -- what the tests ask
    pub sized_known : (Sized g (length xs)) × (part_of (length xs) ≡ Some g)
    sized_known =
        let o = (held_in held xs).registers.operation in
        (placed_sized (length xs) o g p, (placed_known (length xs) o g p).0)

    -- 3 to 7, and 14
    pub refused_known : (z : Answer) (r : Done) → z ≡ refusal_of g (length xs) (asks g a detail script payload junk log buffer) → (number_of z ≡ 0 → ⊥)
        → r ≡ record { answer = z; frames = 0; polls = 0; count = 0 } → Promise (call a detail script payload junk log buffer) held xs r held xs log buffer
    unfolding log_of
    refused_known z r e n d =
        let v = asks g a detail script payload junk log buffer in
        let k : eqb (number_of z) 0 ≡ false = ne_eqb (number_of z) 0 n in
        let w = refused-call g v (secret payload detail junk buffer) (held_in held xs) (ap (λ (t : Answer). eqb (number_of t) 0) (sym e) ∙ k) in
        leaves_as (out_known ∙ w.out ∙ ap (λ (t : Answer). refused t buffer) (sym e)) (next_known ∙ w.next)
        (leaves-refused z held xs log buffer r (is_refusal_lem z (subst⁻¹ Few e (call-few g (length xs) a v.flaws (length log) script (length junk))) k) d)

-- ---- the driver at the start of a call that is not refused

-- a refusal that is not met is Done
done : (z : Answer) → eqb (number_of z) 0 ≡ true → (limit : ℕ) → first_course z limit ≡ first_course Answers.Done limit
unfolding first_course number_of
done z e limit = λ i. record { place = 0; left = limit; stage = cond (e i) None (Some z); listed = false; guarded = false }

module _ (a : Asked) (detail : Detail) (payload buffer script junk log held xs : List ℕ) (g : Geometry) (p : part_in (held_in held xs) ≡ Some g)
    {z : Answer} (f : z ≡ refusal_of g (length xs) (asks g a detail script payload junk log buffer)) (n : number_of z ≡ 0)
    {d : Driver} (e : d ≡ start_driver (length xs) a detail (length payload) (length buffer)) where
  abbrev flaws : Flaws
  flaws = flaws_in a.kind g detail (length payload) (length buffer)

  passed : eqb (number_of (refusal_of g (length xs) (asks g a detail script payload junk log buffer))) 0 ≡ true
  passed = ap (λ (t : Answer). eqb (number_of t) 0) (sym f) ∙ eq-eqb (number_of z) 0 n

  -- neither 5 nor 14 is met
  none-met : flaws ≡ flawless
  none-met =
      let w = accepted g (length xs) (asks g a detail script payload junk log buffer) passed in
      λ i. record { size = w.asked.size i; dates = w.asked.dates i }

  pub started : Started g d xs script junk log
  unfolding start_driver start_refusal call_refusal
  started =
      let own = (sized_known a detail payload buffer script junk log held xs g p).1 in
      subst⁻¹ (λ (k : Driver). Started g k xs script junk log) e
      (record {
        array = refl;
        verdict = refl;
        course =
            ap (λ (q : Option Geometry). first_course (start_refusal q a detail (length payload) (length buffer)) a.limit) own
            ∙ done (early_refusal g a flaws) (neither_applies (early_refusal g a flaws) _ passed).0 a.limit;
        accepted = ap (λ (t : Flaws). number_of (call_refusal g (length xs) a t (length log) script (length junk))) (sym none-met) ∙ ap number_of (sym f) ∙ n;
      })

  -- its call is the one that was asked
  pub as_asked : {kept ys l b : List ℕ} {r : Done} → RunBy g d payload buffer script junk log held xs r kept ys l b
      → Promise (call a detail script payload junk log buffer) held xs r kept ys l b
  unfolding start_driver log_of
  as_asked {kept} {ys} {l} {b} {r} w =
      let x = secret payload detail junk buffer in
      leaves_as
      (out_known a detail payload buffer script junk log held xs g p
      ∙ ap (λ (t : Flaws). call_out g (request a script (length log) (length junk) t) x (held_in held xs)) none-met)
      (next_known a detail payload buffer script junk log held xs g p
      ∙ ap (λ (t : Flaws). call_next g (request a script (length log) (length junk) t) x (held_in held xs)) none-met)
      (subst (λ (k : Driver). RunBy g k payload buffer script junk log held xs r kept ys l b) e w)

-- ---- the run, and what comes behind it
module _ (g : Geometry) (d : Driver) (payload buffer script junk log held xs : List ℕ) (p : part_in (held_in held xs) ≡ Some g)
    (w : Started g d xs script junk log) where
  abbrev v : Request
  v = asked_in d script junk log

  abbrev x : Secret
  x = secret_in d payload junk buffer

  abbrev begun : Session
  begun = record { driver = d; frames = 0; polls = 0; cut = false }

  none : eqb (number_of (refusal_of g (length xs) v)) 0 ≡ true
  none = eq-eqb (number_of (refusal_of g (length xs) v)) 0 w.accepted

  ok : Accepted g (length xs) v
  ok = accepted g (length xs) v none

  pub starts : Starts g (held_in held xs) begun log
  starts =
      record {
        part = p;
        array = w.array;
        slot = omega (arith, ok.asked.fits);
        least = ok.asked.some;
        most = ok.asked.most;
        course = w.course;
        frames = refl;
        polls = refl;
        cut = refl;
        room = omega (arith, ok.lent.room, bounds d.kind g d.slot d.limit);
      }

  module _ {st : List ℕ} (es : st ≡ replicate slot_room 0) {t : State} {s : Session} {bytes lines : List ℕ}
      (z : Driven g (held_in held xs) begun payload st script log t s bytes lines) where
    begins : ran g v x (held_in held xs) ≡ run (stated d.kind d.limit) g (request_of begun script) (open_of (held_in held xs) begun log) (closed_of (held_in held xs) begun payload st)
    unfolding ran start_open start_closed
    begins =
        (λ i. run (bounds d.kind g d.slot d.limit i) g v
        (record {
          registers = (held_in held xs).registers;
          course = (done (refusal_of g (length xs) v) none d.limit ∙ sym w.course) i;
          lines = [];
          frames = 0;
          polls = 0;
          cut = false;
        })
        (record {
          memory = (held_in held xs).memory;
          holding =
              record {
                payload = payload;
                aim = d.aim;
                staged = sym es i;
                verdict = sym w.verdict i;
              };
        }))
        ∙ run-asks (stated d.kind d.limit) g (asked_of d) script (length log) (length junk) v.flaws (open_of (held_in held xs) begun log) (closed_of (held_in held xs) begun payload st)

    whole : ran g v x (held_in held xs) ≡ (open_of t s lines, closed_of t s payload bytes)
    whole = begins ∙ z.whole

    -- a cut is in the script, so the junk fits
    pub cut_fits_lem : s.cut ≡ true → cut_fits g (length t.memory.array) (length junk) ≡ true
    cut_fits_lem e =
        ap (λ (n : ℕ). cut_fits g n (length junk)) z.long ∙ junk-fits g (length xs) script (length junk) ok.lent.fine (z.cuts e)

    -- the log: the lines, and the rest as it was
    logged : lines ≡ over (take (6 * s.frames) lines) log
    logged =
        let l : length (take (6 * s.frames) lines) ≡ 6 * s.frames = length-take-le (6 * s.frames) lines z.room in
        sym (over_append (take (6 * s.frames) lines) log (omega (arith, l, z.room, z.same))
        ∙ ap (λ (m : ℕ). take (6 * s.frames) lines ++ drop m log) l ∙ ap (λ (k : List ℕ). take (6 * s.frames) lines ++ k) (sym z.rest)
        ∙ take-append-drop (6 * s.frames) lines)

    -- from what the answer, the delivery and the cut promise
    pub finished : (a : Answer) (n : ℕ) (kept ys b : List ℕ) → a ≡ answer_of s → n ≡ count_of d.kind a bytes → b ≡ delivered (count_of d.kind a bytes) bytes buffer
        → held_in kept ys ≡ last_of g s junk t → Canonical kept
        → RunBy g d payload buffer script junk log held xs (record { answer = a; frames = s.frames; polls = s.polls; count = n }) kept ys lines b
    unfolding call_out call_next out_from last_of
    finished a n kept ys b ea en eb back form =
        let u = held_in held xs in
        let ends : call_out g v x u ≡ out_from v x (open_of t s lines, closed_of t s payload bytes) (answer_of s) =
        ap (λ (o : Open × Closed). out_from v x o (answer_at o)) whole in
        let next : call_next g v x u ≡ last_of g s junk t = ap (λ (o : Open × Closed). cond o.0.cut (cut_state g junk (reached o)) (reached o)) whole in
        let late = subst (λ (o : Out). is_refusal o.answer ≡ false) ends (accepted_late g v x u none) in
        leaves_as ends next
        (leaves-sent (out_from v x (open_of t s lines, closed_of t s payload bytes) (answer_of s)) (last_of g s junk t) held log _ kept ys lines b late form back ea logged refl refl
        (en ∙ ap (λ (m : Answer). count_of d.kind m bytes) ea)
        (eb ∙ ap (λ (m : Answer). delivered (count_of d.kind m bytes) bytes buffer) ea))
