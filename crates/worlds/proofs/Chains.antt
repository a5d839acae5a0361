-- WHAT PEOPLE CALL: the driver's functions called in turn do what the driver of the definitions does, so the outlines go by what is heard alone; and any
-- state at all, made up or damaged, comes to an end within its bound and gives frames of its own plan only.
-- Assumes nothing.
use Rattle.std.specs.Prelude.{None, Option, Some}
use Prim.Native.Nat.{ℕ, zero, suc, ◌+◌, ◌≤◌}
use native.Mathlib.Omega.{arith}
use mathlib.Core.Path.{◌≡◌, refl, sym, ap, subst, ◌∙◌}
use mathlib.Core.Bool.{Bool, true, false, cond, not, ◌&&◌, ◌||◌}
use mathlib.Core.List.{List, [], ◌∷◌, ◌++◌}
use lib.ListN.{length}
use Rattle.geometry.specs.declared.Geometry.{Geometry}
use Rattle.geometry.specs.Parts.{part_of}
use Rattle.slots.specs.declared.Driver.{Driver}
use Rattle.slots.specs.declared.Kind.{Kind}
use Rattle.slots.specs.declared.Step.{Step}
use Rattle.slots.specs.declared.Step.TheVariants.{Wait, Protection, Lockdown, Read, Load, Send, End}
use Rattle.slots.specs.declared.Verdict.TheVariants.{Good}
use Rattle.slots.specs.Plans.{Asked, plan_of, bound, stated, is_wait, frames_most}
use Rattle.slots.specs.Refusals.{is_over, is_short, flaws_in}
use Rattle.slots.specs.Driver.{Holding, frame_of, compare_in, marred, taken_by, read_in, is_ended, told_by}
use Rattle.slots.specs.Exchanges.{Exchange, MiscompareExactly}
use Rattle.state.specs.declared.Answer.{Answer}
use Rattle.slots.specs.Calls.{outline, first_course}
use Rattle.slots.proofs.Places.{never, rest_at, rest-step}
use Rattle.slots.proofs.Accepted.{picked}
use Rattle.slots.proofs.Counts.{bounds}
use Rattle.slots.proofs.Bound.{Ok, cost_of}
use Rattle.slots.proofs.Driven.{other}
use Rattle.worlds.specs.Talks.{Talk, opened, talked, talk, exchanges_in, HeardAlike, SameTalk}
use Rattle.worlds.specs.Turns.{asked_of, holding_of, step_in, data_after, course_after, took_on}
use Rattle.worlds.specs.Start.{start_refusal, start_driver}
use Rattle.worlds.specs.Step.{stage_by, stage_in, frame_by, frame_in, poll_by, poll_in, staged_by, staged_in, told_in}
use Rattle.worlds.specs.Chains.{Chain, begun, linked, chain, exchanged, AgreeIn, SameChain}
use Rattle.worlds.proofs.Talks.{any_world, any_miscompares, talk-ends}
use Rattle.worlds.proofs.Sane.{Facts, Sane, going-facts, sane_stage, took_going, took_keeps, start_sane, ended_off}
use Rattle.slots.specs.declared.Detail.{Detail}
use Rattle.slots.specs.Details.{aim_of}

-- ---- one link is one exchange of the definitions' driver

-- a chain as they have it
abbrev talk_of : List ℕ → Chain → Talk
talk_of payload z =
    record {
      course = z.driver.course;
      holding = holding_of z.driver payload z.staged;
      lines = z.lines;
      frames = z.frames;
      polls = z.polls;
    }

data_wait : (b : Bool) (h : Holding)
    → record { payload = h.payload; aim = h.aim; staged = (cond b (marred h) h).staged; verdict = (cond b (marred h) h).verdict } ≡ cond b (marred h) h
data_wait true h = refl
data_wait false h = refl

-- a reply changes neither the payload nor what the call aims at
pub data_held : (x : Step) (g : Geometry) (k : Kind) (h : Holding) (reply : List ℕ)
    → record { payload = h.payload; aim = h.aim; staged = (taken_by x g k h reply).staged; verdict = (taken_by x g k h reply).verdict } ≡ taken_by x g k h reply
unfolding taken_by read_in
data_held (Wait c) g k h reply = data_wait (c && compare_in reply) h
data_held Protection g k h reply = refl
data_held Lockdown g k h reply = refl
data_held (Read p) g k h reply = refl
data_held (Load p) g k h reply = refl
data_held (Send c p) g k h reply = refl
data_held End g k h reply = refl

module _ (g : Geometry) (payload : List ℕ) (replies : ℕ → List ℕ) where
  -- a link as it stands before the end
  abbrev next : Chain → Chain
  next z =
      record {
        driver = took_on g z.driver payload z.staged (replies z.frames);
        staged = (data_after g z.driver payload z.staged (replies z.frames)).staged;
        lines = z.lines ++ outline (frame_of g z.driver.kind (holding_of z.driver payload z.staged) (step_in g z.driver));
        frames = z.frames + 1;
        polls = z.polls + cond (is_wait (step_in g z.driver)) 1 0;
      }

  module _ (z : Chain) (p : part_of z.driver.array ≡ Some g) where
    counts_as : stage_in z.driver ≡ stage_by (Some g) z.driver
    unfolding stage_in
    counts_as = ap (λ (q : Option Geometry). stage_by q z.driver) p

    pub link_ended : is_ended (stage_in z.driver) ≡ true → linked payload replies z ≡ z
    unfolding linked
    link_ended e = picked (is_ended (stage_in z.driver)) z _ e

    link_going : is_ended (stage_in z.driver) ≡ false → linked payload replies z ≡ next z
    unfolding linked staged_in staged_by frame_in frame_by poll_in poll_by
    link_going e =
        let d = z.driver in
        let f : is_ended (stage_by (Some g) d) ≡ false = ap is_ended (sym counts_as) ∙ e in
        other (is_ended (stage_in d)) z _ e
        ∙ (λ i.
        record {
          driver = took_going g d payload z.staged (replies z.frames) p f i;
          staged =
              (ap (λ (q : Option Geometry). staged_by q d payload z.staged (replies z.frames)) p ∙ other (is_ended (stage_by (Some g) d)) z.staged _ f) i;
          lines = z.lines ++ outline ((ap (λ (q : Option Geometry). frame_by q d payload z.staged) p ∙ other (is_ended (stage_by (Some g) d)) [] _ f) i);
          frames = z.frames + 1;
          polls = z.polls + cond ((ap (λ (q : Option Geometry). poll_by q d) p ∙ ap (λ (b : Bool). not b && is_wait (step_in g d)) f) i) 1 0;
        })

  link_talked : (z : Chain) → Sane g z.driver → talk_of payload (linked payload replies z) ≡ talked g (asked_of z.driver) replies (talk_of payload z)
  unfolding talked
  link_talked z w = go (is_ended z.driver.course.stage) refl
    where
      stands_so : is_ended (stage_in z.driver) ≡ is_ended z.driver.course.stage
      stands_so = ap is_ended (sane_stage w)

      go : (b : Bool) → is_ended z.driver.course.stage ≡ b → talk_of payload (linked payload replies z) ≡ talked g (asked_of z.driver) replies (talk_of payload z)
      go true e =
          ap (talk_of payload) (link_ended z w.part (stands_so ∙ e)) ∙ sym (picked (is_ended z.driver.course.stage) (talk_of payload z) _ e)
      go false e =
          ap (talk_of payload) (link_going z w.part (stands_so ∙ e))
          ∙ (λ i.
          record {
            course = course_after g z.driver (replies z.frames);
            holding = data_held (step_in g z.driver) g z.driver.kind (holding_of z.driver payload z.staged) (replies z.frames) i;
            lines = z.lines ++ outline (frame_of g z.driver.kind (holding_of z.driver payload z.staged) (step_in g z.driver));
            frames = z.frames + 1;
            polls = z.polls + cond (is_wait (step_in g z.driver)) 1 0;
          })
          ∙ sym (other (is_ended z.driver.course.stage) (talk_of payload z) _ e)

  link_asked : (z : Chain) → part_of z.driver.array ≡ Some g
      → (asked_of (linked payload replies z).driver ≡ asked_of z.driver) × ((linked payload replies z).driver.array ≡ z.driver.array)
  link_asked z p = go (is_ended (stage_in z.driver)) refl
    where
      go : (b : Bool) → is_ended (stage_in z.driver) ≡ b
          → (asked_of (linked payload replies z).driver ≡ asked_of z.driver) × ((linked payload replies z).driver.array ≡ z.driver.array)
      go true e = (ap (λ (y : Chain). asked_of y.driver) (link_ended z p e), ap (λ (y : Chain). y.driver.array) (link_ended z p e))
      go false e = (ap (λ (y : Chain). asked_of y.driver) (link_going z p e), ap (λ (y : Chain). y.driver.array) (link_going z p e))

  link_sane : (z : Chain) → Sane g z.driver → Sane g (linked payload replies z).driver
  unfolding linked
  link_sane z w = go (is_ended (stage_in z.driver)) refl
    where
      go : (b : Bool) → is_ended (stage_in z.driver) ≡ b → Sane g (linked payload replies z).driver
      go true e = subst (λ (y : Chain). Sane g y.driver) (sym (link_ended z w.part e)) w
      go false e =
          subst (λ (y : Chain). Sane g y.driver) (sym (other (is_ended (stage_in z.driver)) z _ e))
          (took_keeps g z.driver payload z.staged (replies z.frames) w.part)

-- any number of them
chain-talk : (n : ℕ) (g : Geometry) (payload : List ℕ) (replies : ℕ → List ℕ) (z : Chain) → Sane g z.driver
    → (talk_of payload (chain n payload replies z) ≡ talk n g (asked_of z.driver) replies (talk_of payload z)) × Sane g (chain n payload replies z).driver
unfolding chain talk
chain-talk zero g payload replies z w = (refl, w)
chain-talk (suc n) g payload replies z w =
    let r = chain-talk n g payload replies (linked payload replies z) (link_sane g payload replies z w) in
    (r.0 ∙ (λ i. talk n g ((link_asked g payload replies z w.part).0 i) replies (link_talked g payload replies z w i)), r.1)

-- ---- two worlds

-- what is heard alike of the functions is heard alike of the definitions' driver
agree_heard : (n : ℕ) (g : Geometry) (payload : List ℕ) (replies others : ℕ → List ℕ) (z : Chain) → Sane g z.driver → AgreeIn n g payload replies others z
    → HeardAlike n g (asked_of z.driver) replies others (talk_of payload z)
agree_heard zero g payload replies others z w h = tt
agree_heard (suc n) g payload replies others z w h = (
  λ e. h.0 (ap is_ended (sane_stage w) ∙ e),
  subst (λ (q : Asked × Talk). HeardAlike n g q.0 replies others q.1)
      (λ i. ((link_asked g payload replies z w.part).0 i, link_talked g payload replies z w i))
      (agree_heard n g payload replies others (linked payload replies z) (link_sane g payload replies z w) h.1),
)

-- the definitions' driver at the start of the same call
start-talk : (g : Geometry) (array : ℕ) (a : Asked) (d : Detail) (lent : ℕ) (payload staged : List ℕ) → part_of array ≡ Some g
    → talk_of payload (begun (start_driver array a d (length payload) lent) staged)
    ≡ opened g a (flaws_in a.kind g d (length payload) lent) (record { payload = payload; aim = aim_of d; staged = staged; verdict = Good })
unfolding start_driver start_refusal opened
start-talk g array a d lent payload staged p = λ i.
    talk_of payload (begun (record { array = array; slot = a.slot; limit = a.limit; aim = aim_of d; kind = a.kind; verdict = Good; course = ap (λ (q : Option Geometry). first_course (start_refusal q a d (length payload) lent) a.limit) p i }) staged)

chain_same : (payload others : List ℕ) {g : Geometry} {y z : Chain} → Sane g y.driver → Sane g z.driver
    → SameTalk (talk_of payload y) (talk_of others z) → SameChain y z
unfolding told_in
chain_same payload others {g} {y} {z} u v s =
    record {
      lines = s.lines;
      frames = s.frames;
      polls = s.polls;
      stage = ap is_ended (sane_stage u) ∙ s.stage ∙ ap is_ended (sym (sane_stage v));
      answer = λ a b e f. s.answer a b (ap (λ (t : Option Answer). told_by t y.driver.verdict) (sym (sane_stage u)) ∙ e)
          (ap (λ (t : Option Answer). told_by t z.driver.verdict) (sym (sane_stage v)) ∙ f);
    }

-- ANY WORLD, over the driver's functions: one call on one part, with any two recipes, patches or places, terms and dates of which 5 and 14 are alike, and any two
-- sequences of replies that agree in what is heard
pub any_world_called : (n : ℕ) (g : Geometry) (array : ℕ) (a : Asked) (d there : Detail) (lent room : ℕ) (payload other staged bytes : List ℕ)
    (replies others : ℕ → List ℕ) → part_of array ≡ Some g
    → flaws_in a.kind g d (length payload) lent ≡ flaws_in a.kind g there (length other) room
    → AgreeIn n g payload replies others (begun (start_driver array a d (length payload) lent) staged)
    → SameChain (chain n payload replies (begun (start_driver array a d (length payload) lent) staged))
    (chain n other others (begun (start_driver array a there (length other) room) bytes))
unfolding start_driver
any_world_called n g array a d there lent room payload other staged bytes replies others p alike h =
    let c = start_driver array a d (length payload) lent in
    let e = start_driver array a there (length other) room in
    let sd = start_sane g array a d (length payload) lent p in
    let se = start_sane g array a there (length other) room p in
    let td = start-talk g array a d lent payload staged p in
    let te = start-talk g array a there room other bytes p ∙ (λ i. opened g a (sym alike i) (record { payload = other; aim = aim_of there; staged = bytes; verdict = Good })) in
    let one = chain-talk n g payload replies (begun c staged) sd in
    let two = chain-talk n g other others (begun e bytes) se in
    chain_same payload other one.1 two.1
    (subst (λ (t : Talk). SameTalk t (talk_of other (chain n other others (begun e bytes)))) (sym (one.0 ∙ ap (talk n g a replies) td))
    (subst (SameTalk (talk n g a replies (opened g a (flaws_in a.kind g d (length payload) lent) _))) (sym (two.0 ∙ ap (talk n g a others) te))
    (any_world n g a (flaws_in a.kind g d (length payload) lent) _ _ replies others
    (subst (HeardAlike n g a replies others) td (agree_heard n g payload replies others (begun c staged) sd h)))))

-- ---- 16

-- the functions' exchanges are the definitions' driver's
exchanged-talk : (n : ℕ) (g : Geometry) (payload : List ℕ) (replies : ℕ → List ℕ) (z : Chain) → Sane g z.driver
    → exchanged n payload replies z ≡ exchanges_in n g (asked_of z.driver) replies (talk_of payload z)
unfolding exchanged exchanges_in frame_in frame_by
exchanged-talk zero g payload replies z w = refl
exchanged-talk (suc n) g payload replies z w =
    go (exchanged-talk n g payload replies (linked payload replies z) (link_sane g payload replies z w)
    ∙ λ i. exchanges_in n g ((link_asked g payload replies z w.part).0 i) replies (link_talked g payload replies z w i))
    (is_ended z.driver.course.stage) refl
  where
    d : Driver
    d = z.driver

    h : Holding
    h = holding_of d payload z.staged

    stands_so : is_ended (stage_in d) ≡ is_ended d.course.stage
    stands_so = ap is_ended (sane_stage w)

    go : exchanged n payload replies (linked payload replies z) ≡ exchanges_in n g (asked_of d) replies (talked g (asked_of d) replies (talk_of payload z))
        → (b : Bool) → is_ended d.course.stage ≡ b → exchanged (suc n) payload replies z ≡ exchanges_in (suc n) g (asked_of d) replies (talk_of payload z)
    go rest true e = picked (is_ended (stage_in d)) [] _ (stands_so ∙ e) ∙ sym (picked (is_ended d.course.stage) [] _ e)
    go rest false e =
        let f : is_ended (stage_by (Some g) d) ≡ false = ap is_ended (sym (counts_as g payload replies z w.part)) ∙ stands_so ∙ e in
        other (is_ended (stage_in d)) [] _ (stands_so ∙ e)
        ∙ (λ i.
        record { frame = (ap (λ (q : Option Geometry). frame_by q d payload z.staged) w.part ∙ other (is_ended (stage_by (Some g) d)) [] (frame_of g d.kind h (step_in g d)) f) i; reply = replies z.frames; byte = 1 }
        ∷ rest i)
        ∙ sym (other (is_ended d.course.stage) [] _ e)

-- EXACTLY 16, over the driver's functions: a call on a part, whatever it is told and lent, and any sequence of replies
pub miscompares_called : (g : Geometry) (array : ℕ) (a : Asked) (d : Detail) (lent : ℕ) (payload staged : List ℕ) (replies : ℕ → List ℕ) → part_of array ≡ Some g → (x : Answer)
    → told_in (chain (bound g a) payload replies (begun (start_driver array a d (length payload) lent) staged)).driver ≡ Some x
    → MiscompareExactly (exchanged (bound g a) payload replies (begun (start_driver array a d (length payload) lent) staged)) x
unfolding told_in start_driver
miscompares_called g array a d lent payload staged replies p x e =
    let n = bound g a in
    let z = begun (start_driver array a d (length payload) lent) staged in
    let s = start_sane g array a d (length payload) lent p in
    let t = start-talk g array a d lent payload staged p in
    let c = chain-talk n g payload replies z s in
    let k = c.0 ∙ ap (talk n g a replies) t in
    subst (λ (es : List Exchange). MiscompareExactly es x) (sym (exchanged-talk n g payload replies z s ∙ ap (exchanges_in n g a replies) t))
    (any_miscompares g a (flaws_in a.kind g d (length payload) lent) _ replies refl x
    (ap (λ (y : Talk). told_by y.course.stage y.holding.verdict) (sym k) ∙ ap (λ (y : Option Answer). told_by y (chain n payload replies z).driver.verdict) (sym (sane_stage c.1)) ∙ e))

-- ---- any state at all

-- what is left of a plan is at most the whole
rest-few : (B : ℕ) (xs : List Step) (i : ℕ) → frames_most B (rest_at xs i) ≤ frames_most B xs
unfolding frames_most rest_at
rest-few B [] i = omega arith
rest-few B (x ∷ xs) zero = omega arith
rest-few B (x ∷ xs) (suc i) = let r = rest-few B xs i in omega arith

-- with at most B polls left
cost_few : (B left : ℕ) (x : Step) (xs : List Step) → left ≤ B → cost_of B left (x ∷ xs) ≤ frames_most B (x ∷ xs)
unfolding frames_most
cost_few B left x xs h = go (is_wait x)
  where
    go : (b : Bool) → cond b left 1 + frames_most B xs ≤ cond b B 1 + frames_most B xs
    go true = omega arith
    go false = omega arith

facts_ok : (g : Geometry) (d : Driver) → Facts g d → Ok (plan_of g (asked_of d)) d.limit (stated d.kind d.limit) d.course
facts_ok g d w =
    let plan = plan_of g (asked_of d) in
    let e = rest-step plan d.course.place w.step in
    let c = cost_few d.limit d.course.left (step_in g d) (rest_at plan (suc d.course.place)) w.most in
    let r = rest-few d.limit plan d.course.place in
    record {
      wait = w.asked.some;
      left = w.some;
      step = λ _. w.step;
      few = λ _. subst (λ (xs : List Step). cost_of d.limit d.course.left xs ≤ stated d.kind d.limit) (sym e)
          (omega (arith, c, ap (frames_most d.limit) e, r, bounds d.kind g d.slot d.limit));
    }

-- a chain that has ended stays as it is
chain-ended : (n : ℕ) (payload : List ℕ) (replies : ℕ → List ℕ) (z : Chain) → is_ended (stage_in z.driver) ≡ true → chain n payload replies z ≡ z
unfolding chain linked
chain-ended zero payload replies z e = refl
chain-ended (suc n) payload replies z e =
    let s : linked payload replies z ≡ z = picked (is_ended (stage_in z.driver)) z _ e in
    ap (chain n payload replies) s ∙ chain-ended n payload replies z e

-- EVERY STATE ENDS within its bound, whatever comes back
pub any_state-ends : (d : Driver) (payload staged : List ℕ) (replies : ℕ → List ℕ)
    → is_ended (stage_in (chain (stated d.kind d.limit) payload replies (begun d staged)).driver) ≡ true
any_state-ends d payload staged replies = go (is_ended (stage_in d)) refl (part_of d.array) refl
  where
    n : ℕ
    n = stated d.kind d.limit

    stopped : is_ended (stage_in d) ≡ true → is_ended (stage_in (chain n payload replies (begun d staged)).driver) ≡ true
    stopped e = ap (λ (z : Chain). is_ended (stage_in z.driver)) (chain-ended n payload replies (begun d staged) e) ∙ e

    going : (g : Geometry) → part_of d.array ≡ Some g → is_ended (stage_by (Some g) d) ≡ false → is_ended (stage_in (chain n payload replies (begun d staged)).driver) ≡ true
    going g p e =
        let f = going-facts g d e in
        let w : Sane g d = record { part = p; facts = λ _. f.1 } in
        let t = chain-talk n g payload replies (begun d staged) w in
        ap is_ended (sane_stage t.1) ∙ ap (λ (t : Talk). is_ended t.course.stage) t.0
        ∙ talk-ends g (asked_of d) replies n (talk_of payload (begun d staged)) (facts_ok g d f.1)

    go : (b : Bool) → is_ended (stage_in d) ≡ b → (p : Option Geometry) → part_of d.array ≡ p → is_ended (stage_in (chain n payload replies (begun d staged)).driver) ≡ true
    go true e p q = stopped e
    go false e (Some g) q = going g q (ap is_ended (sym (counts_as g payload replies (begun d staged) q)) ∙ e)
    go false e None q = never (sym e ∙ ended_off d q)
