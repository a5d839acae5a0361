-- With an empty script, on an idle and awake chip, a call sends its plan step by step, each wait one D7: every frame leaves the registers
-- as they were once its busy end has come, so each status tells ready, and the sector's bits are the registers'.
-- Assumes nothing.
use Rattle.std.specs.Prelude.{Some}
use Prim.Native.Nat.{ℕ, zero, suc, ◌+◌, ◌/◌, ◌%◌, ◌<◌}
use borrow.Author.Tests.{eqb-true}
use native.Mathlib.Omega.{arith}
use mathlib.Core.Path.{◌≡◌, refl, sym, ap, subst, ◌∙◌}
use mathlib.Core.Bool.{Bool, true, false, cond, ◌&&◌, ◌||◌}
use mathlib.Core.List.{List, [], ◌∷◌, ◌++◌}
use lib.ListN.{length, get_or}
use lib.Dec.{eqb, lit<, lit≤}
use Rattle.slices.specs.Lists.{tabulate}
use Rattle.slices.proofs.Laws.{length-tabulate, tabulate-same, tabulate-get_or}
use Rattle.geometry.specs.declared.Geometry.{Geometry}
use Rattle.registers.specs.declared.Registers.{Registers}
use Rattle.registers.specs.Protection.{Roomed, has_bits, guarded, sealed}
use Rattle.registers.proofs.Places.{placed_sized}
use Rattle.control.specs.Control.{control}
use Rattle.control.specs.Completion.{completed}
use Rattle.control.specs.Starts.{Ready, Lengths}
use Rattle.control.proofs.Frames.{status_keeps}
use Rattle.control.proofs.Ends.{completed_idle}
use Rattle.state.specs.Answers.{number_of}
use Rattle.state.specs.Memory.{Memory, State}
use Rattle.state.specs.Frames.{is_idle, reply_of}
use Rattle.state.specs.Outcomes.{part_in}
use Rattle.state.proofs.Status.{is_idle_lem}
use Rattle.state.proofs.Replies.{status-byte, protection-byte, lockdown-byte}
use Rattle.state.specs.declared.Answer.TheVariants as Answers
use Rattle.slots.specs.declared.Kind.{Kind}
use Rattle.slots.specs.declared.Kind.TheVariants.{Put, Patch, Get, Wipe}
use Rattle.slots.specs.declared.Step.{Step}
use Rattle.slots.specs.declared.Step.TheVariants.{Wait, Protection, Lockdown, Read, Load, Send, End}
use Rattle.slots.specs.Plans.{Asked, pages, opening, is_asking, page_steps, run_by, plan_by, plan_of, sector_for, bound, is_end, is_wait, waits_in}
use Rattle.slots.specs.Driver.{Heard, Holding, shape_of, frame_byte, loaded, frame_of, status_heard, register_in, taken_by, step_of, is_ended}
use Rattle.slots.specs.Calls.{Request, Secret, Open, Closed, sends, registers_after, open_after, step_open, step_closed, run, refusal_of, start_open, start_closed, ran, call_out}
use Rattle.slots.specs.Lists.{request}
use Rattle.slots.specs.Exchanges.{Exchange, exchanges_of, exchanges, status_frame, status_in, FoundBusy, lost, foreign, ready, busy, again, Result, finished, answer_for, is_plain, Follows, done, waited, halted, cut, listed, shut, free, plain, OneByOne, Undisturbed, AsListed}
use Rattle.slots.proofs.Blind.{status-heard, load_registers, filler, protection_form, lockdown_form, protection-registers, lockdown-registers}
use Rattle.slots.proofs.Places.{never, every, every-pages}
use Rattle.slots.proofs.Counts.{steps, waits}
use Rattle.slots.proofs.Accepted.{step-ended}
use Rattle.slots.proofs.Bound.{Ok, step_ok, begin_ok}
use Rattle.slots.proofs.Sent.{read_keeps, send_returns}
use Rattle.slots.proofs.Driven.{Ends}
use Rattle.slots.proofs.Planned.{ended-none, first, open_is, comes, is_free, on_chip}
use Rattle.slots.specs.declared.Flaws.{Flaws}

module _ (g : Geometry) (full : Roomed g) (r : Registers) (y : Ready r) (n : Lengths r) where
  -- ---- what the chip's replies tell

  -- an exchange that is not cut, with the reply of a chip that has these registers
  abbrev pub Honest : Exchange → Type 0
  Honest e = (e.byte ≡ 2 → ⊥) × (m : Memory) × (e.reply ≡ reply_of g r m e.frame)

  abbrev pub AllHonest : List Exchange → Type 0
  AllHonest [] = Unit {0}
  AllHonest (e ∷ es) = Honest e × AllHonest es

  status-told : (e : Exchange) → Honest e → e.frame ≡ status_frame → status_heard (status_in e) ≡ record { density = true; ready = true; guarded = guarded r; held = false }
  status-told e u f =
      let m = u.1 in
      ap (λ (l : List ℕ). status_heard (get_or l 1 255)) (u.2 ∙ ap (reply_of g r m) f)
      ∙ ap status_heard (status-byte g r m (0 ∷ []) 1 255 y.1 (lit≤ tt) (lit< tt))
      ∙ status-heard g (is_idle r.operation) m.compare (guarded r)
      ∙ ap (λ (b : Bool). record { density = true; ready = b; guarded = guarded r; held = false }) (ap is_idle y.0 ∙ is_idle_lem)

  -- ---- exchanges that follow a plan
  register_whole : (bytes reply : List ℕ) → length bytes ≡ g.register → ((j : ℕ) → j < g.register → get_or reply (4 + j) 255 ≡ get_or bytes j 0) → register_in g reply ≡ bytes
  unfolding register_in
  register_whole bytes reply l f =
      tabulate-same g.register (λ j. get_or reply (4 + j) 255) (λ j. get_or bytes j 0) f ∙ ap (λ (x : ℕ). tabulate x (λ j. get_or bytes j 0)) (sym l) ∙ tabulate-get_or bytes 0

  protection-told : (m : Memory) (k : Kind) (h : Holding) → register_in g (reply_of g r m (frame_of g k h Protection)) ≡ r.protection
  protection-told m k h =
      let t = filler g k h Protection in
      let long = length-tabulate g.register (λ i. frame_byte (shape_of g Protection) (loaded g k h Protection) (4 + i)) in
      ap (λ (f : List ℕ). register_in g (reply_of g r m f)) (protection_form g k h)
      ∙ register_whole r.protection _ (n.protection ∙ sym full)
      (λ j l. protection-byte g r m 0 0 0 t y j 255 (omega (arith, long)) l (omega (arith, n.protection, full)))

  lockdown-told : (m : Memory) (k : Kind) (h : Holding) → register_in g (reply_of g r m (frame_of g k h Lockdown)) ≡ r.lockdown
  lockdown-told m k h =
      let t = filler g k h Lockdown in
      let long = length-tabulate g.register (λ i. frame_byte (shape_of g Lockdown) (loaded g k h Lockdown) (4 + i)) in
      ap (λ (f : List ℕ). register_in g (reply_of g r m f)) (lockdown_form g k h)
      ∙ register_whole r.lockdown _ (n.lockdown ∙ sym full)
      (λ j l. lockdown-byte g r m 0 0 0 t y j 255 (omega (arith, long)) l (omega (arith, n.lockdown, full)))

  module _ (a : Asked) where
    abbrev S : ℕ
    S = sector_for g a

    -- where 10 is tested the sector is not sealed, by what was noted before
    abbrev Sound : Bool → Bool → List Step → Type 0
    Sound l d [] = Unit {0}
    Sound l d (Wait c ∷ xs) = Sound l (guarded r) xs
    Sound l d (Protection ∷ xs) = Sound (has_bits g r.protection S) d xs
    Sound l d (Lockdown ∷ xs) = ((has_bits g r.lockdown S || (l && d)) ≡ false) × Sound l d xs
    Sound l d (Read p ∷ xs) = Sound l d xs
    Sound l d (Load p ∷ xs) = Sound l d xs
    Sound l d (Send c p ∷ xs) = Sound l d xs
    Sound l d (End ∷ xs) = Sound l d xs

    sound-free : (l d : Bool) (xs : List Step) → every is_free xs ≡ true → Sound l d xs
    unfolding every is_free
    sound-free l d [] e = tt
    sound-free l d (Wait c ∷ xs) e = sound-free l (guarded r) xs e
    sound-free l d (Protection ∷ xs) e = sound-free (has_bits g r.protection S) d xs e
    sound-free l d (Lockdown ∷ xs) e = never e
    sound-free l d (Read p ∷ xs) e = sound-free l d xs e
    sound-free l d (Load p ∷ xs) e = sound-free l d xs e
    sound-free l d (Send c p ∷ xs) e = sound-free l d xs e
    sound-free l d (End ∷ xs) e = sound-free l d xs e

    record Calm (xs : List Step) (h : Holding) (es : List Exchange) (k : ℕ) (t : Result) : Type 0 where
      left : Holding
      result : t ≡ finished left
      sent : OneByOne g a.kind h xs es left
      frames : length es ≡ length xs
      polls : k ≡ waits_in xs

    plain-sound : (x : Step) (xs : List Step) (l d : Bool) → is_plain x ≡ true → Sound l d (x ∷ xs) → Sound l d xs
    unfolding is_plain
    plain-sound (Wait c) xs l d e u = never e
    plain-sound Protection xs l d e u = never e
    plain-sound Lockdown xs l d e u = never e
    plain-sound (Read p) xs l d e u = u
    plain-sound (Load p) xs l d e u = u
    plain-sound (Send c p) xs l d e u = u
    plain-sound End xs l d e u = never e

    plain_wait : (x : Step) → is_plain x ≡ true → is_wait x ≡ false
    unfolding is_plain is_wait
    plain_wait (Wait c) e = never e
    plain_wait Protection e = refl
    plain_wait Lockdown e = refl
    plain_wait (Read p) e = refl
    plain_wait (Load p) e = refl
    plain_wait (Send c p) e = refl
    plain_wait End e = refl

    -- one step more
    more : {x : Step} {xs : List Step} {h : Holding} {e : Exchange} {es : List Exchange} {k j : ℕ} {t : Result} → e.frame ≡ frame_of g a.kind h x
        → j ≡ cond (is_wait x) 1 0 + k → Calm xs (taken_by x g a.kind h e.reply) es k t → Calm (x ∷ xs) h (e ∷ es) j t
    unfolding waits_in
    more {x} {xs} {h} {e} {es} {k} {j} f i z =
        record {
          left = z.left;
          result = z.result;
          sent = (f, z.sent);
          frames = let w : length es ≡ length xs = z.frames in omega (arith, w);
          polls = i ∙ ap (λ (q : ℕ). cond (is_wait x) 1 0 + q) z.polls;
        }

    -- a status of such a chip is never busy
    not-busy : {A : Type 0} (e : Exchange) → Honest e → FoundBusy e → A
    not-busy e u f = absurd (f.2 (eqb-true (status_in e / 128 % 2) 1 (ap (λ (o : Heard). o.ready) (status-told e u f.0.0))))

    calm : {b k : ℕ} {xs : List Step} {l d : Bool} {h : Holding} {es : List Exchange} {t : Result} → Follows g a b xs l d h es k t → AllHonest es
        → Sound l d xs → Calm xs h es k t
    unfolding shape_of frame_byte tabulate taken_by is_wait waits_in
    calm (done {h = h}) u s = record { left = h; result = refl; sent = refl; frames = refl; polls = refl }
    calm (waited {xs = xs} {l = l} {e = e} (ready f d i) v m) u s =
        more f.0 (m ∙ omega arith) (calm v u.1 (subst (λ (z : Bool). Sound l z xs) (sym (ap (λ (o : Heard). o.guarded) (status-told e u.0 f.0))) s))
    calm (waited (again {e = e} f c z) v m) u s = not-busy e u.0 f
    calm (halted (lost {e = e} f c)) u s = absurd (u.0.0 c)
    calm (halted (foreign {e = e} f d)) u s = absurd (d (eqb-true (status_in e / 4 % 16) 9 (ap (λ (o : Heard). o.density) (status-told e u.0 f.0))))
    calm (halted (busy {e = e} f c)) u s = not-busy e u.0 f
    calm (halted (again {e = e} f c z)) u s = not-busy e u.0 f
    calm (cut z f c) u s = absurd (u.0.0 c)
    calm (listed {xs = xs} {d = d} {h = h} {e = e} f v) u s =
        more {x = Protection} f.0 (omega arith) (calm v u.1 (subst (λ (z : Bool). Sound z d xs) (sym (ap (λ (l : List ℕ). has_bits g l S)
        (ap (register_in g) (u.0.2 ∙ ap (reply_of g r u.0.1) f.0) ∙ protection-told u.0.1 a.kind h))) s))
    calm (shut {l = l} {d = d} {h = h} {e = e} f z) u s =
        never (sym s.0 ∙ ap (λ (q : List ℕ). has_bits g q S || (l && d)) (sym (ap (register_in g) (u.0.2 ∙ ap (reply_of g r u.0.1) f.0) ∙ lockdown-told u.0.1 a.kind h)) ∙ z)
    calm (free {e = e} f z v) u s = more {x = Lockdown} f.0 (omega arith) (calm v u.1 s.1)
    calm (plain {k = k} {x = x} {xs = xs} {l = l} {d = d} y f v) u s =
        more {x = x} f.0 (omega arith ∙ ap (λ (b : Bool). cond b 1 0 + k) (sym (plain_wait x y))) (calm v u.1 (plain-sound x xs l d y s))

  -- ---- a run with an empty script

  -- once its busy end has come, a step's frame has left the registers
  returns : (k : Kind) (h : Holding) (x : Step) → is_end x ≡ false → completed g (control g r (frame_of g k h x)).registers ≡ r
  unfolding shape_of frame_byte tabulate is_end
  returns k h (Wait c) e = ap (completed g) (status_keeps g r (0 ∷ [])) ∙ completed_idle g r y.0
  returns k h Protection e = ap (completed g) (protection-registers g r k h) ∙ completed_idle g r y.0
  returns k h Lockdown e = ap (completed g) (lockdown-registers g r k h) ∙ completed_idle g r y.0
  returns k h (Read p) e = ap (completed g) (read_keeps g r k h p) ∙ completed_idle g r y.0
  returns k h (Load p) e = ap (completed g) (load_registers g r k p h) ∙ completed_idle g r y.0
  returns k h (Send c p) e = send_returns g r k h p y c
  returns k h End e = never (sym e)

  module _ (a : Asked) (log junk : ℕ) (flaws : Flaws) where
    abbrev v : Request
    v = request a [] log junk flaws

    -- one step leaves the registers, and is no cut
    step_returns : (n : ℕ) (p : Open) (q : Closed) → is_ended p.course.stage ≡ false → is_end (step_of g a p.course) ≡ false → p.registers ≡ r
        → ((step_open g v p q).registers ≡ r) × ((step_open g v p q).cut ≡ false)
    unfolding open_after registers_after
    step_returns n p q z o e = (
      ap (λ (t : Open). t.registers) (open_is g v n p q z) ∙ ap (λ (t : Registers). completed g (control g t (sends g v p q)).registers) e ∙ returns a.kind q.holding (step_of g a p.course) o,
      ap (λ (t : Open). t.cut) (open_is g v n p q z),
    )

    honest_run : (n : ℕ) (p : Open) (q : Closed) → Ok (plan_of g a) a.limit n p.course → p.registers ≡ r → AllHonest (exchanges_of n g v p q)
    unfolding exchanges_of
    honest_run zero p q w e = tt
    honest_run (suc n) p q w e =
        go (is_ended p.course.stage) refl (λ u. honest_run n (step_open g v p q) (step_closed g v p q) (step_ok g v p q n w) u)
      where
        go : (b : Bool) → is_ended p.course.stage ≡ b → ((step_open g v p q).registers ≡ r → AllHonest (exchanges_of n g v (step_open g v p q) (step_closed g v p q)))
            → AllHonest (exchanges_of (suc n) g v p q)
        go true z f = subst AllHonest (sym (ended-none g v (suc n) p q z)) tt
        go false z f =
            subst AllHonest (sym (first g v n p q z)) (
              ((λ y. absurd (omega (arith, y))), q.memory, ap (λ (t : Registers). reply_of g t q.memory (sends g v p q)) e),
              f (step_returns n p q z (w.step z) e).0,
            )

    -- a run leaves the registers, and is not cut
    pub calm_run : (n : ℕ) (p : Open) (q : Closed) → Ok (plan_of g a) a.limit n p.course → p.registers ≡ r → p.cut ≡ false
        → ((run n g v p q).0.registers ≡ r) × ((run n g v p q).0.cut ≡ false)
    unfolding run
    calm_run zero p q w e c = (e, c)
    calm_run (suc n) p q w e c =
        go (is_ended p.course.stage) refl (λ x y. calm_run n (step_open g v p q) (step_closed g v p q) (step_ok g v p q n w) x y)
      where
        go : (b : Bool) → is_ended p.course.stage ≡ b
            → ((step_open g v p q).registers ≡ r → (step_open g v p q).cut ≡ false → ((run n g v (step_open g v p q) (step_closed g v p q)).0.registers ≡ r) × ((run n g v (step_open g v p q) (step_closed g v p q)).0.cut ≡ false))
            → ((run n g v (step_open g v p q) (step_closed g v p q)).0.registers ≡ r) × ((run n g v (step_open g v p q) (step_closed g v p q)).0.cut ≡ false)
        go true z f = let s = (step-ended g v p q z).0 in f (ap (λ (t : Open). t.registers) s ∙ e) (ap (λ (t : Open). t.cut) s ∙ c)
        go false z f = let s = step_returns n p q z (w.step z) e in f s.0 s.1

-- ---- the plans

-- 10 is tested after 32 and 35 alone
page_free : (k : Kind) (p : ℕ) → every is_free (page_steps k p) ≡ true
unfolding page_steps every is_free
page_free Put p = refl
page_free Patch p = refl
page_free Get p = refl
page_free Wipe p = refl

module _ (g : Geometry) (full : Roomed g) (a : Asked) (r : Registers) (y : Ready r) (n : Lengths r) where
  plan_sound : (k : Kind) (slot : ℕ) → (is_asking k ≡ true → sealed g r (sector_for g a) ≡ false) → Sound g full r y n a false false (plan_by k g slot)
  unfolding plan_by sealed
  plan_sound k slot u = go (is_asking k) u
    where
      rest : List Step
      rest = pages (run_by k g slot).count (run_by k g slot).first (page_steps k)

      free-rest : every is_free rest ≡ true
      free-rest = every-pages is_free (run_by k g slot).count (run_by k g slot).first (page_steps k) (page_free k)

      go : (b : Bool) → (b ≡ true → sealed g r (sector_for g a) ≡ false) → Sound g full r y n a false false (opening b ++ rest)
      go true u = (u refl, sound-free g full r y n a (has_bits g r.protection (sector_for g a)) (guarded r) rest free-rest)
      go false u = sound-free g full r y n a false (guarded r) rest free-rest

-- ---- a call

-- an accepted call that nothing disturbs comes to its plan's end
pub record EndsWell (g : Geometry) (a : Asked) (v : Request) (x : Secret) (s : State) : Type 0 where
  pub listed : AsListed g a (start_closed x s.memory).holding (exchanges g v x s) (call_out g v x s)
  pub stage : (ran g v x s).0.course.stage ≡ Some Answers.Done
  pub registers : (ran g v x s).0.registers ≡ s.registers
  pub uncut : (ran g v x s).0.cut ≡ false

pub ends_well : (g : Geometry) → Roomed g → (a : Asked) (log junk : ℕ) (flaws : Flaws) (x : Secret) (s : State) → Undisturbed g a s.registers
    → eqb (number_of (refusal_of g (length s.memory.array) (request a [] log junk flaws))) 0 ≡ true → EndsWell g a (request a [] log junk flaws) x s
unfolding exchanges ran start_open
ends_well g full a log junk flaws x s u e =
    let v = request a [] log junk flaws in
    let r = s.registers in
    let k = comes g v x s e in
    let w = k.planned in
    let honest = honest_run g full r u.ready u.lengths a log junk flaws (bound g a) (start_open g (length s.memory.array) v r) (start_closed x s.memory) (begin_ok g (length s.memory.array) v e) refl in
    let z = calm g full r u.ready u.lengths a w.follows honest (plan_sound g full a r u.ready u.lengths a.kind a.slot u.unsealed) in
    let c = calm_run g full r u.ready u.lengths a log junk flaws (bound g a) (start_open g (length s.memory.array) v r) (start_closed x s.memory) (begin_ok g (length s.memory.array) v e) refl refl in
    record {
      listed =
          record {
            left = z.left;
            sent = z.sent;
            frames = w.frames ∙ z.frames ∙ steps a.kind g a.slot;
            polls = z.polls ∙ waits a.kind g a.slot;
            lines = w.lines;
            answer = w.answer ∙ ap answer_for z.result;
          };
      stage = (subst (λ (t : Result). Ends (on_chip g v) t (ran g v x s)) z.result k.ends).0;
      registers = c.0;
      uncut = c.1;
    }

-- FRAMES AS LISTED: it sends its plan, one D7 a wait
pub frames_as_listed : (g : Geometry) (a : Asked) (log junk : ℕ) (flaws : Flaws) (x : Secret) (s : State) → part_in s ≡ Some g → Undisturbed g a s.registers
    → eqb (number_of (refusal_of g (length s.memory.array) (request a [] log junk flaws))) 0 ≡ true
    → AsListed g a (start_closed x s.memory).holding (exchanges g (request a [] log junk flaws) x s) (call_out g (request a [] log junk flaws) x s)
frames_as_listed g a log junk flaws x s k u e =
    (ends_well g (placed_sized (length s.memory.array) s.registers.operation g k).short a log junk flaws x s u e).listed
