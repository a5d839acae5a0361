-- 8, 9 and 11 EXACTLY where the exchanges say so: in a call that follows its plan every exchange but the last stops nothing, and the last one says
-- why it was the last. A step's frame other than a wait's is longer than a poll, so that no other frame is taken for one.
-- Assumes nothing.
use Prim.Native.Nat.{ℕ, ◌+◌, ◌≤◌}
use native.Mathlib.Omega.{arith}
use mathlib.Core.Path.{◌≡◌, refl, sym, ap, ◌∙◌}
use mathlib.Core.Bool.{Bool, true, false}
use mathlib.Core.List.{List, [], ◌∷◌, ◌++◌}
use lib.ListN.{length, length-append}
use lib.Dec.{eqb}
use Rattle.slices.proofs.Laws.{length-tabulate}
use Rattle.geometry.specs.declared.Geometry.{Geometry}
use Rattle.state.specs.Answers.{number_of}
use Rattle.state.specs.Memory.{State}
use Rattle.slots.specs.declared.Kind.{Kind}
use Rattle.slots.specs.declared.Step.{Step}
use Rattle.slots.specs.declared.Step.TheVariants.{Wait, Protection, Lockdown, Read, Load, Send, End}
use Rattle.slots.specs.Plans.{Asked, step_at, is_wait, is_end}
use Rattle.slots.specs.Driver.{Holding, shape_of, frame_byte, loaded, frame_of}
use Rattle.slots.specs.Calls.{Request, Secret, refusal_of}
use Rattle.slots.specs.Exchanges.{Exchange, exchanges, status_frame, status_in, IsReady, FoundBusy, Turn, goes, stops, Polls, Result, finished, stopped, is_plain, Sent, Follows, Calm, StopsAt}
use Rattle.slots.specs.Exchanges as P
use Rattle.slots.proofs.Places.{never}
use Rattle.slots.proofs.Accepted.{first_some}
use Rattle.slots.proofs.Planned.{frames_as_planned}

-- ---- frames that are no polls

pub long : (g : Geometry) (x : Step) → is_wait x ≡ false → is_end x ≡ false → 3 ≤ (shape_of g x).length
unfolding shape_of is_wait is_end
long g (Wait c) w e = never (sym w)
long g Protection w e = omega arith
long g Lockdown w e = omega arith
long g (Read p) w e = omega arith
long g (Load p) w e = omega arith
long g (Send c p) w e = omega arith
long g End w e = never (sym e)

no_poll : (g : Geometry) (k : Kind) (h : Holding) (x : Step) → is_wait x ≡ false → is_end x ≡ false → frame_of g k h x ≡ status_frame → ⊥
no_poll g k h x w e q =
    omega (arith, long g x w e, length-tabulate (shape_of g x).length (frame_byte (shape_of g x) (loaded g k h x)), ap length q)

pub plain_no_wait : (x : Step) → is_plain x ≡ true → (is_wait x ≡ false) × (is_end x ≡ false)
unfolding is_plain is_wait is_end
plain_no_wait (Wait c) e = never e
plain_no_wait Protection e = never e
plain_no_wait Lockdown e = never e
plain_no_wait (Read p) e = (refl, refl)
plain_no_wait (Load p) e = (refl, refl)
plain_no_wait (Send c p) e = (refl, refl)
plain_no_wait End e = never e

-- ---- exchanges in a row

-- what follows an exchange that stops nothing: nothing at the plan's end, or others that stop
abbrev After : List Exchange → Result → Type 0
After [] (finished h) = Unit {0}
After [] (stopped n) = ⊥
After (e ∷ es) t = StopsAt (e ∷ es) t

join : (e : Exchange) → Calm e → (e.frame ≡ status_frame → IsReady (status_in e)) → (es : List Exchange) (t : Result) → After es t → StopsAt (e ∷ es) t
join e c r [] (finished h) a = P.at_end {e = e} c r
join e c r [] (stopped n) a = absurd a
join e c r (f ∷ es) t a = (c, a)

on : (es : List Exchange) (t : Result) → StopsAt es t → After es t
on [] t w = absurd w
on (e ∷ es) t w = w

busy_calm : (e : Exchange) → FoundBusy e → Calm e
busy_calm e f = (f.0.1, λ _. f.1)

polls-some : {b : ℕ} {es : List Exchange} {u : Turn} → Polls b es u → 1 ≤ length es
polls-some (P.lost f c) = omega arith
polls-some (P.foreign f d) = omega arith
polls-some (P.ready f d r) = omega arith
polls-some (P.busy f l) = omega arith
polls-some (P.again f l w) = omega arith

-- the polls of a wait: what follows goes on from the last of them, or the call stops there
abbrev Turns : List Exchange → Turn → Type 0
Turns es (goes e) = (fs : List Exchange) (t : Result) → After fs t → StopsAt (es ++ fs) t
Turns es (stops n) = StopsAt es (stopped n)

again : (e o : Exchange) (es : List Exchange) (u : Turn) → Calm e → Turns (o ∷ es) u → Turns (e ∷ (o ∷ es)) u
again e o es (goes f) c w = λ fs t a. (c, w fs t a)
again e o es (stops n) c w = (c, w)

turns : {b : ℕ} {es : List Exchange} {u : Turn} → Polls b es u → Turns es u
turns (P.lost {e = e} f c) = P.at_cut {e = e} c
turns (P.foreign {e = e} f d) = P.at_foreign {e = e} f d
turns (P.ready {e = e} f d r) = λ fs t a. join e (f.1, λ _. d) (λ _. r) fs t a
turns (P.busy {e = e} f l) = P.at_busy {e = e} f
turns (P.again {es = []} f l w) = absurd (omega (arith, polls-some w))
turns (P.again {e = e} {es = o ∷ es} {t = u} f l w) = again e o es u (busy_calm e f) (turns w)

-- ---- a call

sent_calm : (g : Geometry) (a : Asked) (h : Holding) (e : Exchange) (x : Step) → Sent g a e x h → is_wait x ≡ false → is_end x ≡ false
    → (Calm e) × (e.frame ≡ status_frame → ⊥)
sent_calm g a h e x f w z = let n : (e.frame ≡ status_frame → ⊥) = λ q. no_poll g a.kind h x w z (sym f.0 ∙ q) in ((f.1, λ q. absurd (n q)), n)

module _ (g : Geometry) (a : Asked) where
  follows-after : {b k : ℕ} {xs : List Step} {l d : Bool} {h : Holding} {es : List Exchange} {t : Result} → Follows g a b xs l d h es k t → After es t
  unfolding is_wait is_end
  follows-after P.done = tt
  follows-after (P.waited {e = e} {es = es} {fs = fs} {t = t} w u m) = on (es ++ fs) t (turns w fs t (follows-after u))
  follows-after (P.halted {es = es} {n = n} w) = on es (stopped n) (turns w)
  follows-after (P.cut {e = e} w f c) = P.at_cut {e = e} c
  follows-after (P.listed {h = h} {e = e} {es = es} {t = t} f u) =
      let z = sent_calm g a h e Protection f refl refl in join e z.0 (λ q. absurd (z.1 q)) es t (follows-after u)
  follows-after (P.shut {h = h} {e = e} f r) = let z = sent_calm g a h e Lockdown f refl refl in P.at_seal {e = e} z.0 z.1
  follows-after (P.free {h = h} {e = e} {es = es} {t = t} f r u) =
      let z = sent_calm g a h e Lockdown f refl refl in join e z.0 (λ q. absurd (z.1 q)) es t (follows-after u)
  follows-after (P.plain {x = x} {h = h} {e = e} {es = es} {t = t} y f u) =
      let w = plain_no_wait x y in
      let z = sent_calm g a h e x f w.0 w.1 in join e z.0 (λ q. absurd (z.1 q)) es t (follows-after u)

  -- a step sends at least one frame
  follows-some : {b k : ℕ} {xs : List Step} {l d : Bool} {h : Holding} {es : List Exchange} {t : Result} → Follows g a b xs l d h es k t → is_end (step_at xs 0) ≡ false
      → 1 ≤ length es
  unfolding step_at is_end
  follows-some P.done e = never (sym e)
  follows-some (P.waited {es = es} {fs = fs} w u m) e = omega (arith, polls-some w, length-append es fs)
  follows-some (P.halted w) e = polls-some w
  follows-some (P.cut w f c) e = omega arith
  follows-some (P.listed f u) e = omega arith
  follows-some (P.shut f r) e = omega arith
  follows-some (P.free f r u) e = omega arith
  follows-some (P.plain y f u) e = omega arith

off : (es : List Exchange) (t : Result) → 1 ≤ length es → After es t → StopsAt es t
off [] t l w = absurd (omega arith)
off (e ∷ es) t l w = w

-- EXACTLY: an accepted call ends at the first exchange that is cut (11), or is a poll whose bits 5-2 are not 1001 (8), or is the last of B that find the
-- chip busy (9); or at the test of the seal (10), or at its plan's end
pub stops_exactly : (g : Geometry) (v : Request) (x : Secret) (s : State) (ok : eqb (number_of (refusal_of g (length s.memory.array) v)) 0 ≡ true)
    → StopsAt (exchanges g v x s) (frames_as_planned g v x s ok).result
stops_exactly g v x s ok =
    let z = frames_as_planned g v x s ok in
    off (exchanges g v x s) z.result (follows-some g v.asked z.follows (first_some v.asked.kind g v.asked.slot)) (follows-after g v.asked z.follows)
