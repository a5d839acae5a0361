-- Whatever the replies and the script, the frames that the driver sends are its plan's in order, each wait up to B status frames, cut off
-- where the call ended: for any machine that drives a plan.
-- Assumes nothing.
use Rattle.std.specs.Prelude.{None, Some}
use Prim.Native.Nat.{ℕ, zero, suc, ◌+◌, ◌-◌, ◌/◌, ◌%◌, ◌<◌, ◌≤◌}
use native.Mathlib.Omega.{arith}
use mathlib.Core.Path.{◌≡◌, refl, sym, ap, subst, ◌∙◌}
use mathlib.Core.Bool.{Bool, true, false, cond, not, ◌&&◌, ◌||◌}
use mathlib.Core.List.{List, [], ◌∷◌}
use mathlib.Core.Logic.{◌⊎◌, inl, inr}
use lib.ListN.{length, get_or}
use lib.Dec.{eqb, leb}
use borrow.Author.Tests.{leb-true, leb-false, eqb-true, eqb-false}
use Rattle.slices.specs.Lists.{tabulate}
use Rattle.geometry.specs.declared.Geometry.{Geometry}
use Rattle.state.specs.declared.Answer.{Answer}
use Rattle.state.specs.declared.Answer.TheVariants as Answers
use Rattle.state.specs.Answers.{number_of}
use Rattle.slots.specs.declared.Course.{Course}
use Rattle.slots.specs.declared.Kind.{Kind}
use Rattle.slots.specs.declared.Step.{Step}
use Rattle.slots.specs.declared.Step.TheVariants.{Wait, Protection, Lockdown, Read, Load, Send, End}
use Rattle.slots.specs.Plans.{Asked, plan_of, sector_for, step_at, is_end, is_wait}
use Rattle.slots.specs.Driver.{Holding, shape_of, frame_byte, frame_of, heard, ended, moved, noted, marking, fewer, course_by, compare_in, marred, taken_by, step_of, is_ended}
use Rattle.slots.specs.Exchanges.{Exchange, status_in, guarded_in, Polled, FoundBusy, Turn, goes, stops, Polls, lost, foreign, ready, busy, again, Result, finished, stopped, is_plain, held_in, Follows, done, waited, halted, cut, listed, shut, free, plain}
use Rattle.slots.proofs.Places.{never, rest_at, rest-step, rest-none, plan_proper}
use Rattle.slots.proofs.Accepted.{picked}
use Rattle.slots.proofs.Bound.{Ok, stop_ok, after_ok, some_left}

pub other : {A : Type 0} (b : Bool) (x y : A) → b ≡ false → cond b x y ≡ y
other b x y e = ap (λ (t : Bool). cond t x y) e

-- ---- what the polls of a wait come to

-- a wait is 1 to B frames D7 00
pub polls-few : {b : ℕ} {es : List Exchange} {t : Turn} → 1 ≤ b → Polls b es t → (1 ≤ length es) × (length es ≤ b)
polls-few h (lost f c) = (omega arith, omega arith)
polls-few h (foreign f d) = (omega arith, omega arith)
polls-few h (ready f d r) = (omega arith, omega arith)
polls-few h (busy f l) = (omega arith, omega arith)
polls-few h (again f l w) = let z = polls-few (omega arith) w in (omega arith, omega (arith, z.1, l))

-- 9 exactly after B polls, each of which found the chip busy
abbrev pub AllBusy : List Exchange → Type 0
AllBusy [] = Unit {0}
AllBusy (e ∷ es) = FoundBusy e × AllBusy es

pub polls-busy : {b : ℕ} {es : List Exchange} {t : Turn} → 1 ≤ b → Polls b es t → t ≡ stops Answers.Busy → (length es ≡ b) × AllBusy es
polls-busy h (lost f c) e = let z : ◌≡◌ {A = ℕ} 0 1 = cc in absurd (omega arith)
polls-busy h (foreign f d) e = let z : ◌≡◌ {A = ℕ} 0 1 = cc in absurd (omega arith)
polls-busy h (ready f d r) e = let z : ◌≡◌ {A = ℕ} 0 1 = cc in absurd (omega arith)
polls-busy h (busy f l) e = (omega arith, (f, tt))
polls-busy h (again f l w) e = let z = polls-busy (omega arith) w e in (omega (arith, l, z.0), (f, z.1))

pub busy-polls : (b : ℕ) (es : List Exchange) → 1 ≤ b → length es ≡ b → AllBusy es → Polls b es (stops Answers.Busy)
busy-polls b [] h l u = absurd (omega arith)
busy-polls b (e ∷ []) h l u = let k : b ≤ 1 = omega arith in busy u.0 k
busy-polls b (e ∷ (f ∷ es)) h l u = let k : 1 < b = omega arith in again u.0 k (busy-polls (b - 1) (f ∷ es) (omega arith) (omega arith) u.1)

-- a status that does not tell ready leaves the data, checked or not
pub busy_keeps : (c : Bool) (g : Geometry) (k : Kind) (h : Holding) (reply : List ℕ) → eqb (get_or reply 1 255 / 128 % 2) 1 ≡ false → taken_by (Wait c) g k h reply ≡ h
unfolding taken_by compare_in
busy_keeps true g k h reply e = λ i. cond (e i && eqb (get_or reply 1 255 / 64 % 2) 1) (marred h) h
busy_keeps false g k h reply e = refl

-- ---- a machine that drives a plan: the calls on the chip, or the driver alone with any replies

pub record Machine (g : Geometry) (a : Asked) : Type 1 where
  pub State : Type 0
  pub course : State → Course
  pub holding : State → Holding
  pub polls : State → ℕ
  pub exchange : State → Exchange
  pub step : State → State
  pub sent : (s : State) → (exchange s).frame ≡ frame_of g a.kind (holding s) (step_of g a (course s))
  pub stands : (s : State) → is_ended (course s).stage ≡ true → step s ≡ s
  pub counts : (s : State) → is_ended (course s).stage ≡ false → polls (step s) ≡ polls s + cond (is_wait (step_of g a (course s))) 1 0
  pub takes : (s : State) → is_ended (course s).stage ≡ false → holding (step s) ≡ taken_by (step_of g a (course s)) g a.kind (holding s) (exchange s).reply
  pub cuts : (s : State) → is_ended (course s).stage ≡ false → eqb (exchange s).byte 2 ≡ true → course (step s) ≡ ended Answers.Cut (course s)
  pub goes : (s : State) → is_ended (course s).stage ≡ false → eqb (exchange s).byte 2 ≡ false
      → course (step s) ≡ course_by (step_of g a (course s)) (step_at (plan_of g a) (suc (course s).place)) a.limit (course s)
      (heard g (step_of g a (course s)) (sector_for g a) (exchange s).reply)

unfoldable pub run_on : {g : Geometry} {a : Asked} (M : Machine g a) → ℕ → M.State → M.State
run_on M zero s = s
run_on M (suc n) s = run_on M n (M.step s)

unfoldable pub exchanges_on : {g : Geometry} {a : Asked} (M : Machine g a) → ℕ → M.State → List Exchange
exchanges_on M zero s = []
exchanges_on M (suc n) s = cond (is_ended (M.course s).stage) [] (M.exchange s ∷ exchanges_on M n (M.step s))

-- how a run comes to its end
abbrev pub Ends : {g : Geometry} {a : Asked} (M : Machine g a) → Result → M.State → Type 0
Ends M (finished h) s = ((M.course s).stage ≡ Some Answers.Done) × (M.holding s ≡ h)
Ends M (stopped n) s = ((M.course s).stage ≡ Some n)

module _ (g : Geometry) (a : Asked) (M : Machine g a) where
  -- n steps from p and q, the course being c and the data h, follow what is left of the plan
  pub record Led (n : ℕ) (s : M.State) (c : Course) (h : Holding) : Type 0 where
    pub result : Result
    pub polls : ℕ
    pub follows : Follows g a c.left (rest_at (plan_of g a) c.place) c.listed c.guarded h (exchanges_on M n s) polls result
    pub counted : M.polls (run_on M n s) ≡ M.polls s + polls
    pub ends : Ends M result (run_on M n s)

  pub ended_stands : (n : ℕ) (s : M.State) → is_ended (M.course s).stage ≡ true → (run_on M n s ≡ s) × (exchanges_on M n s ≡ [])
  unfolding run_on exchanges_on
  ended_stands zero s e = (refl, refl)
  ended_stands (suc n) s e =
      let z = M.stands s e in
      (ap (run_on M n) z ∙ (ended_stands n s e).0, picked (is_ended (M.course s).stage) [] _ e)

  -- one exchange more in a wait
  more : {b k : ℕ} {xs : List Step} {l d x : Bool} {h : Holding} {e : Exchange} {es : List Exchange} {t : Result}
      → FoundBusy e → 1 < b → Follows g a (b - 1) (Wait x ∷ xs) l d h es k t → Follows g a b (Wait x ∷ xs) l d h (e ∷ es) (suc k) t
  unfolding is_wait is_plain
  more {b} {k} {e = e} f l (waited {k = j} {es = es} w u m) = waited (again {e = e} f l w) u (count k (length es) j m)
    where
      count : (x y z : ℕ) → x ≡ y + z → suc x ≡ suc y + z
      count x y z h = omega arith
  more {e = e} f l (halted w) = halted (again {e = e} f l w)
  more f l (cut z s c) = never (sym z)
  more f l (plain z s u) = never z

  module _ (n : ℕ) (s : M.State) (live : is_ended (M.course s).stage ≡ false) where
    abbrev c : Course
    c = M.course s

    abbrev e : Exchange
    e = M.exchange s

    first : exchanges_on M (suc n) s ≡ e ∷ exchanges_on M n (M.step s)
    unfolding exchanges_on
    first = other (is_ended (M.course s).stage) [] (e ∷ exchanges_on M n (M.step s)) live

    -- the whole from what follows the first exchange
    lead : (k : ℕ) (t : Result)
        → Follows g a c.left (rest_at (plan_of g a) c.place) c.listed c.guarded (M.holding s) (e ∷ exchanges_on M n (M.step s)) k t
        → M.polls (run_on M n (M.step s)) ≡ M.polls s + k → Ends M t (run_on M n (M.step s)) → Led (suc n) s c (M.holding s)
    unfolding run_on
    lead k t f m z =
        record {
          result = t;
          polls = k;
          follows = subst (λ (es : List Exchange). Follows g a c.left (rest_at (plan_of g a) c.place) c.listed c.guarded (M.holding s) es k t) (sym first) f;
          counted = m;
          ends = z;
        }

    -- the call ends here
    stop_lead : (o : Answer) (k : ℕ) → (M.course (M.step s)).stage ≡ Some o → M.polls (M.step s) ≡ M.polls s + k
        → Follows g a c.left (rest_at (plan_of g a) c.place) c.listed c.guarded (M.holding s) (e ∷ []) k (stopped o)
        → Led (suc n) s c (M.holding s)
    unfolding is_ended
    stop_lead o k t m f =
        let over : is_ended (M.course (M.step s)).stage ≡ true = ap is_ended t in
        let z = ended_stands n (M.step s) over in
        lead k (stopped o)
        (subst (λ (es : List Exchange). Follows g a c.left (rest_at (plan_of g a) c.place) c.listed c.guarded (M.holding s) (e ∷ es) k (stopped o)) (sym z.1) f)
        (ap M.polls z.0 ∙ m) (ap (λ (o : M.State). (M.course o).stage) z.0 ∙ t)

    -- it goes on
    go_lead : {c₁ : Course} {h₁ : Holding} (f : ℕ → ℕ) → ((k : ℕ) → M.polls (M.step s) + k ≡ M.polls s + f k)
        → ((k : ℕ) (t : Result)
        → Follows g a c₁.left (rest_at (plan_of g a) c₁.place) c₁.listed c₁.guarded h₁ (exchanges_on M n (M.step s)) k t
        → Follows g a c.left (rest_at (plan_of g a) c.place) c.listed c.guarded (M.holding s) (e ∷ exchanges_on M n (M.step s)) (f k) t)
        → Led n (M.step s) c₁ h₁ → Led (suc n) s c (M.holding s)
    go_lead f m u z = lead (f z.polls) z.result (u z.polls z.result z.follows) (z.counted ∙ m z.polls) z.ends

  -- a course from which a run can be led: still going, or at the plan's end
  abbrev pub Fine : Course → Type 0
  Fine c = (is_ended c.stage ≡ false) ⊎ ((c.stage ≡ Some Answers.Done) × (is_end (step_at (plan_of g a) c.place) ≡ true))

  moved_fine : (i : ℕ) (l : Course) → Fine (moved (step_at (plan_of g a) (suc l.place)) i l)
  unfolding is_ended
  moved_fine i l = go (is_end (step_at (plan_of g a) (suc l.place))) refl
    where
      go : (b : Bool) → is_end (step_at (plan_of g a) (suc l.place)) ≡ b
          → (is_ended (cond b (Some Answers.Done) None) ≡ false) ⊎ ((cond b (Some Answers.Done) None ≡ Some Answers.Done) × (is_end (step_at (plan_of g a) (suc l.place)) ≡ true))
      go true e = inr (refl, e)
      go false e = inl refl

  -- what a step is known to do, x being the step
  record Facts (s : M.State) (x : Step) : Type 0 where
    some : is_end x ≡ false
    frame : (M.exchange s).frame ≡ frame_of g a.kind (M.holding s) x
    rest : rest_at (plan_of g a) (M.course s).place ≡ x ∷ rest_at (plan_of g a) (suc (M.course s).place)
    polls : M.polls (M.step s) ≡ M.polls s + cond (is_wait x) 1 0
    holding : M.holding (M.step s) ≡ taken_by x g a.kind (M.holding s) (M.exchange s).reply
    course : eqb (M.exchange s).byte 2 ≡ false
        → M.course (M.step s) ≡ course_by x (step_at (plan_of g a) (suc (M.course s).place)) a.limit (M.course s)
        (heard g x (sector_for g a) (M.exchange s).reply)

  module _ (n : ℕ) (s : M.State) (live : is_ended (M.course s).stage ≡ false)
      (ih : Fine (M.course (M.step s)) → Led n (M.step s) (M.course (M.step s)) (M.holding (M.step s))) where
    abbrev k : Course
    k = M.course s

    abbrev x₁ : Exchange
    x₁ = M.exchange s

    abbrev F : Step → Type 0
    F = Facts s

    abbrev Aim : List Step → List Exchange → ℕ → Result → Type 0
    Aim xs es m t = Follows g a k.left xs k.listed k.guarded (M.holding s) es m t

    abbrev tail : List Step
    tail = rest_at (plan_of g a) (suc k.place)

    abbrev step₁ : Step
    step₁ = step_at (plan_of g a) (suc k.place)

    placed : {x : Step} {es : List Exchange} {m : ℕ} {t : Result} → F x → Aim (x ∷ tail) es m t → Aim (rest_at (plan_of g a) k.place) es m t
    placed {x} {es} {m} {t} f u = subst (λ (xs : List Step). Aim xs es m t) (sym f.rest) u

    next_led : (c₁ : Course) (h₁ : Holding) → M.course (M.step s) ≡ c₁ → M.holding (M.step s) ≡ h₁ → Fine c₁ → Led n (M.step s) c₁ h₁
    next_led c₁ h₁ d e f =
        subst (λ (c : Course). Fine c → Led n (M.step s) c h₁) d
        (subst (λ (h : Holding). Fine (M.course (M.step s)) → Led n (M.step s) (M.course (M.step s)) h) e ih) f

    -- a frame that is no poll: cut, or the step₁ step
    abbrev Led₁ : Type 0
    Led₁ = Led (suc n) s k (M.holding s)

    one_more : (x : Step) → F x → is_wait x ≡ true → (m : ℕ) → M.polls (M.step s) + m ≡ M.polls s + suc m
    one_more x f w m =
        let z : M.polls (M.step s) ≡ M.polls s + 1 = f.polls ∙ ap (λ (b : Bool). M.polls s + cond b 1 0) w in omega (arith, z)

    no_more : (x : Step) → F x → is_wait x ≡ false → (m : ℕ) → M.polls (M.step s) + m ≡ M.polls s + m
    no_more x f w m =
        let z : M.polls (M.step s) ≡ M.polls s + 0 = f.polls ∙ ap (λ (b : Bool). M.polls s + cond b 1 0) w in omega (arith, z)

    cut_led : (x : Step) → F x → is_wait x ≡ false → eqb x₁.byte 2 ≡ true → Led₁
    cut_led x f w z =
        stop_lead n s live Answers.Cut 0 (ap (λ (d : Course). d.stage) (M.cuts s live z)) (f.polls ∙ ap (λ (b : Bool). M.polls s + cond b 1 0) w)
        (placed f (cut w f.frame (eqb-true x₁.byte 2 z)))

    onward_led : (x : Step) (l : Course) → F x → is_wait x ≡ false → l.place ≡ k.place → M.course (M.step s) ≡ moved step₁ a.limit l
        → ((m : ℕ) (t : Result) → Follows g a a.limit tail l.listed l.guarded (taken_by x g a.kind (M.holding s) x₁.reply) (exchanges_on M n (M.step s)) m t
        → Aim (x ∷ tail) (x₁ ∷ exchanges_on M n (M.step s)) m t) → Led₁
    onward_led x l f w o d u =
        go_lead n s live (λ m. m) (no_more x f w)
        (λ m t z. placed f (u m t (subst (λ (i : ℕ). Follows g a a.limit (rest_at (plan_of g a) (suc i)) l.listed l.guarded (taken_by x g a.kind (M.holding s) x₁.reply) (exchanges_on M n (M.step s)) m t) o z)))
        (next_led (moved step₁ a.limit l) (taken_by x g a.kind (M.holding s) x₁.reply) d f.holding
        (subst (λ (i : ℕ). Fine (moved (step_at (plan_of g a) (suc i)) a.limit l)) o (moved_fine a.limit l)))

    plain_led : (x : Step) → F x → is_wait x ≡ false → is_plain x ≡ true → (eqb x₁.byte 2 ≡ false → M.course (M.step s) ≡ moved step₁ a.limit k) → Led₁
    plain_led x f w y d = go (eqb x₁.byte 2) refl
      where
        go : (b : Bool) → eqb x₁.byte 2 ≡ b → Led₁
        go true z = cut_led x f w z
        go false z = onward_led x k f w refl (d z) (λ m t u. plain y (f.frame, eqb-false x₁.byte 2 z) u)

    wait_led : (x : Bool) → F (Wait x) → Led₁
    unfolding is_wait shape_of frame_byte tabulate heard course_by is_ended
    wait_led x f = cut? (eqb x₁.byte 2) refl
      where
        left? : FoundBusy x₁ → eqb (status_in x₁ / 128 % 2) 1 ≡ false → (b : Bool) → leb k.left 1 ≡ b → M.course (M.step s) ≡ cond b (ended Answers.Busy k) (fewer k) → Led₁
        left? u v true l d =
            stop_lead n s live Answers.Busy 1 (ap (λ (c : Course). c.stage) d) f.polls (placed f (halted (busy u (leb-true k.left 1 l))))
        left? u v false l d =
            go_lead n s live (λ m. suc m) (one_more (Wait x) f refl)
            (λ m t y. placed f (more u (leb-false k.left 1 l)
            (subst (λ (xs : List Step). Follows g a (k.left - 1) xs k.listed k.guarded (M.holding s) (exchanges_on M n (M.step s)) m t) f.rest y)))
            (next_led (fewer k) (M.holding s) d (f.holding ∙ busy_keeps x g a.kind (M.holding s) x₁.reply v) (inl live))

        heard? : Polled x₁ → (d r : Bool) → eqb (status_in x₁ / 4 % 16) 9 ≡ d → eqb (status_in x₁ / 128 % 2) 1 ≡ r
            → M.course (M.step s) ≡ cond (not d) (ended Answers.Device k) (cond r (moved step₁ a.limit (marking (guarded_in x₁) k)) (cond (leb k.left 1) (ended Answers.Busy k) (fewer k)))
            → Led₁
        heard? z false r u w d =
            stop_lead n s live Answers.Device 1 (ap (λ (c : Course). c.stage) d) f.polls (placed f (halted (foreign z (eqb-false (status_in x₁ / 4 % 16) 9 u))))
        heard? z true true u w d =
            go_lead n s live (λ m. suc m) (one_more (Wait x) f refl)
            (λ m t y. placed f (waited (ready z (eqb-true (status_in x₁ / 4 % 16) 9 u) (eqb-true (status_in x₁ / 128 % 2) 1 w)) y (omega arith)))
            (next_led (moved step₁ a.limit (marking (guarded_in x₁) k)) (taken_by (Wait x) g a.kind (M.holding s) x₁.reply) d f.holding (moved_fine a.limit (marking (guarded_in x₁) k)))
        heard? z true false u w d =
            left? (z, eqb-true (status_in x₁ / 4 % 16) 9 u, eqb-false (status_in x₁ / 128 % 2) 1 w) w (leb k.left 1) refl d

        cut? : (y : Bool) → eqb x₁.byte 2 ≡ y → Led₁
        cut? true z =
            stop_lead n s live Answers.Cut 1 (ap (λ (d : Course). d.stage) (M.cuts s live z)) f.polls (placed f (halted (lost f.frame (eqb-true x₁.byte 2 z))))
        cut? false z = heard? (f.frame, eqb-false x₁.byte 2 z) (eqb (status_in x₁ / 4 % 16) 9) (eqb (status_in x₁ / 128 % 2) 1) refl refl (f.course z)

    step_led : (x : Step) → F x → Led₁
    unfolding is_wait is_plain is_end heard course_by taken_by
    step_led (Wait c) f = wait_led c f
    step_led Protection f = go (eqb x₁.byte 2) refl
      where
        go : (b : Bool) → eqb x₁.byte 2 ≡ b → Led₁
        go true z = cut_led Protection f refl z
        go false z = onward_led Protection (noted (held_in g a x₁) k) f refl refl (f.course z) (λ m t u. listed (f.frame, eqb-false x₁.byte 2 z) u)
    step_led Lockdown f = go (eqb x₁.byte 2) refl
      where
        held? : eqb x₁.byte 2 ≡ false → (b : Bool) → (held_in g a x₁ || (k.listed && k.guarded)) ≡ b
            → M.course (M.step s) ≡ cond b (ended Answers.Sealed k) (moved step₁ a.limit k) → Led₁
        held? z true e d =
            stop_lead n s live Answers.Sealed 0 (ap (λ (c : Course). c.stage) d) f.polls (placed f (shut (f.frame, eqb-false x₁.byte 2 z) e))
        held? z false e d = onward_led Lockdown k f refl refl d (λ m t u. free (f.frame, eqb-false x₁.byte 2 z) e u)

        go : (b : Bool) → eqb x₁.byte 2 ≡ b → Led₁
        go true z = cut_led Lockdown f refl z
        go false z = held? z (held_in g a x₁ || (k.listed && k.guarded)) refl (f.course z)
    step_led (Read i) f = plain_led (Read i) f refl refl f.course
    step_led (Load i) f = plain_led (Load i) f refl refl f.course
    step_led (Send y i) f = plain_led (Send y i) f refl refl f.course
    step_led End f = never (sym f.some)

  -- a run that has come to the plan's end
  end_led : (n : ℕ) (s : M.State) → (M.course s).stage ≡ Some Answers.Done → is_end (step_at (plan_of g a) (M.course s).place) ≡ true
      → Led n s (M.course s) (M.holding s)
  unfolding is_ended
  end_led n s t e =
      let z = ended_stands n s (ap is_ended t) in
      record {
        result = finished (M.holding s);
        polls = 0;
        follows =
            subst (λ (es : List Exchange). Follows g a (M.course s).left (rest_at (plan_of g a) (M.course s).place) (M.course s).listed (M.course s).guarded (M.holding s) es 0 (finished (M.holding s))) (sym z.1)
            (subst (λ (xs : List Step). Follows g a (M.course s).left xs (M.course s).listed (M.course s).guarded (M.holding s) [] 0 (finished (M.holding s)))
            (sym (rest-none (plan_of g a) (M.course s).place (plan_proper a.kind g a.slot) e)) done);
        counted = ap M.polls z.0 ∙ omega arith;
        ends = (ap (λ (o : M.State). (M.course o).stage) z.0 ∙ t, ap M.holding z.0);
      }

  facts : (s : M.State) → is_ended (M.course s).stage ≡ false → is_end (step_of g a (M.course s)) ≡ false → Facts s (step_of g a (M.course s))
  facts s live some =
      record {
        some = some;
        frame = M.sent s;
        rest = rest-step (plan_of g a) (M.course s).place some;
        polls = M.counts s live;
        holding = M.takes s live;
        course = M.goes s live;
      }

  by_fine : (n : ℕ) (s : M.State) → Fine (M.course s) → (is_ended (M.course s).stage ≡ false → Led n s (M.course s) (M.holding s)) → Led n s (M.course s) (M.holding s)
  by_fine n s (inl e) u = u e
  by_fine n s (inr z) u = end_led n s z.0 z.1

  -- a step keeps a course in order
  machine_ok : (n : ℕ) (s : M.State) → is_ended (M.course s).stage ≡ false → Ok (plan_of g a) a.limit (suc n) (M.course s) → Ok (plan_of g a) a.limit n (M.course (M.step s))
  machine_ok n s live w = go (eqb (M.exchange s).byte 2) refl
    where
      go : (b : Bool) → eqb (M.exchange s).byte 2 ≡ b → Ok (plan_of g a) a.limit n (M.course (M.step s))
      go true e = subst (Ok (plan_of g a) a.limit n) (sym (M.cuts s live e)) (stop_ok Answers.Cut (M.course s) w)
      go false e = subst (Ok (plan_of g a) a.limit n) (sym (M.goes s live e)) (after_ok (plan_of g a) a.limit n (M.course s) w live _)

  pub run_led : (n : ℕ) (s : M.State) → Ok (plan_of g a) a.limit n (M.course s) → Fine (M.course s) → Led n s (M.course s) (M.holding s)
  run_led zero s w f = by_fine 0 s f (λ e. let z : 1 ≤ 0 = some_left (M.course s) w e in absurd (omega arith))
  run_led (suc n) s w f =
      by_fine (suc n) s f (λ e. step_led n s e (λ u. run_led n (M.step s) (machine_ok n s e w) u) (step_of g a (M.course s)) (facts s e (w.step e)))

-- ---- the end

-- a call that is stopped has another answer than 0
abbrev pub Late : Result → Type 0
Late (finished h) = Unit {0}
Late (stopped n) = eqb (number_of n) 0 ≡ false

abbrev pub LateTurn : Turn → Type 0
LateTurn (goes e) = Unit {0}
LateTurn (stops n) = eqb (number_of n) 0 ≡ false

polls_late : {b : ℕ} {es : List Exchange} {t : Turn} → Polls b es t → LateTurn t
unfolding number_of
polls_late (lost f c) = refl
polls_late (foreign f d) = refl
polls_late (ready f d r) = tt
polls_late (busy f l) = refl
polls_late (again f l w) = polls_late w

pub follows_late : {g : Geometry} {a : Asked} {b k : ℕ} {xs : List Step} {l d : Bool} {h : Holding} {es : List Exchange} {t : Result} → Follows g a b xs l d h es k t → Late t
unfolding number_of
follows_late done = tt
follows_late (waited w u m) = follows_late u
follows_late (halted w) = polls_late w
follows_late (cut w f c) = refl
follows_late (listed f u) = follows_late u
follows_late (shut f e) = refl
follows_late (free f e u) = follows_late u
follows_late (plain y f u) = follows_late u
