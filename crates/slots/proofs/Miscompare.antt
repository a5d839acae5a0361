-- 16, exactly: in a plan a wait is checked where it comes after a 60 and nowhere else, its data take bit 6 of the status that tells ready, and no first page
-- is read once one was checked; so the verdict at the plan's end is 16 if such a bit was 1, unless it was 12 or 13 before.
-- Assumes nothing.
use Prim.Native.Nat.{ℕ, zero, suc, ◌+◌, ◌*◌, ◌/◌, ◌%◌, ◌≤◌, ◌<◌}
use native.Mathlib.Omega.{arith}
use mathlib.Core.Path.{◌≡◌, refl, sym, ap, subst, ◌∙◌}
use mathlib.Core.Bool.{Bool, true, false, cond, not, ◌&&◌, ◌||◌}
use mathlib.Core.List.{List, [], ◌∷◌, ◌++◌}
use mathlib.Core.Logic.{◌⊎◌, inl, inr}
use lib.ListN.{length, get_or}
use lib.Dec.{eqb, leb}
use borrow.Author.Tests.{eq-eqb, ne_eqb}
use Rattle.slices.specs.Lists.{tabulate}
use Rattle.slices.proofs.Laws.{get_or-tabulate}
use Rattle.geometry.specs.declared.Geometry.{Geometry}
use Rattle.state.specs.declared.Answer.{Answer}
use Rattle.state.specs.declared.Answer.TheVariants as Answers
use Rattle.slots.specs.declared.Kind.{Kind}
use Rattle.slots.specs.declared.Kind.TheVariants.{Put, Patch, Get, Wipe}
use Rattle.slots.specs.declared.Command.TheVariants as C
use Rattle.slots.specs.declared.Step.{Step}
use Rattle.slots.specs.declared.Step.TheVariants.{Wait, Protection, Lockdown, Read, Load, Send, End}
use Rattle.slots.specs.declared.Verdict.{Verdict}
use Rattle.slots.specs.declared.Verdict.TheVariants.{Good, Blank, Beyond, Outside, Miscompared}
use Rattle.slots.specs.Records.{is_record, period_in, is_within, length_in, get_verdict, patch_verdict}
use Rattle.slots.specs.Plans.{Asked, pages, is_asking, page_steps, run_by, plan_by, plan_of, is_wait, is_end}
use Rattle.slots.specs.Driver.{Holding, opcode_of, shape_of, frame_byte, loaded, judged, read_in, compare_in, miscomparing, marred, taken_by, verdict_answer}
use Rattle.slots.specs.Exchanges.{Exchange, status_in, Turn, goes, stops, Polls, Result, finished, stopped, answer_for, is_plain, Sent, Follows, opcode_in, miscompared, Before16, MiscompareExactly, device, shut, blank, beyond}
use Rattle.slots.specs.Exchanges as P
use Rattle.slots.proofs.Parts.{cases}
use Rattle.slots.proofs.Places.{never, both, second, every, every_plan}
use Rattle.slots.proofs.Exactly.{long, plain_no_wait}

-- ---- where a call is stopped

abbrev pub BeforeResult : Result → Type 0
BeforeResult (finished h) = Unit {0}
BeforeResult (stopped n) = Before16 n

abbrev BeforeTurn : Turn → Type 0
BeforeTurn (goes e) = Unit {0}
BeforeTurn (stops n) = Before16 n

polls_before : {b : ℕ} {es : List Exchange} {t : Turn} → Polls b es t → BeforeTurn t
polls_before (P.Polls.lost f c) = P.Before16.lost
polls_before (P.foreign f d) = device
polls_before (P.ready f d r) = tt
polls_before (P.Polls.busy f l) = P.Before16.busy
polls_before (P.again f l w) = polls_before w

-- none of these is 16
pub before_other : (n : Answer) → Before16 n → n ≡ Answers.Miscompare → ⊥
before_other Answers.Device device e = let z : ◌≡◌ {A = ℕ} 0 1 = cc in absurd (omega arith)
before_other Answers.Busy P.Before16.busy e = let z : ◌≡◌ {A = ℕ} 0 1 = cc in absurd (omega arith)
before_other Answers.Sealed P.Before16.shut e = let z : ◌≡◌ {A = ℕ} 0 1 = cc in absurd (omega arith)
before_other Answers.Cut P.Before16.lost e = let z : ◌≡◌ {A = ℕ} 0 1 = cc in absurd (omega arith)
before_other Answers.Blank blank e = let z : ◌≡◌ {A = ℕ} 0 1 = cc in absurd (omega arith)
before_other Answers.End beyond e = let z : ◌≡◌ {A = ℕ} 0 1 = cc in absurd (omega arith)
before_other Answers.Done x e = elim x [ ]
before_other Answers.Part x e = elim x [ ]
before_other Answers.Frame x e = elim x [ ]
before_other Answers.Slot x e = elim x [ ]
before_other Answers.Limit x e = elim x [ ]
before_other Answers.Size x e = elim x [ ]
before_other Answers.Log x e = elim x [ ]
before_other Answers.Script x e = elim x [ ]
before_other Answers.Dates x e = elim x [ ]
before_other Answers.Term x e = elim x [ ]
before_other Answers.Miscompare x e = elim x [ ]

-- with 8 to 11
pub follows_before : {g : Geometry} {a : Asked} {b k : ℕ} {xs : List Step} {l d : Bool} {h : Holding} {es : List Exchange} {t : Result} → Follows g a b xs l d h es k t → BeforeResult t
follows_before P.done = tt
follows_before (P.waited w u m) = follows_before u
follows_before (P.halted w) = polls_before w
follows_before (P.cut w f c) = P.Before16.lost
follows_before (P.listed f u) = follows_before u
follows_before (P.Follows.shut f e) = P.Before16.shut
follows_before (P.free f e u) = follows_before u
follows_before (P.Follows.plain y f u) = follows_before u

-- ---- what the exchanges tell

abbrev bit_in : Exchange → Bool
bit_in e = eqb (status_in e / 64 % 2) 1

-- the polls of a wait: the last of them counts, if a 60 is before it
polls-scan : {b : ℕ} {e : Exchange} {es : List Exchange} → Polls b es (goes e) → (due : Bool) (fs : List Exchange)
    → miscompared due (es ++ fs) ≡ ((due && bit_in e) || miscompared false fs)
unfolding miscompared
polls-scan (P.ready {e = e} f d r) due fs = λ i.
    cond (eqb (get_or (f.0 i) 0 255) 0xD7) (cond (eq-eqb (status_in e / 128 % 2) 1 r i) ((due && bit_in e) || miscompared false fs) (miscompared due fs))
    (miscompared (eqb (get_or (f.0 i) 0 255) 0x60) fs)
polls-scan (P.again {e = e} {es = es} f l w) due fs =
    (λ i. cond (eqb (get_or (f.0.0 i) 0 255) 0xD7)
    (cond (ne_eqb (status_in e / 128 % 2) 1 f.2 i) ((due && bit_in e) || miscompared false (es ++ fs)) (miscompared due (es ++ fs)))
    (miscompared (eqb (get_or (f.0.0 i) 0 255) 0x60) (es ++ fs)))
    ∙ polls-scan w due fs

-- a 60
unfoldable pub is_compare : Step → Bool
is_compare (Wait c) = false
is_compare Protection = false
is_compare Lockdown = false
is_compare (Read p) = false
is_compare (Load p) = false
is_compare (Send C.Program p) = false
is_compare (Send C.Erase p) = false
is_compare (Send C.Compare p) = true
is_compare End = false

-- the opcode of a step but a wait is no D7, and 60 of a compare alone
codes : (g : Geometry) (x : Step) → is_wait x ≡ false → is_end x ≡ false → (eqb (shape_of g x).opcode 0xD7 ≡ false) × (eqb (shape_of g x).opcode 0x60 ≡ is_compare x)
unfolding shape_of opcode_of is_wait is_end is_compare
codes g (Wait c) w e = never (sym w)
codes g Protection w e = (refl, refl)
codes g Lockdown w e = (refl, refl)
codes g (Read p) w e = (refl, refl)
codes g (Load p) w e = (refl, refl)
codes g (Send C.Program p) w e = (refl, refl)
codes g (Send C.Erase p) w e = (refl, refl)
codes g (Send C.Compare p) w e = (refl, refl)
codes g End w e = never (sym e)

-- any step's frame but a poll
sent-scan : (g : Geometry) (a : Asked) (h : Holding) (e : Exchange) (x : Step) → Sent g a e x h → is_wait x ≡ false → is_end x ≡ false → (due : Bool) (es : List Exchange)
    → miscompared due (e ∷ es) ≡ miscompared (is_compare x) es
unfolding miscompared frame_byte
sent-scan g a h e x s w z due es =
    let c = codes g x w z in
    let code : opcode_in e ≡ (shape_of g x).opcode =
    ap (λ (f : List ℕ). get_or f 0 255) s.0 ∙ get_or-tabulate (shape_of g x).length (frame_byte (shape_of g x) (loaded g a.kind h x)) 0 255 (omega (arith, long g x w z)) in
    λ i. cond ((ap (λ (n : ℕ). eqb n 0xD7) code ∙ c.0) i)
    (cond (eqb (status_in e / 128 % 2) 1) ((due && bit_in e) || miscompared false es) (miscompared due es))
    (miscompared ((ap (λ (n : ℕ). eqb n 0x60) code ∙ c.1) i) es)

not_is : (b : Bool) → not b ≡ true → b ≡ false
not_is true e = sym e
not_is false e = refl

-- where no 60 is sent, no such bit is told
abbrev Untold : Result → List Exchange → Type 0
Untold (finished h) es = miscompared false es ≡ false
Untold (stopped n) es = Unit {0}

untold_by : (t : Result) (es fs : List Exchange) → miscompared false es ≡ miscompared false fs → Untold t fs → Untold t es
untold_by (finished h) es fs e u = e ∙ u
untold_by (stopped n) es fs e u = tt

none_told : {g : Geometry} {a : Asked} {b k : ℕ} {xs : List Step} {l d : Bool} {h : Holding} {es : List Exchange} {t : Result} → Follows g a b xs l d h es k t
    → every (λ x. not (is_compare x)) xs ≡ true → Untold t es
unfolding miscompared every is_plain is_compare is_wait is_end
none_told P.done n = refl
none_told (P.waited {es = es} {fs = fs} {t = t} p f m) n = untold_by t (es ++ fs) fs (polls-scan p false fs) (none_told f n)
none_told (P.halted p) n = tt
none_told (P.cut x f c) n = tt
none_told {g} {a} (P.listed {h = h} {e = e} {es = es} {t = t} f v) n = untold_by t (e ∷ es) es (sent-scan g a h e Protection f refl refl false es) (none_told v n)
none_told (P.Follows.shut f e) n = tt
none_told {g} {a} (P.free {h = h} {e = e} {es = es} {t = t} f x v) n = untold_by t (e ∷ es) es (sent-scan g a h e Lockdown f refl refl false es) (none_told v n)
none_told {g} {a} (P.Follows.plain {x = x} {xs = xs} {h = h} {e = e} {es = es} {t = t} y f v) n =
    let w = plain_no_wait x y in
    untold_by t (e ∷ es) es (sent-scan g a h e x f w.0 w.1 false es ∙ ap (λ (b : Bool). miscompared b es) (not_is (is_compare x) (both (not (is_compare x)) (every (λ x. not (is_compare x)) xs) n)))
    (none_told v (second (not (is_compare x)) (every (λ x. not (is_compare x)) xs) n))

-- ---- plans

-- a wait is checked after a 60 and nowhere else, and not in a get; once one was (`made`), no first page is read
abbrev Neat : Kind → (due made : Bool) → List Step → Type 0
Neat k due made [] = Unit {0}
Neat k due made (Wait c ∷ xs) = (c ≡ due) × (c ≡ true → k ≡ Get → ⊥) × Neat k false (made || c) xs
Neat k due made (Protection ∷ xs) = Neat k false made xs
Neat k due made (Lockdown ∷ xs) = Neat k false made xs
Neat k due made (Read p ∷ xs) = (made ≡ true → eqb (p % 8) 0 ≡ false) × Neat k false made xs
Neat k due made (Load p ∷ xs) = Neat k false made xs
Neat k due made (Send c p ∷ xs) = Neat k (is_compare (Send c p)) made xs
Neat k due made (End ∷ xs) = Neat k false made xs

pages_neat : (k : Kind) (f : ℕ → List Step) → ((p : ℕ) (xs : List Step) → eqb (p % 8) 0 ≡ false → Neat k false true xs → Neat k false true (f p ++ xs))
    → (n j : ℕ) → ((p : ℕ) → j ≤ p → p < j + n → eqb (p % 8) 0 ≡ false) → Neat k false true (pages n j f)
unfolding pages
pages_neat k f e zero j l = tt
pages_neat k f e (suc n) j l = e j (pages n (suc j) f) (l j (omega arith) (omega arith)) (pages_neat k f e n (suc j) (λ p a b. l p (omega arith) (omega arith)))

get_neat : (n j : ℕ) → Neat Get false false (pages n j (page_steps Get))
unfolding pages page_steps
get_neat zero j = tt
get_neat (suc n) j = ((λ e. never e), get_neat n (suc j))

later : (slot p : ℕ) → suc (8 * slot) ≤ p → p < suc (8 * slot) + 7 → eqb (p % 8) 0 ≡ false
later slot p l u = ne_eqb (p % 8) 0 (λ e. absurd (omega (arith, l, u, e)))

plan_neat : (k : Kind) (g : Geometry) (slot : ℕ) → Neat k false false (plan_by k g slot)
unfolding plan_by is_asking run_by pages page_steps is_compare
plan_neat Put g slot = (
  refl,
  (λ e. never e),
  (
    refl,
    (λ e. never e),
    (
      refl,
      (λ _ e. let z : ◌≡◌ {A = ℕ} 0 1 = cc in absurd (omega arith)),
      pages_neat Put (page_steps Put) (λ p xs l u. (refl, (λ e. never e), (refl, (λ _ e. let z : ◌≡◌ {A = ℕ} 0 1 = cc in absurd (omega arith)), u))) 7 (suc (8 * slot)) (later slot),
    ),
  ),
)
plan_neat Patch g slot = (
  refl,
  (λ e. never e),
  (
    (λ e. never e),
    (
      refl,
      (λ e. never e),
      (
        refl,
        (λ _ e. let z : ◌≡◌ {A = ℕ} 0 1 = cc in absurd (omega arith)),
        pages_neat Patch (page_steps Patch) (λ p xs l u. ((λ _. l), (refl, (λ e. never e), (refl, (λ _ e. let z : ◌≡◌ {A = ℕ} 0 1 = cc in absurd (omega arith)), u)))) 7 (suc (8 * slot)) (later slot),
      ),
    ),
  ),
)
plan_neat Get g slot = (refl, (λ e. never e), get_neat 8 (8 * slot))
plan_neat Wipe g slot = (refl, (λ e. never e), (refl, (λ e. never e), tt))

-- ---- the verdict

-- what it says of the bits so far: `w`, one was 1
abbrev Told : Kind → Bool → Verdict → Type 0
Told k w Good = w ≡ false
Told k w Blank = Unit {0}
Told k w Beyond = Unit {0}
Told k w Outside = (k ≡ Get) × (w ≡ false)
Told k w Miscompared = w ≡ true

or_none : (b : Bool) → (b || false) ≡ b
or_none true = refl
or_none false = refl

or_one : (b : Bool) → (b || true) ≡ true
or_one true = refl
or_one false = refl

or_assoc : (a b c : Bool) → ((a || b) || c) ≡ (a || (b || c))
or_assoc true b c = refl
or_assoc false b c = refl

told_none : (k : Kind) (w : Bool) (v : Verdict) → Told k w v → Told k (w || false) v
told_none k w v u = subst (λ (b : Bool). Told k b v) (sym (or_none w)) u

told-marred : (k : Kind) (w : Bool) (v : Verdict) → (k ≡ Get → ⊥) → Told k w v → Told k (w || true) (miscomparing v)
unfolding miscomparing
told-marred k w Good n u = or_one w
told-marred k w Blank n u = tt
told-marred k w Beyond n u = tt
told-marred k w Outside n u = absurd (n u.0)
told-marred k w Miscompared n u = or_one w

told_wait : (k : Kind) (c b w : Bool) (h : Holding) → (c ≡ true → k ≡ Get → ⊥) → Told k w h.verdict → Told k (w || (c && b)) (cond (c && b) (marred h) h).verdict
told_wait k true true w h n u = told-marred k w h.verdict (n refl) u
told_wait k true false w h n u = told_none k w h.verdict u
told_wait k false b w h n u = told_none k w h.verdict u

-- the slot's first page, before any bit
told-judged : (g : Geometry) (k : Kind) (h : Holding) (bytes : List ℕ) → Told k false (judged g k h bytes)
unfolding judged patch_verdict get_verdict
told-judged g Put h bytes = refl
told-judged g Patch h bytes =
    let b = leb (h.aim.place + length h.payload) (length_in bytes) in
    cases (Told Patch false) (is_record g bytes) {x = cond b Good Beyond} {y = Blank} (cases (Told Patch false) b {x = Good} {y = Beyond} refl tt) tt
told-judged g Get h bytes =
    cases (Told Get false) (is_record g bytes) {x = cond (is_within (period_in bytes) h.aim.today) Good Outside} {y = Blank}
    (cases (Told Get false) (is_within (period_in bytes) h.aim.today) {x = Good} {y = Outside} refl (refl, refl)) tt
told-judged g Wipe h bytes = refl

told_read : (g : Geometry) (k : Kind) (p : ℕ) (h : Holding) (bytes : List ℕ) (made w : Bool) → (made ≡ true → eqb (p % 8) 0 ≡ false) → (w ≡ true → made ≡ true) → Told k w h.verdict
    → Told k w (read_in g k p h bytes).verdict
unfolding read_in
told_read g k p h bytes made w n i u = go (eqb (p % 8) 0) refl w refl u
  where
    go : (b : Bool) → eqb (p % 8) 0 ≡ b → (y : Bool) → w ≡ y → Told k y h.verdict → Told k y (cond b (judged g k h bytes) h.verdict)
    go false e y f t = t
    go true e false f t = told-judged g k h bytes
    go true e true f t = never (sym (n (i f)) ∙ e)

abbrev Tells : Kind → Result → Bool → Type 0
Tells k (finished h) b = Told k b h.verdict
Tells k (stopped n) b = Unit {0}

module _ (g : Geometry) (a : Asked) where
  abbrev K : Kind
  K = a.kind

  tells : {b k : ℕ} {xs : List Step} {l d : Bool} {h : Holding} {es : List Exchange} {t : Result} → Follows g a b xs l d h es k t
      → (due made w : Bool) → Neat K due made xs → (w ≡ true → made ≡ true) → Told K w h.verdict → Tells K t (w || miscompared due es)
  unfolding miscompared taken_by compare_in is_plain is_compare is_wait is_end
  tells (P.done {h = h}) due made w n i u = told_none K w h.verdict u
  tells (P.waited {c = c} {h = h} {e = e} {es = es} {fs = fs} {t = t} p f m) due made w n i u =
      subst (Tells K t) (or_assoc w (due && bit_in e) (miscompared false fs) ∙ ap (λ (b : Bool). w || b) (sym (polls-scan p due fs)))
      (subst (λ (b : Bool). Tells K t ((w || (b && bit_in e)) || miscompared false fs)) n.0
      (tells f false (made || c) (w || (c && bit_in e)) n.2 (grows w c (bit_in e) made i)
      (subst (λ (b : Bool). Told K (w || (c && bit_in e)) (cond (c && (b && bit_in e)) (marred h) h).verdict) (sym (polls-ready p)) (told_wait K c (bit_in e) w h n.1 u))))
    where
      grows : (w c b made : Bool) → (w ≡ true → made ≡ true) → (w || (c && b)) ≡ true → (made || c) ≡ true
      grows true c b made i e = λ j. i refl j || c
      grows false true b made i e = or_one made
      grows false false b made i e = never e

      polls-ready : {b : ℕ} {es : List Exchange} {e : Exchange} → Polls b es (goes e) → eqb (status_in e / 128 % 2) 1 ≡ true
      polls-ready (P.ready {e = e} f d r) = eq-eqb (status_in e / 128 % 2) 1 r
      polls-ready (P.again f l w) = polls-ready w
  tells (P.halted p) due made w n i u = tt
  tells (P.cut x f c) due made w n i u = tt
  tells (P.listed {h = h} {e = e} {es = es} {t = t} f v) due made w n i u =
      subst (λ (b : Bool). Tells K t (w || b)) (sym (sent-scan g a h e Protection f refl refl due es)) (tells v false made w n i u)
  tells (P.Follows.shut f e) due made w n i u = tt
  tells (P.free {h = h} {e = e} {es = es} {t = t} f x v) due made w n i u =
      subst (λ (b : Bool). Tells K t (w || b)) (sym (sent-scan g a h e Lockdown f refl refl due es)) (tells v false made w n i u)
  tells (P.Follows.plain {x = Wait c} y f v) due made w n i u = never y
  tells (P.Follows.plain {x = Protection} y f v) due made w n i u = never y
  tells (P.Follows.plain {x = Lockdown} y f v) due made w n i u = never y
  tells (P.Follows.plain {x = End} y f v) due made w n i u = never y
  tells (P.Follows.plain {x = Read p} {h = h} {e = e} {es = es} {t = t} y f v) due made w n i u =
      subst (λ (b : Bool). Tells K t (w || b)) (sym (sent-scan g a h e (Read p) f refl refl due es)) (tells v false made w n.1 i (told_read g K p h _ made w n.0 i u))
  tells (P.Follows.plain {x = Load p} {h = h} {e = e} {es = es} {t = t} y f v) due made w n i u =
      subst (λ (b : Bool). Tells K t (w || b)) (sym (sent-scan g a h e (Load p) f refl refl due es)) (tells v false made w n i u)
  tells (P.Follows.plain {x = Send c p} {h = h} {e = e} {es = es} {t = t} y f v) due made w n i u =
      subst (λ (b : Bool). Tells K t (w || b)) (sym (sent-scan g a h e (Send c p) f refl refl due es)) (tells v (is_compare (Send c p)) made w n i u)

  -- the verdict at the end, and the answer
  answered : (es : List Exchange) (v : Verdict) → Told K (miscompared false es) v → MiscompareExactly es (verdict_answer v)
  unfolding verdict_answer
  answered es Good u = record { only = λ e. let z : ◌≡◌ {A = ℕ} 0 1 = cc in absurd (omega arith); due = λ e. never (sym u ∙ e) }
  answered es Blank u = record { only = λ e. let z : ◌≡◌ {A = ℕ} 0 1 = cc in absurd (omega arith); due = λ e. inl blank }
  answered es Beyond u = record { only = λ e. let z : ◌≡◌ {A = ℕ} 0 1 = cc in absurd (omega arith); due = λ e. inl beyond }
  answered es Outside u = record { only = λ e. let z : ◌≡◌ {A = ℕ} 0 1 = cc in absurd (omega arith); due = λ e. never (sym u.1 ∙ e) }
  answered es Miscompared u = record { only = λ e. u; due = λ e. inr refl }

  stopped_exactly : (es : List Exchange) (n : Answer) → Before16 n → MiscompareExactly es n
  stopped_exactly es n u = record { only = λ e. absurd (before_other n u e); due = λ e. inl u }

  -- EXACTLY 16: whatever the replies and the script, for exchanges that follow a call's plan from its start
  pub miscompares_exactly : {b k : ℕ} {l d : Bool} {h : Holding} {es : List Exchange} {t : Result} → Follows g a b (plan_of g a) l d h es k t → h.verdict ≡ Good
      → MiscompareExactly es (answer_for t)
  miscompares_exactly {h = h} {es = es} {t = t} f e =
      go t (follows_before f) (tells f false false false (plan_neat K g a.slot) (λ x. never x) (subst (Told K false) (sym e) refl))
    where
      go : (t : Result) → BeforeResult t → Tells K t (miscompared false es) → MiscompareExactly es (answer_for t)
      go (finished h) b u = answered es h.verdict u
      go (stopped n) b u = stopped_exactly es n b

  -- a get sends no 60, and so never answers 16
  pub get_never : {b k : ℕ} {l d : Bool} {h : Holding} {es : List Exchange} {t : Result} → K ≡ Get → Follows g a b (plan_of g a) l d h es k t → h.verdict ≡ Good
      → answer_for t ≡ Answers.Miscompare → ⊥
  unfolding is_asking page_steps every is_compare
  get_never {es = es} {t = t} e f v x = go t (follows_before f) (none_told f plain-get) (miscompares_exactly f v) x
    where
      plain-get : every (λ x. not (is_compare x)) (plan_of g a) ≡ true
      plain-get = ap (λ (k : Kind). every (λ x. not (is_compare x)) (plan_by k g a.slot)) e ∙ every_plan (λ x. not (is_compare x)) Get g a.slot refl (λ p. refl)

      go : (t : Result) → BeforeResult t → Untold t es → MiscompareExactly es (answer_for t) → answer_for t ≡ Answers.Miscompare → ⊥
      go (finished h) b u m x = never (sym u ∙ m.only x)
      go (stopped n) b u m x = before_other n b x
