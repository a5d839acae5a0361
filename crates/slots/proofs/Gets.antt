-- A get of a slot reads it: while its frames go out nothing is started, so the slot keeps its bytes; after a ready status each D2 tells its page; and the
-- bytes staged at its end are the slot's.
-- Assumes nothing.
use Rattle.std.specs.Prelude.{Some, None}
use Prim.Native.Nat.{ℕ, zero, suc, ◌+◌, ◌-◌, ◌*◌, ◌/◌, ◌%◌, ◌<◌, ◌≤◌}
use native.Mathlib.Omega.{arith}
use native.Mathlib.Nat.{mul-le-mul_left, div-lt_iff_lt-mul, div-add-mod, mod-lt}
use mathlib.Core.Path.{◌≡◌, refl, sym, ap, subst, ◌∙◌}
use mathlib.Core.Bool.{Bool, true, false, cond}
use mathlib.Core.List.{List, [], ◌∷◌}
use mathlib.Core.Logic.{inr}
use lib.ListN.{length, get_or, length-replicate}
use lib.Dec.{eqb}
use borrow.Author.Tests.{eqb-true, eqb-false}
use Rattle.geometry.proofs.Pages.{sized}
use Rattle.slices.specs.Lists.{tabulate, splice}
use Rattle.slices.proofs.Laws.{length-tabulate, get_or-tabulate, length-splice, splice_at, splice_before}
use Rattle.geometry.specs.declared.Geometry.{Geometry}
use Rattle.geometry.specs.Parts.{part_of, slot_room}
use Rattle.registers.specs.declared.Registers.{Registers}
use Rattle.registers.proofs.Places.{placed_known}
use Rattle.control.specs.Completion.{completed}
use Rattle.control.specs.Starts.{Ready}
use Rattle.state.specs.declared.Answer.TheVariants as Answers
use Rattle.state.specs.Answers.{number_of}
use Rattle.state.specs.Memory.{Memory, State}
use Rattle.state.specs.Frames.{reply_of}
use Rattle.state.specs.Completion.{completed_memory}
use Rattle.slots.specs.declared.Course.{Course}
use Rattle.slots.specs.declared.Kind.TheVariants.{Get}
use Rattle.slots.specs.declared.Step.{Step}
use Rattle.slots.specs.declared.Step.TheVariants.{Wait, Read}
use Rattle.slots.specs.declared.Verdict.{Verdict}
use Rattle.slots.specs.Plans.{is_asking, page_steps, pages, run_by, plan_by, sector_for, bound, step_at, is_end}
use Rattle.slots.specs.Records.{slot_size, get_verdict}
use Rattle.slots.specs.Driver.{Holding, frame_of, heard, moved, course_by, judged, read_in, taken_by, is_ended}
use Rattle.slots.specs.Calls.{Request, Secret, first_course, refusal_of, start_open, start_closed, ran}
use Rattle.slots.specs.Lists.{request, asking}
use Rattle.slots.specs.Quiet.{page_in, Kept, KeptSlot}
use Rattle.slots.proofs.Places.{never, rest_at, rest-zero, rest-first}
use Rattle.slots.proofs.Bound.{begin_ok}
use Rattle.slots.proofs.Sent.{read_keeps, read_memory, page_told}
use Rattle.slots.proofs.Steady.{array_steady}
use Rattle.slots.proofs.Track.{Facts, Turned, idle_stays, carry, wait_next, run_tracked}
use Rattle.slots.proofs.Kept.{end_kept}
use Rattle.slots.proofs.Written.{slot_index}
use Rattle.slots.specs.declared.Flaws.{Flaws}

data Know : Type 0 where
  cold : Know
  reading : (p : ℕ) → Know

module _ (g : Geometry) (slot today : ℕ) (b : ℕ → ℕ) where
  abbrev first : ℕ
  first = 8 * slot

  abbrev end : ℕ
  end = 8 * slot + 8

  -- a wait, then D2 for the pages in order
  data Lawful : Know → List Step → Type 0 where
    opens : {xs : List Step} → Lawful (reading first) xs → Lawful cold (Wait false ∷ xs)
    reads : {p : ℕ} {xs : List Step} → first ≤ p → p < end → Lawful (reading (suc p)) xs → Lawful (reading p) (Read p ∷ xs)
    finish : Lawful (reading end) []

  -- the pages before p are staged, and the first is judged
  pub record Staged (p : ℕ) (h : Holding) : Type 0 where
    pub room : 8 * g.size ≤ length h.staged
    pub bytes : (q : ℕ) → first ≤ q → q < p → (i : ℕ) → i < g.size → get_or h.staged (g.size * (q % 8) + i) 0 ≡ b (g.size * (q % 8) + i)
    pub day : h.aim.today ≡ today
    pub verdict : (p ≡ 8 * slot → ⊥) → h.verdict ≡ get_verdict g today (page_in g b 0)

  abbrev Holds : Know → Bool → Bool → Registers → Memory → Holding → Type 0
  Holds cold l d r m h = Kept g first end (page_in g b) r m × Staged first h
  Holds (reading p) l d r m h = Kept g first end (page_in g b) r m × Ready r × Staged p h

  abbrev facts : Facts
  facts =
      record {
        Room = λ m. part_of (length m.array) ≡ Some g;
        steady = array_steady (λ n. part_of n ≡ Some g);
        Know = Know;
        Holds = Holds;
        Lawful = Lawful;
      }

  stays : (k : Know) (l d : Bool) (r : Registers) (m : Memory) (h : Holding) → part_of (length m.array) ≡ Some g → Holds k l d r m h
      → Holds k l d (completed g r) (completed_memory g r.operation m) h
  stays cold l d r m h e u = (end_kept u.0, u.1)
  stays (reading p) l d r m h e u = idle_stays g r m (λ t n. Holds (reading p) l d t n h) u.1.0 u

  -- a D2 stages its page
  read_page : (p : ℕ) (h : Holding) (page : List ℕ) → first ≤ p → p < end → page ≡ page_in g b p → Staged p h → Staged (suc p) (read_in g Get p h page)
  unfolding read_in judged
  read_page p h page l k w u =
      record {
        room = omega (arith, length-splice (g.size * (p % 8)) page h.staged, u.room);
        bytes = λ q a c i j. each q a c i j (eqb q p) refl;
        day = u.day;
        verdict = λ _. judges h.verdict u.verdict (eqb (p % 8) 0) refl;
      }
    where
      long : length page ≡ g.size
      long = ap (λ (x : List ℕ). length x) w ∙ length-tabulate g.size (λ i. b (g.size * (p % 8) + i))

      -- one page lies before or behind another
      apart : (a c : ℕ) → a < c → g.size * a + g.size ≤ g.size * c
      apart a c o = let m : g.size * (a + 1) ≤ g.size * c = mul-le-mul_left g.size (omega (arith, o)) in omega (arith, m)

      other : (q i : ℕ) → first ≤ q → q < suc p → (q ≡ p → ⊥) → i < g.size → get_or (splice (g.size * (p % 8)) page h.staged) (g.size * (q % 8) + i) 0 ≡ get_or h.staged (g.size * (q % 8) + i) 0
      other q i a c n j =
          let o : q % 8 < p % 8 = omega (arith, n) in
          splice_before (g.size * (p % 8)) page h.staged (g.size * (q % 8) + i) 0 (omega (arith, apart (q % 8) (p % 8) o))

      each : (q : ℕ) → first ≤ q → q < suc p → (i : ℕ) → i < g.size → (x : Bool) → eqb q p ≡ x
          → get_or (splice (g.size * (p % 8)) page h.staged) (g.size * (q % 8) + i) 0 ≡ b (g.size * (q % 8) + i)
      each q a c i j true z =
          subst (λ (n : ℕ). get_or (splice (g.size * (p % 8)) page h.staged) (g.size * (n % 8) + i) 0 ≡ b (g.size * (n % 8) + i)) (sym (eqb-true q p z))
          (splice_at (g.size * (p % 8)) page h.staged i 0 (omega (arith, long)) (omega (arith, u.room, slot_index g.size p i j))
          ∙ ap (λ (x : List ℕ). get_or x i 0) w ∙ get_or-tabulate g.size (λ i. b (g.size * (p % 8) + i)) i 0 j)
      each q a c i j false z = let n = eqb-false q p z in other q i a c n j ∙ u.bytes q a (omega (arith, n)) i j

      judges : (v : Verdict) → ((p ≡ 8 * slot → ⊥) → v ≡ get_verdict g today (page_in g b 0)) → (x : Bool) → eqb (p % 8) 0 ≡ x → cond x (get_verdict g h.aim.today page) v ≡ get_verdict g today (page_in g b 0)
      judges v t true z = λ i. get_verdict g (u.day i) ((w ∙ ap (λ (n : ℕ). tabulate g.size (λ j. b (g.size * n + j))) (eqb-true (p % 8) 0 z)) i)
      judges v t false z = t (λ y. eqb-false (p % 8) 0 z (omega (arith, y)))

  module _ (limit : ℕ) (plan : List Step) (c : Course) (r : Registers) (m : Memory) (h : Holding) (e : part_of (length m.array) ≡ Some g) (live : is_ended c.stage ≡ false) where
    turned : {x : Step} {k : Know} (S : ℕ) → is_end x ≡ false → rest_at plan c.place ≡ x ∷ rest_at plan (suc c.place) → Lawful k (x ∷ rest_at plan (suc c.place))
        → Holds k c.listed c.guarded r m h → Turned facts g Get S limit plan c r m h x
    unfolding heard course_by taken_by
    turned S some o (opens l) v = wait_next facts g Get S limit plan c r m h false cold (reading first) live o (opens l) v l (λ y. (v.0, y, v.1)) refl
    turned S some o (reads {p} i j l) v =
        let k = v.0 in
        let page = tabulate g.size (λ i. get_or (reply_of g r m (frame_of g Get h (Read p))) (8 + i) 255) in
        let told : page ≡ page_in g b p = page_told g r m Get h p v.1 e (omega (arith, k.fits, j)) ∙ k.bytes p i j in
        carry facts g Get S limit plan c r m h (Read p) (moved (step_at plan (suc c.place)) limit c) (read_in g Get p h page) (read_keeps g r Get h p) (read_memory g r m Get h p)
        (λ _. (reading (suc p), (k, v.1, read_page p h page i j told v.2), l))

  at_finish : {k : Know} {xs : List Step} (l d : Bool) (r : Registers) (m : Memory) (h : Holding) → Lawful k xs → is_end (step_at xs 0) ≡ true → Holds k l d r m h → Staged end h
  unfolding step_at is_end
  at_finish l d r m h finish e u = u.2
  at_finish l d r m h (opens z) e u = never e
  at_finish l d r m h (reads i j z) e u = never e

  pages_lawful : (n k : ℕ) → first ≤ k → k + n ≡ end → Lawful (reading k) (pages n k (page_steps Get))
  unfolding pages page_steps
  pages_lawful zero k l h = let z : k ≡ end = omega arith in subst (λ (n : ℕ). Lawful (reading n) []) (sym z) finish
  pages_lawful (suc n) k l h = reads l (omega arith) (pages_lawful n (suc k) (omega arith) (omega arith))

  get_lawful : Lawful cold (plan_by Get g slot)
  unfolding plan_by is_asking run_by
  get_lawful = opens (pages_lawful 8 (8 * slot) (omega arith) refl)

-- what a get that comes to its end has staged, of a slot whose bytes are b's
pub record Got (g : Geometry) (today : ℕ) (b : ℕ → ℕ) (h : Holding) : Type 0 where
  pub room : 8 * g.size ≤ length h.staged
  pub bytes : (i : ℕ) → i < 8 * g.size → get_or h.staged i 0 ≡ b i
  pub verdict : h.verdict ≡ get_verdict g today (page_in g b 0)

-- byte i lies in page i div size
staged-all : (g : Geometry) (slot today : ℕ) (b : ℕ → ℕ) (h : Holding) → 0 < g.size → Staged g slot today b (8 * slot + 8) h → Got g today b h
staged-all g slot today b h some u = record { room = u.room; bytes = each; verdict = u.verdict (λ e. absurd (omega (arith, e))) }
  where
    each : (i : ℕ) → i < 8 * g.size → get_or h.staged i 0 ≡ b i
    each i l =
        let n = i / g.size in
        let few : n < 8 = (div-lt_iff_lt-mul some).1 l in
        let page : (8 * slot + n) % 8 ≡ n = omega (arith, few) in
        let at : g.size * ((8 * slot + n) % 8) + i % g.size ≡ i = ap (λ (k : ℕ). g.size * k + i % g.size) page ∙ div-add-mod i g.size in
        subst (λ (k : ℕ). get_or h.staged k 0 ≡ b k) at (u.bytes (8 * slot + n) (omega arith) (omega (arith, few)) (i % g.size) (mod-lt i some))

module _ (g : Geometry) (slot limit : ℕ) (script : List ℕ) (log junk : ℕ) (flaws : Flaws) where
  abbrev asks : Request
  asks = request (asking Get slot limit) script log junk flaws

  pub call-reads : (b : ℕ → ℕ) (x : Secret) (s : State) → 0 < g.size → KeptSlot g slot b s → eqb (number_of (refusal_of g (length s.memory.array) asks)) 0 ≡ true
      → (ran g asks x s).0.course.stage ≡ Some Answers.Done → Got g x.aim.today b (ran g asks x s).1.holding
  unfolding ran start_open start_closed first_course is_ended slot_size
  call-reads b x s some k e stage =
      let today = x.aim.today in
      let n = length s.memory.array in
      let part = (placed_known n s.registers.operation g k.part).0 in
      let plan = plan_by Get g slot in
      let t = run_tracked (facts g slot today b) g asks (stays g slot today b)
      (λ c r m h o live x k some z l u. turned g slot today b limit plan c r m h o live {x = x} {k = k} (sector_for g asks.asked) some z l u)
      (bound g asks.asked) (start_open g n asks s.registers) (start_closed x s.memory) (begin_ok g n asks e)
      (record {
        room = part;
        here = λ _. (
          cold,
          (k, record { room = omega (arith, (sized n g part).most, length-replicate {A = ℕ} slot_room 0); bytes = λ q l u i j. absurd (omega arith); day = refl; verdict = λ f. absurd (f refl) }),
          subst (Lawful g slot today b cold) (sym (rest-zero plan)) (get_lawful g slot today b),
        );
        uncut = λ _. refl;
        over = λ h. never (ap is_ended (sym (ap (λ (b : Bool). cond b None (Some (refusal_of g n asks))) e)) ∙ ap is_ended h);
      }) in
      let z = ran g asks x s in
      let w = t.here (inr stage) in
      staged-all g slot today b z.1.holding some
      (at_finish g slot today b z.0.course.listed z.0.course.guarded z.0.registers z.1.memory z.1.holding w.2
      (ap is_end (rest-first plan z.0.course.place) ∙ t.over stage) w.1)
