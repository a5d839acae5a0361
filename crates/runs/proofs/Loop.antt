-- The call loop: the rest of the run from any turn on is the whole run. With as many steps left as frames may be left (crate slots, Bound), the log has
-- room for each line, the loop ends, and a run that has ended stays.
-- Assumes nothing.
use Rattle.std.specs.Prelude.{Some}
use mathlib.Core.Path.{◌≡◌, refl, sym, ap, subst, subst⁻¹, ◌∙◌}
use mathlib.Core.Bool.{true, false}
use mathlib.Core.List.{List}
use Prim.Native.Nat.{ℕ, suc, ◌+◌, ◌-◌, ◌*◌, ◌/◌, ◌<◌, ◌≤◌}
use native.Mathlib.Omega.{arith}
use lib.ListN.{length, drop}
use lib.Seq.{drop-drop}
use borrow.Author.Tests.{eqb-true}
use Rattle.geometry.specs.declared.Geometry.{Geometry}
use Rattle.geometry.specs.Parts.{part_of}
use Rattle.registers.proofs.Places.{placed_known}
use Rattle.state.specs.declared.Answer.TheVariants as Answers
use Rattle.state.specs.Answers.{number_of}
use Rattle.state.specs.Memory.{State}
use Rattle.state.specs.Outcomes.{part_in}
use Rattle.slots.specs.declared.Course.{Course}
use Rattle.slots.specs.declared.Kind.{Kind}
use Rattle.slots.specs.declared.Kind.TheVariants.{Put, Patch, Get, Wipe}
use Rattle.slots.specs.Plans.{plan_by, plan_of, stated, step_at, is_end}
use Rattle.slots.specs.Driver.{is_ended}
use Rattle.slots.specs.Refusals.{has_cut}
use Rattle.slots.specs.Calls.{Request, Open, scripted, step_open, step_closed, run, first_course}
use Rattle.slots.proofs.Places.{never}
use Rattle.slots.proofs.Counts.{bounds}
use Rattle.slots.proofs.Accepted.{first_some, run-ended}
use Rattle.slots.proofs.Bound.{Ok, some_left, start_ok, step_ok}
use Rattle.runs.specs.declared.Session.{Session}
use Rattle.runs.specs.Runs.{open_of, closed_of, request_of, bound_by, Going, Turned, Starts, Driven}
use Rattle.runs.proofs.Scripts.{has-cut}
use Rattle.runs.proofs.Steps.{run-suc}

-- what is left of the log behind more lines
rest_more : (l k : List ℕ) (a n : ℕ) → a ≤ n → drop a l ≡ drop a k → drop n l ≡ drop n k
rest_more l k a n h e =
    let m : n ≡ a + (n - a) = omega arith in
    ap (λ (j : ℕ). drop j l) m ∙ sym (drop-drop (n - a) a l) ∙ ap (drop (n - a)) e ∙ drop-drop (n - a) a k ∙ ap (λ (j : ℕ). drop j k) (sym m)

bound-small : (k : Kind) (limit : ℕ) → limit ≤ 1000 → stated k limit ≤ 17034
unfolding stated
bound-small Put limit h = omega arith
bound-small Patch limit h = omega arith
bound-small Get limit h = omega arith
bound-small Wipe limit h = omega arith

-- ---- the invariant: t₀, s₀, st₀, l₀ at the start, t, s, st, l now

-- the course in order
abbrev InOrder : Geometry → Session → ℕ → Course → Type 0
InOrder g s n c = Ok (plan_by s.driver.kind g s.driver.slot) s.driver.limit n c

pub record Along (g : Geometry) (t₀ : State) (s₀ : Session) (payload st₀ script l₀ : List ℕ) (t : State) (s : Session) (st l : List ℕ) : Type 0 where
  pub same : run (bound_by s₀) g (request_of s₀ script) (open_of t₀ s₀ l₀) (closed_of t₀ s₀ payload st₀)
      ≡ run (bound_by s₀ - s.frames) g (request_of s₀ script) (open_of t s l) (closed_of t s payload st)
  pub asks : request_of s script ≡ request_of s₀ script
  pub array : s.driver.array ≡ length t₀.memory.array
  pub ok : InOrder g s₀ (bound_by s₀ - s.frames) s.driver.course
  pub few : s.frames ≤ bound_by s₀
  pub polled : s.polls ≤ s.frames
  pub rest : drop (6 * s.frames) l ≡ drop (6 * s.frames) l₀
  pub room : length l ≡ length l₀
  pub part : part_in t ≡ Some g
  pub long : length t.memory.array ≡ length t₀.memory.array
  pub cuts : s.cut ≡ true → has_cut script ≡ true

-- at the start
module _ (g : Geometry) (t₀ : State) (s₀ : Session) (payload st₀ script l₀ : List ℕ) (h : Starts g t₀ s₀ l₀) where
  pub along_start : Along g t₀ s₀ payload st₀ script l₀ t₀ s₀ st₀ l₀
  along_start =
      let f : s₀.frames ≡ 0 = h.frames in
      let n : bound_by s₀ - s₀.frames ≡ bound_by s₀ = omega arith in
      let k = s₀.driver.kind in
      let slot = s₀.driver.slot in
      let limit = s₀.driver.limit in
      record {
        same = ap (λ (k : ℕ). run k g (request_of s₀ script) (open_of t₀ s₀ l₀) (closed_of t₀ s₀ payload st₀)) (sym n);
        asks = refl;
        array = h.array;
        ok =
            subst⁻¹ (λ (m : ℕ). InOrder g s₀ m s₀.driver.course) n
            (subst⁻¹ (InOrder g s₀ (bound_by s₀)) h.course
            (subst (λ (m : ℕ). Ok (plan_by k g slot) limit m (first_course Answers.Done limit)) (bounds k g slot limit)
            (start_ok (plan_by k g slot) limit (first_some k g slot) h.least)));
        few = omega arith;
        polled = omega (arith, h.polls);
        rest = refl;
        room = refl;
        part = h.part;
        long = refl;
        cuts = λ e. never (sym h.cut ∙ e);
      }

  -- nothing has ended yet
  pub start-going : is_ended s₀.driver.course.stage ≡ false
  unfolding first_course is_ended number_of
  start-going = ap (λ (o : Course). is_ended o.stage) h.course

  -- in a turn
  module _ (t : State) (s : Session) (st l : List ℕ) (a : Along g t₀ s₀ payload st₀ script l₀ t s st l) (e : is_ended s.driver.course.stage ≡ false) where
    left : 1 ≤ bound_by s₀ - s.frames
    left = some_left s.driver.course a.ok e

    pub along_going : Going g t s l
    along_going =
        let b = bound-small s₀.driver.kind s₀.driver.limit h.most in
        record {
          part = a.part;
          sound =
              record {
                part = ap part_of (a.array ∙ sym a.long) ∙ (placed_known (length t.memory.array) t.registers.operation g a.part).0;
                slot = subst⁻¹ (λ (v : Request). v.asked.slot < g.pages / 8) a.asks h.slot;
                step = subst⁻¹ (λ (v : Request). is_end (step_at (plan_of g v.asked) s.driver.course.place) ≡ false) a.asks (a.ok.step e);
              };
          going = e;
          room = omega (arith, left, h.room, a.room);
          frames = omega (arith, b, a.few);
          polls = omega (arith, b, a.few, a.polled);
        }

    module _ (u : State) (r : Session) (bytes lines : List ℕ) (z : Turned g t s payload st script l u r bytes lines) where
      pub along_turned : Along g t₀ s₀ payload st₀ script l₀ u r bytes lines
      along_turned =
          let v = request_of s₀ script in
          let p = open_of t s l in
          let q = closed_of t s payload st in
          let m : bound_by s₀ - s.frames ≡ suc (bound_by s₀ - r.frames) = omega (arith, left, z.frames) in
          let f : r.frames ≡ s.frames + 1 = z.frames in
          let shown : step_open g v p q ≡ open_of u r lines = subst (λ (w : Request). step_open g w p q ≡ open_of u r lines) a.asks z.shown in
          let kept : step_closed g v p q ≡ closed_of u r payload bytes = subst (λ (w : Request). step_closed g w p q ≡ closed_of u r payload bytes) a.asks z.kept in
          record {
            same =
                a.same ∙ ap (λ (n : ℕ). run n g v p q) m ∙ run-suc (bound_by s₀ - r.frames) g v p q
                ∙ (λ i. run (bound_by s₀ - r.frames) g v (shown i) (kept i));
            asks = z.asks ∙ a.asks;
            array = z.array ∙ a.array;
            ok =
                subst (λ (o : Open). InOrder g s₀ (bound_by s₀ - r.frames) o.course) shown
                (step_ok g v p q (bound_by s₀ - r.frames) (subst (λ (n : ℕ). InOrder g s₀ n s.driver.course) m a.ok));
            few = omega (arith, left, z.frames);
            polled = omega (arith, a.polled, z.polls, z.frames);
            rest = z.rest ∙ rest_more l l₀ (6 * s.frames) (6 * r.frames) (omega arith) a.rest;
            room = z.room ∙ a.room;
            part = z.part;
            long = z.long ∙ a.long;
            cuts = λ w. has-cut script s.frames (eqb-true (scripted script s.frames) 2 (sym z.cut ∙ w));
          }

      pub turned_less : bound_by s₀ - r.frames < bound_by s₀ - s.frames
      turned_less = omega (arith, left, z.frames)

  -- at the end
  pub along_ended : (t : State) (s : Session) (st l : List ℕ) → Along g t₀ s₀ payload st₀ script l₀ t s st l → is_ended s.driver.course.stage ≡ true
      → Driven g t₀ s₀ payload st₀ script l₀ t s st l
  along_ended t s st l a e =
      let z = run-ended (bound_by s₀ - s.frames) g (request_of s₀ script) (open_of t s l) (closed_of t s payload st) e in
      record {
        whole = a.same ∙ (λ i. (z.0 i, z.1 i));
        rest = a.rest;
        room = omega (arith, h.room, a.few, a.room);
        same = a.room;
        part = a.part;
        long = a.long;
        cuts = a.cuts;
      }
