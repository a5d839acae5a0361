-- What the entry points do, case by case: accepted where the part is known and lengths fit, else refused, and then nothing changes.
-- Each definition goes by the part and by a test, so naming the part and the test's value opens it.
-- Assumes nothing.
use Rattle.std.specs.Prelude.{None, Option, Some}
use mathlib.Core.Path.{◌≡◌, refl, ap, subst⁻¹, ◌∙◌}
use mathlib.Core.Bool.{Bool, true, false, cond, ◌&&◌}
use mathlib.Core.List.{List, []}
use Prim.Native.Nat.{ℕ, ◌+◌, ◌*◌, ◌≤◌}
use native.Mathlib.Omega.{arith}
use lib.ListN.{length, replicate}
use lib.Dec.{eqb, leb}
use borrow.Author.Tests.{eqb-true, leb-true, eq-eqb, ne_eqb, le-leb}
use Rattle.geometry.specs.declared.Geometry.{Geometry}
use Rattle.geometry.specs.Parts.{part_of}
use Rattle.state.specs.declared.Answer.{Answer}
use Rattle.state.specs.declared.Answer.TheVariants as Answers
use Rattle.state.specs.declared.Chip.{Chip}
use Rattle.state.specs.declared.Outcome.{Outcome}
use Rattle.state.specs.Memory.{State, state_of}
use Rattle.state.specs.Frames.{reply_of}
use Rattle.state.specs.Outcomes.{Left, left, Leaves, part_in, fresh_state, fresh_by, fresh_outcome, framed, sent_state, sent_by, send_outcome, ended_state, ended_by, end_outcome, cut_state, cut_fits, cut_by, cut_outcome}

-- ---- what a function leaves, once it is known what its definition says
pub leaves_as : {o l : Left} {r : Outcome} {xs ys : List ℕ} → o ≡ l → Leaves l r xs ys → Leaves o r xs ys
leaves_as {r = r} {xs = xs} {ys = ys} e = subst⁻¹ (λ (k : Left). Leaves k r xs ys) e

-- a refusal
pub leaves-refused : {o : Left} (a : Answer) (c : Chip) (xs ys : List ℕ) → o ≡ left a (state_of c xs) ys → Leaves o (record { answer = a; chip = c }) xs ys
leaves-refused a c xs ys e = leaves_as e (record { answer = refl; chip = refl; array = refl; reply = refl })

-- ---- fresh
module _ (factory xs : List ℕ) where
  pub fresh_done : (g : Geometry) → part_of (length xs) ≡ Some g → fresh_outcome factory xs ≡ left Answers.Done (fresh_state factory (replicate (length xs) 255)) []
  unfolding fresh_outcome fresh_by
  fresh_done g e = ap (λ (p : Option Geometry). fresh_by p factory xs) e

  pub fresh_part_lem : part_of (length xs) ≡ None → fresh_outcome factory xs ≡ left Answers.Part (fresh_state factory xs) []
  unfolding fresh_outcome fresh_by
  fresh_part_lem e = ap (λ (p : Option Geometry). fresh_by p factory xs) e

-- ---- a frame's length and its reply's
pub framed_in : (n m : ℕ) → framed n m ≡ true → (1 ≤ n) × (n ≤ 1100) × (n ≡ m)
unfolding framed
framed_in n m = go (leb 1 n) (leb n 1100) (eqb n m) refl refl refl
  where
    go : (a b d : Bool) → leb 1 n ≡ a → leb n 1100 ≡ b → eqb n m ≡ d → (a && (b && d)) ≡ true → (1 ≤ n) × (n ≤ 1100) × (n ≡ m)
    go true true true p q r h = (leb-true 1 n p, leb-true n 1100 q, eqb-true n m r)
    go true true false p q r h = let z : ◌≡◌ {A = ℕ} 0 1 = cc in absurd (omega arith)
    go true false d p q r h = let z : ◌≡◌ {A = ℕ} 0 1 = cc in absurd (omega arith)
    go false b d p q r h = let z : ◌≡◌ {A = ℕ} 0 1 = cc in absurd (omega arith)

pub in_framed : (n m : ℕ) → 1 ≤ n → n ≤ 1100 → n ≡ m → framed n m ≡ true
unfolding framed
in_framed n m a b e = simp (le-leb 1 n a, le-leb n 1100 b, eq-eqb n m e)

-- ---- a frame sent straight
module _ (s : State) (f ys : List ℕ) where
  pub sent-part : part_in s ≡ None → send_outcome s f ys ≡ left Answers.Part s ys
  unfolding send_outcome sent_by
  sent-part e = ap (λ (p : Option Geometry). sent_by p s f ys) e

  pub sent_known : (g : Geometry) → part_in s ≡ Some g → send_outcome s f ys ≡ sent_by (Some g) s f ys
  unfolding send_outcome
  sent_known g e = ap (λ (p : Option Geometry). sent_by p s f ys) e

  module _ (g : Geometry) where
    tested : Bool → Left
    tested b = cond b (left Answers.Done (sent_state g f s) (reply_of g s.registers s.memory f)) (left Answers.Frame s ys)

    -- a part that is known, and a length that is refused, or accepted
    pub known_frame : framed (length f) (length ys) ≡ false → sent_by (Some g) s f ys ≡ left Answers.Frame s ys
    unfolding sent_by tested
    known_frame t = ap tested t

    pub known_sent : framed (length f) (length ys) ≡ true → sent_by (Some g) s f ys ≡ left Answers.Done (sent_state g f s) (reply_of g s.registers s.memory f)
    unfolding sent_by tested
    known_sent t = ap tested t

    pub sent-frame : part_in s ≡ Some g → framed (length f) (length ys) ≡ false → send_outcome s f ys ≡ left Answers.Frame s ys
    sent-frame e t = sent_known g e ∙ known_frame t

    pub sent-done : part_in s ≡ Some g → framed (length f) (length ys) ≡ true
        → send_outcome s f ys ≡ left Answers.Done (sent_state g f s) (reply_of g s.registers s.memory f)
    sent-done e t = sent_known g e ∙ known_sent t

-- ---- a busy end
module _ (s : State) where
  pub end-part : part_in s ≡ None → end_outcome s ≡ left Answers.Part s []
  unfolding end_outcome ended_by
  end-part e = ap (λ (p : Option Geometry). ended_by p s) e

  pub end_known : (g : Geometry) → part_in s ≡ Some g → end_outcome s ≡ ended_by (Some g) s
  unfolding end_outcome
  end_known g e = ap (λ (p : Option Geometry). ended_by p s) e

  pub end-done : (g : Geometry) → part_in s ≡ Some g → end_outcome s ≡ left Answers.Done (ended_state g s) []
  unfolding ended_by
  end-done g e = end_known g e

-- ---- a cut
module _ (junk : List ℕ) (s : State) where
  pub cut-part : part_in s ≡ None → cut_outcome junk s ≡ left Answers.Part s []
  unfolding cut_outcome cut_by
  cut-part e = ap (λ (p : Option Geometry). cut_by p junk s) e

  pub cut_known : (g : Geometry) → part_in s ≡ Some g → cut_outcome junk s ≡ cut_by (Some g) junk s
  unfolding cut_outcome
  cut_known g e = ap (λ (p : Option Geometry). cut_by p junk s) e

  module _ (g : Geometry) where
    fits : Bool → Left
    fits b = cond b (left Answers.Done (cut_state g junk s) []) (left Answers.Script s [])

    -- junk of another length
    pub known_script : (length junk ≡ 2 * g.size + length s.memory.array → ⊥) → cut_by (Some g) junk s ≡ left Answers.Script s []
    unfolding cut_by cut_fits fits
    known_script l = ap fits (ne_eqb (length junk) (2 * g.size + length s.memory.array) l)

    pub known_cut : length junk ≡ 2 * g.size + length s.memory.array → cut_by (Some g) junk s ≡ left Answers.Done (cut_state g junk s) []
    unfolding cut_by cut_fits fits
    known_cut l = ap fits (eq-eqb (length junk) (2 * g.size + length s.memory.array) l)

    pub cut-script : part_in s ≡ Some g → (length junk ≡ 2 * g.size + length s.memory.array → ⊥) → cut_outcome junk s ≡ left Answers.Script s []
    cut-script e l = cut_known g e ∙ known_script l

    pub cut-done : part_in s ≡ Some g → length junk ≡ 2 * g.size + length s.memory.array → cut_outcome junk s ≡ left Answers.Done (cut_state g junk s) []
    cut-done e l = cut_known g e ∙ known_cut l

-- ---- what holds of a refusal and of each accepted case holds of what an entry point leaves
either : (Q : Left → Type 0) (b : Bool) {x y : Left} → Q x → Q y → Q (cond b x y)
either Q true u v = u
either Q false u v = v

module _ (s : State) (Q : Left → Type 0) where
  pub send_cases : (f ys : List ℕ) → ((a : Answer) → Q (left a s ys))
      → ((g : Geometry) → part_in s ≡ Some g → Q (left Answers.Done (sent_state g f s) (reply_of g s.registers s.memory f))) → Q (send_outcome s f ys)
  unfolding send_outcome sent_by
  send_cases f ys u v = go (part_in s) refl
    where
      go : (p : Option Geometry) → part_in s ≡ p → Q (sent_by p s f ys)
      go None e = u Answers.Part
      go (Some g) e = either Q (framed (length f) (length ys)) (v g e) (u Answers.Frame)

  pub end_cases : ((a : Answer) → Q (left a s [])) → ((g : Geometry) → part_in s ≡ Some g → Q (left Answers.Done (ended_state g s) [])) → Q (end_outcome s)
  unfolding end_outcome ended_by
  end_cases u v = go (part_in s) refl
    where
      go : (p : Option Geometry) → part_in s ≡ p → Q (ended_by p s)
      go None e = u Answers.Part
      go (Some g) e = v g e

  pub cut_cases : (junk : List ℕ) → ((a : Answer) → Q (left a s [])) → ((g : Geometry) → part_in s ≡ Some g → Q (left Answers.Done (cut_state g junk s) [])) → Q (cut_outcome junk s)
  unfolding cut_outcome cut_by
  cut_cases junk u v = go (part_in s) refl
    where
      go : (p : Option Geometry) → part_in s ≡ p → Q (cut_by p junk s)
      go None e = u Answers.Part
      go (Some g) e = either Q (cut_fits g (length s.memory.array) (length junk)) (v g e) (u Answers.Script)
