-- The promise of a call from its parts: a refusal leaves everything as it was; else the block has the form of a stored chip and reads as the state that
-- is left.
-- Assumes nothing.
use mathlib.Core.Path.{◌≡◌, refl, sym, ap, subst⁻¹, ◌∙◌}
use mathlib.Core.Bool.{Bool, true, false, cond, not, ◌&&◌, ◌||◌}
use mathlib.Core.List.{List, [], ◌∷◌}
use Prim.Native.Nat.{ℕ, ◌*◌, ◌/◌}
use native.Mathlib.Omega.{arith}
use lib.ListN.{length}
use lib.Dec.{eqb, ltb, leb}
use Rattle.slices.specs.Lists.{over}
use Rattle.slices.proofs.Laws.{over_nil}
use Rattle.geometry.specs.declared.Geometry.{Geometry}
use Rattle.state.specs.declared.Answer.{Answer}
use Rattle.state.specs.declared.Answer.TheVariants as Answers
use Rattle.state.specs.Answers.{number_of}
use Rattle.state.specs.Memory.{State, chip_in}
use Rattle.blocks.specs.Block.{encode_chip}
use Rattle.state.specs.Outcomes.{framed}
use Rattle.slots.specs.declared.Flaws.{Flaws}
use Rattle.slots.specs.Plans.{Asked, bound}
use Rattle.slots.specs.Refusals.{bad_script, late_refusal, early_refusal, or_else, call_refusal, raw_refusal}
use Rattle.slots.specs.Calls.{Out, refused}
use Rattle.slots.specs.Lists.{Op, is_refusal}
use Rattle.slots.proofs.Parts.{cases}
use Rattle.runs.specs.declared.Done.{Done}
use Rattle.blocks.specs.Promises.{held_in}
use Rattle.runs.specs.Exchange.{Canonical}
use Rattle.runs.specs.Promises.{kept_in, Leaves, counts_of, Promise, Called}

-- ---- which answers are refusals

-- 0, or a refusal
abbrev pub Few : Answer → Type 0
Few a = (eqb (number_of a) 0 || is_refusal a) ≡ true

-- the one that is not 0
pub is_refusal_lem : (a : Answer) → Few a → eqb (number_of a) 0 ≡ false → is_refusal a ≡ true
is_refusal_lem a l e = ap (λ (b : Bool). b || is_refusal a) (sym e) ∙ l

late_few : (g : Geometry) (array log least : ℕ) (script : List ℕ) (junk : ℕ) → Few (late_refusal g array log least script junk)
unfolding late_refusal number_of
late_few g array log least script junk =
    cases Few (ltb log least) {x = Answers.Log} refl (cases Few (bad_script g array script junk) {x = Answers.Script} {y = Answers.Done} refl refl)

early_few : (g : Geometry) (a : Asked) (flaws : Flaws) → Few (early_refusal g a flaws)
unfolding early_refusal number_of
early_few g a flaws =
    cases Few (leb (g.pages / 8) a.slot) {x = Answers.Slot} refl
    (cases Few (not (leb 1 a.limit && leb a.limit 1000)) {x = Answers.Limit} refl
    (cases Few flaws.size {x = Answers.Size} refl (cases Few flaws.dates {x = Answers.Dates} {y = Answers.Done} refl refl)))

pub call-few : (g : Geometry) (array : ℕ) (a : Asked) (flaws : Flaws) (log : ℕ) (script : List ℕ) (junk : ℕ) → Few (call_refusal g array a flaws log script junk)
unfolding call_refusal or_else
call-few g array a flaws log script junk =
    cases Few (eqb (number_of (early_refusal g a flaws)) 0) (late_few g array log (6 * bound g a) script junk) (early_few g a flaws)

pub raw-few : (g : Geometry) (array : ℕ) (frame : List ℕ) (reply log : ℕ) (script : List ℕ) (junk : ℕ) → Few (raw_refusal g array frame reply log script junk)
unfolding raw_refusal number_of
raw-few g array frame reply log script junk =
    cases Few (framed (length frame) reply) {y = Answers.Frame} (late_few g array log 6 script junk) refl

-- ---- the promise

-- of an outcome and a state that are the call's
pub leaves_as : {o x : Out} {t u : State} {held l₀ : List ℕ} {r : Done} {kept ys l b : List ℕ} → o ≡ x → t ≡ u → Leaves x u held l₀ r kept ys l b → Leaves o t held l₀ r kept ys l b
leaves_as {o} {x} {t} {u} {held} {l₀} {r} {kept} {ys} {l} {b} e f w =
    subst⁻¹ (λ (z : Out). Leaves z t held l₀ r kept ys l b) e (subst⁻¹ (λ (z : State). Leaves x z held l₀ r kept ys l b) f w)

-- refused: nothing changes
pub leaves-refused : (a : Answer) (held xs l₀ b : List ℕ) (r : Done) → is_refusal a ≡ true → r ≡ record { answer = a; frames = 0; polls = 0; count = 0 }
    → Leaves (refused a b) (held_in held xs) held l₀ r held xs l₀ b
unfolding kept_in
leaves-refused a held xs l₀ b r e d =
    record {
      answer = ap (λ (z : Done). z.answer) d;
      block = ap (λ (z : Bool). cond z held (encode_chip (chip_in (held_in held xs)))) (sym e);
      array = refl;
      log = sym (over_nil l₀);
      frames = ap (λ (z : Done). z.frames) d;
      polls = ap (λ (z : Done). z.polls) d;
      count = ap (λ (z : Done). z.count) d;
      lent = refl;
      holds = refl;
    }

-- not refused: the block holds the state that is left
pub leaves-sent : (x : Out) (t : State) (held l₀ : List ℕ) (r : Done) (kept ys l b : List ℕ) → is_refusal x.answer ≡ false → Canonical kept → held_in kept ys ≡ t
    → r.answer ≡ x.answer → l ≡ over x.lines l₀ → r.frames ≡ x.frames → r.polls ≡ x.polls → r.count ≡ x.count → b ≡ x.lent → Leaves x t held l₀ r kept ys l b
unfolding kept_in
leaves-sent x t held l₀ r kept ys l b e form back answer log frames polls count lent =
    record {
      answer = answer;
      block = form ∙ ap (λ (s : State). encode_chip (chip_in s)) back ∙ ap (λ (z : Bool). cond z held (encode_chip (chip_in t))) (sym e);
      array = ap (λ (s : State). s.memory.array) back;
      log = log;
      frames = frames;
      polls = polls;
      count = count;
      lent = lent;
      holds = back;
    }

-- nothing is lent for output where a buffer of no bytes is
pub leaves_none : {o : Out} {t : State} {held l₀ : List ℕ} {r : Done} {kept ys l : List ℕ} (b : List ℕ) → length b ≡ 0 → Leaves o t held l₀ r kept ys l b → Leaves o t held l₀ r kept ys l []
leaves_none [] e w = w
leaves_none (x ∷ b) e w = absurd (omega arith)

-- a caller of the C interface is told the answer's number and the three counts
pub told : {o : Op} {held xs : List ℕ} {d : Done} {r : ℕ} {kept ys l counts b : List ℕ} → (r ≡ number_of d.answer) × (counts ≡ counts_of d)
    → Promise o held xs d kept ys l b → Called o held xs r kept ys l counts b
told t w =
    record {
      answer = t.0 ∙ ap number_of w.answer;
      block = w.block;
      array = w.array;
      log = w.log;
      counts = t.1 ∙ (λ i. w.frames i ∷ w.polls i ∷ w.count i ∷ []);
      lent = w.lent;
      holds = w.holds;
    }
