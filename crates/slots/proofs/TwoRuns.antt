-- Demand 3: two runs of alike lists on alike chips leave the same outlines, counts and answers. Each call's open half is blind to its
-- closed half (Blind), so alike inputs leave alike registers; the junk that reaches a register is alike, so a cut does too; and the
-- list follows by induction. Of the answers control leaves 16 open too, and that never comes (Never).
-- Assumes nothing.
use Rattle.std.specs.Prelude.{None, Option, Some}
use Prim.Native.Nat.{ℕ}
use mathlib.Core.Path.{◌≡◌, refl, sym, ap, subst, ◌∙◌}
use mathlib.Core.Bool.{Bool, true, false, cond, ◌&&◌, ◌||◌}
use mathlib.Core.List.{List, [], ◌∷◌}
use mathlib.Core.Logic.{◌⊎◌, inl, inr}
use lib.ListN.{length}
use lib.Dec.{eqb}
use Rattle.geometry.specs.declared.Geometry.{Geometry}
use Rattle.registers.specs.declared.Registers.{Registers}
use Rattle.registers.specs.Fields.{with_wp}
use Rattle.registers.specs.Operations.{placed}
use Rattle.control.specs.Control.{control}
use Rattle.control.specs.Completion.{completed}
use Rattle.control.specs.PowerLoss.{reaching, lost}
use Rattle.state.specs.declared.Answer.{Answer}
use Rattle.state.specs.declared.Answer.TheVariants as Answers
use Rattle.state.specs.Answers.{number_of}
use Rattle.state.specs.Outcomes.{framed, Left, part_in, sent_state, ended_state, pinned_state, cut_state, sent_by, ended_by, pin_outcome, cut_fits, cut_by}
use Rattle.slots.specs.declared.Verdict.{Verdict}
use Rattle.slots.specs.declared.Verdict.TheVariants.{Good, Blank, Beyond, Outside, Miscompared}
use Rattle.state.specs.Memory.{State, chip_in}
use Rattle.state.specs.Whole.{Whole}
use Rattle.slots.specs.Plans.{Asked, bound}
use Rattle.slots.specs.Driver.{verdict_answer, weighed, told_by}
use Rattle.slots.specs.Refusals.{is_over, is_short, raw_refusal, flaws_in, is_misdated}
use Rattle.slots.specs.Calls.{Out, Request, Secret, Open, refused, scripted, registers_after, state_after, run, start_open, start_closed, ran, reached, answer_in, answer_at, out_from, call_out, call_next, raw_sent, raw_out, raw_next}
use Rattle.slots.specs.Lists.{Op, asks, secret, met, call_by, raw_by, out_of, called_by, raw_left, next_of, run_list}
use Rattle.slots.specs.Alike.{Twins, Given, calls, raws, straights, pins, ends, cuts, oversize, call_junk, raw_junk, cut_junk, junk_by, junk_of, Alike, AlikeLists, Soft, FromData, Same, AllSame, misdated}
use Rattle.slots.proofs.Parts.{out_at, out_at_lem, next_at, next_at_lem}
use Rattle.slots.proofs.Blind.{run_blind}
use Rattle.slots.proofs.Steady.{array_steady, op_keeps, whole_op}
use Rattle.slots.proofs.Never.{No16, op_never}
use Rattle.slots.specs.declared.Detail.{Detail}

-- ---- answers

-- as far as control goes: equal, or both by the data
abbrev pub Agree : Answer → Answer → Type 0
Agree a b = (a ≡ b) ⊎ (FromData a × FromData b)

from_data : (v : Verdict) → FromData (verdict_answer v)
unfolding verdict_answer
from_data Good = inl (inl (inl refl))
from_data Blank = inl (inl (inr refl))
from_data Beyond = inl (inr (inl refl))
from_data Outside = inl (inr (inr refl))
from_data Miscompared = inr refl

-- of two verdicts on one end
pub weighed_agree : (n : Answer) (v w : Verdict) → Agree (weighed n v) (weighed n w)
unfolding weighed
weighed_agree n v w = go (eqb (number_of n) 0)
  where
    go : (b : Bool) → Agree (cond b (verdict_answer v) n) (cond b (verdict_answer w) n)
    go true = inr (from_data v, from_data w)
    go false = inl refl

answer_agree : (t : Option Answer) (v w : Verdict) → Agree (answer_in (told_by t v)) (answer_in (told_by t w))
unfolding told_by answer_in
answer_agree None v w = inl refl
answer_agree (Some n) v w = weighed_agree n v w

-- where neither is 16
settled : (a b : Answer) → No16 a → No16 b → Agree a b → (a ≡ b) ⊎ (Soft a × Soft b)
settled a b u w (inl e) = inl e
settled a b u w (inr f) = inr (soft a u f.0, soft b w f.1)
  where
    soft : (a : Answer) → No16 a → FromData a → Soft a
    soft a u (inl e) = e
    soft a u (inr e) = absurd (u e)

-- what is the same of two outcomes as far as control goes
pub record Near (x y : Out) : Type 0 where
  pub lines : x.lines ≡ y.lines
  pub frames : x.frames ≡ y.frames
  pub polls : x.polls ≡ y.polls
  pub answer : Agree x.answer y.answer

-- ---- put, patch, get, wipe

pub ran_blind : (g : Geometry) {v w : Request} (e : v ≡ w) (x y : Secret) (s t : State) → Twins s t → (ran g v x s).0 ≡ (ran g w y t).0
unfolding ran
ran_blind g {v} {w} e x y s t h =
    run_blind (bound g v.asked) g v (start_open g (length s.memory.array) v s.registers) (start_closed x s.memory) (start_closed y t.memory)
    ∙ λ i. (run (bound g (e i).asked) g (e i) (start_open g (h.size i) (e i) (h.registers i)) (start_closed y t.memory)).0

call_same : (g : Geometry) {v w : Request} (e : v ≡ w) (x y : Secret) (s t : State) → Twins s t → Near (call_out g v x s) (call_out g w y t)
unfolding call_out out_from
call_same g {v} {w} e x y s t h =
    let b : (ran g v x s).0 ≡ (ran g w y t).0 = ran_blind g e x y s t h in
    record {
      lines = λ i. (b i).lines;
      frames = λ i. (b i).frames;
      polls = λ i. (b i).polls;
      answer =
          subst (λ (p : Open). Agree (answer_at (ran g v x s)) (answer_in (told_by p.course.stage (ran g w y t).1.holding.verdict))) b
          (answer_agree (ran g v x s).0.course.stage (ran g v x s).1.holding.verdict (ran g w y t).1.holding.verdict);
    }

-- the registers after a run that may end in a cut
cut-registers : (b : Bool) (g : Geometry) (junk : List ℕ) (s : State)
    → (cond b (cut_state g junk s) s).registers ≡ cond b (lost g s.registers (cond b (reaching g s.registers.operation junk) [])) s.registers
unfolding cut_state
cut-registers true g junk s = refl
cut-registers false g junk s = refl

call-registers : (g : Geometry) {v w : Request} (e : v ≡ w) (x y : Secret) (s t : State) → Twins s t → call_junk g v x s ≡ call_junk g w y t
    → (call_next g v x s).registers ≡ (call_next g w y t).registers
unfolding call_next call_junk
call-registers g {v} {w} e x y s t h j =
    let b : (ran g v x s).0 ≡ (ran g w y t).0 = ran_blind g e x y s t h in
    cut-registers (ran g v x s).0.cut g x.junk (reached (ran g v x s))
    ∙ (λ i. cond (b i).cut (lost g (b i).registers (j i)) (b i).registers)
    ∙ sym (cut-registers (ran g w y t).0.cut g y.junk (reached (ran g w y t)))

-- ---- raw

-- two outcomes picked by one test
pick_same : (b : Bool) {x y z w : Out} → Near x y → Near z w → Near (cond b x z) (cond b y w)
pick_same true u v = u
pick_same false u v = v

-- an outcome compares by its lines, counts and answer alone
refl-same : {x y : Out} → x.lines ≡ y.lines → x.frames ≡ y.frames → x.polls ≡ y.polls → x.answer ≡ y.answer → Near x y
refl-same l f p a = record { lines = l; frames = f; polls = p; answer = inl a }

module _ (g : Geometry) (f script j k l m a b : List ℕ) (s t : State) (ej : length j ≡ length k) (el : length l ≡ length m) (ea : length a ≡ length b) (h : Twins s t) where
  -- the refusal of a raw frame is the same in both runs
  pub raw_refusal_lem : raw_refusal g (length s.memory.array) f (length a) (length l) script (length j) ≡ raw_refusal g (length t.memory.array) f (length b) (length m) script (length k)
  raw_refusal_lem = λ i. raw_refusal g (h.size i) f (ea i) (el i) script (ej i)

  raw_same : Near (raw_out g f script (length l) (length j) a s) (raw_out g f script (length m) (length k) b t)
  unfolding raw_out raw_sent
  raw_same =
      subst (λ (z : Answer). Near (raw_out g f script (length l) (length j) a s) (cond (eqb (number_of z) 0) (raw_sent g script f t) (refused z b))) raw_refusal_lem
      (pick_same (eqb (number_of (raw_refusal g (length s.memory.array) f (length a) (length l) script (length j))) 0) (refl-same refl refl refl refl) (refl-same refl refl refl refl))

-- the registers after a raw frame: by whether it is sent, its script byte and the junk that reaches a register
raw-registers : (b c : Bool) (g : Geometry) (n : ℕ) (f junk : List ℕ) (s : State)
    → (cond b (cond c (cut_state g junk (sent_state g f s)) (state_after g n (sent_state g f s))) s).registers
    ≡ cond b (cond c (lost g (control g s.registers f).registers (cond (b && c) (reaching g (control g s.registers f).registers.operation junk) [])) (registers_after g n (control g s.registers f).registers)) s.registers
unfolding cut_state sent_state state_after registers_after
raw-registers true true g n f junk s = refl
raw-registers true false g n f junk s = refl
raw-registers false true g n f junk s = refl
raw-registers false false g n f junk s = refl

-- ---- each call and event

-- of an event's outcome
pick_state : (b : Bool) (x y : Left) → (cond b x y).state.registers ≡ cond b x.state.registers y.state.registers
pick_state true x y = refl
pick_state false x y = refl

pick_answer : (b : Bool) (x y : Left) → (cond b x y).answer ≡ cond b x.answer y.answer
pick_answer true x y = refl
pick_answer false x y = refl

-- an event compares by its answer
met-same : (x y : Left) → x.answer ≡ y.answer → Near (met x) (met y)
met-same x y e = refl-same refl refl refl e

-- 5 is alike on a known part, and 14
abbrev pub Flawed : Option Geometry → Op → Op → Type 0
Flawed p o u = ((g : Geometry) → p ≡ Some g → oversize g o ≡ oversize g u) × (misdated o ≡ misdated u)

-- what each of the two is asked
pub request-same : (g : Geometry) (a : Asked) (script : List ℕ) (p q : Detail) (x y j k l m c d : List ℕ) → is_over a.kind g p (length x) ≡ is_over a.kind g q (length y) → is_misdated a.kind p ≡ is_misdated a.kind q
    → length j ≡ length k → length l ≡ length m → length c ≡ length d → asks g a p script x j l c ≡ asks g a q script y k m d
unfolding flaws_in
request-same g a script p q x y j k l m c d e f ej el ex = λ i. record { asked = a; script = script; log = el i; junk = ej i; flaws = record { size = e i || is_short a.kind g (ex i); dates = f i } }

module _ (s t : State) (h : Twins s t) where
  out-same : (p : Option Geometry) {o u : Op} → Given o u → Flawed p o u → Near (out_at p o s) (out_at p u t)
  unfolding out_at call_by raw_by oversize misdated sent_by ended_by pin_outcome cut_by
  out-same (Some g) (calls a script {p} {q} {a = x} {b = y} {j} {k} {l} {m} {x = c} {y = d} ej el ex) e =
      call_same g (request-same g a script p q x y j k l m c d (e.0 g refl) e.1 ej el ex) (secret x p j c) (secret y q k d) s t h
  out-same (Some g) (raws frame script {j} {k} {l} {m} {a} {b} ej el ea) e = raw_same g frame script j k l m a b s t ej el ea h
  out-same (Some g) (straights frame {a} {b} ea) e =
      met-same (sent_by (Some g) s frame a) (sent_by (Some g) t frame b)
      (pick_answer (framed (length frame) (length a)) _ _ ∙ (λ i. cond (framed (length frame) (ea i)) Answers.Done Answers.Frame) ∙ sym (pick_answer (framed (length frame) (length b)) _ _))
  out-same (Some g) (pins high) e = met-same (pin_outcome high s) (pin_outcome high t) refl
  out-same (Some g) ends e = met-same (ended_by (Some g) s) (ended_by (Some g) t) refl
  out-same (Some g) (cuts {j} {k} ej) e =
      met-same (cut_by (Some g) j s) (cut_by (Some g) k t)
      (pick_answer (cut_fits g (length s.memory.array) (length j)) _ _ ∙ (λ i. cond (cut_fits g (h.size i) (ej i)) Answers.Done Answers.Script)
      ∙ sym (pick_answer (cut_fits g (length t.memory.array) (length k)) _ _))
  out-same None (calls a script ej el ex) e = refl-same refl refl refl refl
  out-same None (raws frame script ej el ea) e = refl-same refl refl refl refl
  out-same None (straights frame ea) e = refl-same refl refl refl refl
  out-same None (pins high) e = refl-same refl refl refl refl
  out-same None ends e = refl-same refl refl refl refl
  out-same None (cuts ej) e = refl-same refl refl refl refl

  registers-same : (p : Option Geometry) {o u : Op} → Given o u → Flawed p o u → junk_by p o s ≡ junk_by p u t → (next_at p o s).registers ≡ (next_at p u t).registers
  unfolding next_at called_by raw_left raw_next raw_junk cut_junk oversize misdated junk_by sent_by ended_by pin_outcome pinned_state cut_by sent_state ended_state cut_state
  registers-same (Some g) (calls a script {p} {q} {a = x} {b = y} {j} {k} {l} {m} {x = c} {y = d} ej el ex) e z =
      call-registers g (request-same g a script p q x y j k l m c d (e.0 g refl) e.1 ej el ex) (secret x p j c) (secret y q k d) s t h z
  registers-same (Some g) (raws frame script {j} {k} {l} {m} {a} {b} ej el ea) e z =
      let r = raw_refusal_lem g frame script j k l m a b s t ej el ea h in
      raw-registers (eqb (number_of (raw_refusal g (length s.memory.array) frame (length a) (length l) script (length j))) 0) (eqb (scripted script 0) 2) g (scripted script 0) frame j s
      ∙ (λ i. cond (eqb (number_of (r i)) 0) (cond (eqb (scripted script 0) 2) (lost g (control g (h.registers i) frame).registers (z i)) (registers_after g (scripted script 0) (control g (h.registers i) frame).registers)) (h.registers i))
      ∙ sym (raw-registers (eqb (number_of (raw_refusal g (length t.memory.array) frame (length b) (length m) script (length k))) 0) (eqb (scripted script 0) 2) g (scripted script 0) frame k t)
  registers-same (Some g) (straights frame {a} {b} ea) e z =
      pick_state (framed (length frame) (length a)) _ _
      ∙ (λ i. cond (framed (length frame) (ea i)) (control g (h.registers i) frame).registers (h.registers i))
      ∙ sym (pick_state (framed (length frame) (length b)) _ _)
  registers-same (Some g) (pins high) e z = λ i. with_wp (h.registers i) high
  registers-same (Some g) ends e z = λ i. completed g (h.registers i)
  registers-same (Some g) (cuts {j} {k} ej) e z =
      pick_state (cut_fits g (length s.memory.array) (length j)) _ _
      ∙ cut-kept (cut_fits g (length s.memory.array) (length j)) s.registers (reaching g s.registers.operation j)
      ∙ (λ i. cond (cut_fits g (h.size i) (ej i)) (lost g (h.registers i) (z i)) (h.registers i))
      ∙ sym (cut-kept (cut_fits g (length t.memory.array) (length k)) t.registers (reaching g t.registers.operation k))
      ∙ sym (pick_state (cut_fits g (length t.memory.array) (length k)) _ _)
    where
      -- only a cut that is not refused takes junk
      cut-kept : (b : Bool) (r : Registers) (w : List ℕ) → cond b (lost g r w) r ≡ cond b (lost g r (cond b w [])) r
      cut-kept true r w = refl
      cut-kept false r w = refl
  registers-same None (calls a script ej el ex) e z = h.registers
  registers-same None (raws frame script ej el ea) e z = h.registers
  registers-same None (straights frame ea) e z = h.registers
  registers-same None (pins high) e z = λ i. with_wp (h.registers i) high
  registers-same None ends e z = h.registers
  registers-same None (cuts ej) e z = h.registers

-- the part is looked up from what the two runs share
pub part_same : (s t : State) → Twins s t → part_in s ≡ part_in t
part_same s t h = λ i. placed (h.size i) (h.registers i).operation

-- control is the same in both, and no answer is 16
op_same : (o u : Op) (s t : State) → Whole (chip_in s) → Whole (chip_in t) → Twins s t → Alike o u s t → Same (out_of o s) (out_of u t)
op_same o u s t w z h a =
    let n : Near (out_of o s) (out_of u t) =
    subst (λ (x : Out). Near x (out_of u t)) (sym (out_at_lem o s))
    (subst (λ (y : Out). Near (out_at (part_in s) o s) y) (sym (out_at_lem u t))
    (subst (λ (p : Option Geometry). Near (out_at (part_in s) o s) (out_at p u t)) (part_same s t h) (out-same s t h (part_in s) a.given (a.size, a.dates)))) in
    record {
      lines = n.lines;
      frames = n.frames;
      polls = n.polls;
      answer = settled (out_of o s).answer (out_of u t).answer (op_never o s w) (op_never u t z) n.answer;
    }

pub next_twins : (o u : Op) (s t : State) → Twins s t → Alike o u s t → Twins (next_of o s) (next_of u t)
unfolding junk_of
next_twins o u s t h a =
    let p = part_same s t h in
    let n = length t.memory.array in
    record {
      registers =
          ap (λ (x : State). x.registers) (next_at_lem o s)
          ∙ subst (λ (q : Option Geometry). (next_at (part_in s) o s).registers ≡ (next_at q u t).registers) p
          (registers-same s t h (part_in s) a.given (a.size, a.dates) (subst (λ (q : Option Geometry). junk_by (part_in s) o s ≡ junk_by q u t) (sym p) a.junk))
          ∙ ap (λ (x : State). x.registers) (sym (next_at_lem u t));
      size =
          op_keeps (λ r m. length m.array ≡ n) (array_steady (λ x. x ≡ n)) o s h.size
          ∙ sym (op_keeps (λ r m. length m.array ≡ n) (array_steady (λ x. x ≡ n)) u t refl);
    }

-- DEMAND 3
pub two_runs : (os us : List Op) (s t : State) → Whole (chip_in s) → Whole (chip_in t) → Twins s t → AlikeLists os us s t → AllSame (run_list os s) (run_list us t)
unfolding run_list
two_runs [] [] s t w z h a = tt
two_runs [] (u ∷ us) s t w z h a = a
two_runs (o ∷ os) [] s t w z h a = a
two_runs (o ∷ os) (u ∷ us) s t w z h a =
    (op_same o u s t w z h a.0, two_runs os us (next_of o s) (next_of u t) (whole_op o s w) (whole_op u t z) (next_twins o u s t h a.0) a.1)
