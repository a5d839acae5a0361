-- What demand 3 says of two runs: which inputs are alike, and which outcomes are the same.
-- Assumes nothing.
use Rattle.std.specs.Prelude.{ℕ, ◌≡◌, Bool, false, cond, ◌&&◌, List, [], ◌∷◌, ◌⊎◌, length, eqb, None, Option, Some}
use Rattle.geometry.specs.declared.Geometry.{Geometry}
use Rattle.control.specs.Control.{control}
use Rattle.control.specs.PowerLoss.{reaching}
use Rattle.state.specs.declared.Answer.{Answer}
use Rattle.state.specs.declared.Answer.TheVariants as Answers
use Rattle.state.specs.Answers.{number_of}
use Rattle.slots.specs.declared.Detail.{Detail}
use Rattle.slots.specs.Plans.{Asked}
use Rattle.slots.specs.Refusals.{is_over, is_misdated, raw_refusal}
use Rattle.state.specs.Memory.{State}
use Rattle.state.specs.Outcomes.{part_in, cut_fits}
use Rattle.slots.specs.Calls.{Out, Request, Secret, ran, scripted}
use Rattle.slots.specs.Lists.{Op, call, raw, straight, pin, busy_end, cut, asks, secret, next_of}

-- (14.17) equal registers, arrays of one length
pub record Twins (s t : State) : Type 0 where
  pub registers : s.registers ≡ t.registers
  pub size : length s.memory.array ≡ length t.memory.array

-- (14.18) a lent buffer, or J: the length is alike, the contents need not be
abbrev pub Lent : List ℕ → List ℕ → Type 0
Lent a b = length a ≡ length b

-- (14.18) what may show is the same: which call, slot, B, script, raw frame, pin level, and the lengths of log, get buffer, reply and junk. Recipes,
-- patches and their places, terms and today's dates are any
pub data Given : Op → Op → Type 0 where
  calls : (asked : Asked) (script : List ℕ) {p q : Detail} {a b j k l m x y : List ℕ} → Lent j k → Lent l m → Lent x y →
      Given (call asked p script a j l x) (call asked q script b k m y)
  raws : (frame script : List ℕ) {j k l m a b : List ℕ} → Lent j k → Lent l m → Lent a b →
      Given (raw frame script j l a) (raw frame script k m b)
  straights : (frame : List ℕ) {a b : List ℕ} → Lent a b → Given (straight frame a) (straight frame b)
  pins : (high : Bool) → Given (pin high) (pin high)
  ends : Given busy_end busy_end
  cuts : {j k : List ℕ} → Lent j k → Given (cut j) (cut k)

-- (14.19) whether 5 is met by a recipe or a patch
unfoldable pub oversize : Geometry → Op → Bool
oversize g (call a d script payload junk log lent) = is_over a.kind g d (length payload)
oversize g (raw frame script junk log reply) = false
oversize g (straight frame reply) = false
oversize g (pin high) = false
oversize g busy_end = false
oversize g (cut junk) = false

-- (14.19) whether 14 is met by a term or by today's date
unfoldable pub misdated : Op → Bool
misdated (call a d script payload junk log lent) = is_misdated a.kind d
misdated (raw frame script junk log reply) = false
misdated (straight frame reply) = false
misdated (pin high) = false
misdated busy_end = false
misdated (cut junk) = false

-- (14.20) the junk that reaches a register in a call that runs up to a cut, by the operation then under way; nothing without one
unfoldable pub call_junk : Geometry → Request → Secret → State → List ℕ
call_junk g v x s = cond (ran g v x s).0.cut (reaching g (ran g v x s).0.registers.operation x.junk) []

-- (14.20) in a raw frame that is cut
unfoldable pub raw_junk : Geometry → (frame script junk log reply : List ℕ) → State → List ℕ
raw_junk g frame script junk log reply s =
    cond (eqb (number_of (raw_refusal g (length s.memory.array) frame (length reply) (length log) script (length junk))) 0 && eqb (scripted script 0) 2)
    (reaching g (control g s.registers frame).registers.operation junk) []

-- (14.20) in a cut that is not refused
unfoldable pub cut_junk : Geometry → List ℕ → State → List ℕ
cut_junk g junk s = cond (cut_fits g (length s.memory.array) (length junk)) (reaching g s.registers.operation junk) []

-- (14.20) in any call or event
unfoldable pub junk_by : Option Geometry → Op → State → List ℕ
junk_by (Some g) (call a d script payload junk log lent) s = call_junk g (asks g a d script payload junk log lent) (secret payload d junk lent) s
junk_by (Some g) (raw frame script junk log reply) s = raw_junk g frame script junk log reply s
junk_by (Some g) (straight frame reply) s = []
junk_by (Some g) (pin high) s = []
junk_by (Some g) busy_end s = []
junk_by (Some g) (cut junk) s = cut_junk g junk s
junk_by None o s = []

-- (14.20) looked up along the run
unfoldable pub junk_of : Op → State → List ℕ
junk_of o s = junk_by (part_in s) o s

-- (14.19) one input of each run: 5 is met by both or by neither, and so is 14
-- (14.20) and the junk that reaches a register is equal
pub record Alike (o u : Op) (s t : State) : Type 0 where
  pub given : Given o u
  pub size : (g : Geometry) → part_in s ≡ Some g → oversize g o ≡ oversize g u
  pub dates : misdated o ≡ misdated u
  pub junk : junk_of o s ≡ junk_of u t

-- (14.21) the lists, each input taken at the state that the one before left
abbrev pub AlikeLists : List Op → List Op → State → State → Type 0
AlikeLists [] [] s t = Unit {0}
AlikeLists [] (u ∷ us) s t = ⊥
AlikeLists (o ∷ os) [] s t = ⊥
AlikeLists (o ∷ os) (u ∷ us) s t = Alike o u s t × AlikeLists os us (next_of o s) (next_of u t)

-- (14.22) the answers that count as one: 0, 12, 13, 15
abbrev pub Soft : Answer → Type 0
Soft a = ((a ≡ Answers.Done) ⊎ (a ≡ Answers.Blank)) ⊎ ((a ≡ Answers.End) ⊎ (a ≡ Answers.Term))

-- (14.26) of a driver in front of anything that answers 16 may stand for them too: it goes by a bit that is not heard
abbrev pub FromData : Answer → Type 0
FromData a = Soft a ⊎ (a ≡ Answers.Miscompare)

-- (14.22) what is compared of two outcomes
pub record Same (x y : Out) : Type 0 where
  pub lines : x.lines ≡ y.lines
  pub frames : x.frames ≡ y.frames
  pub polls : x.polls ≡ y.polls
  pub answer : (x.answer ≡ y.answer) ⊎ (Soft x.answer × Soft y.answer)

-- (14.22) of two lists, one by one
-- (14.23) which is what demand 3 says of them
abbrev pub AllSame : List Out → List Out → Type 0
AllSame [] [] = Unit {0}
AllSame [] (y ∷ ys) = ⊥
AllSame (x ∷ xs) [] = ⊥
AllSame (x ∷ xs) (y ∷ ys) = Same x y × AllSame xs ys
