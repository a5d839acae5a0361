-- Calls and events, and lists of them: each is done on what the one before it left.
-- Assumes nothing.
use Rattle.std.specs.Prelude.{ℕ, ◌≡◌, Bool, ◌&&◌, ◌||◌, List, [], ◌∷◌, length, eqb, leb, None, Option, Some}
use Rattle.dates.specs.declared.Date.{Date}
use Rattle.dates.specs.declared.Term.{Term}
use Rattle.geometry.specs.declared.Geometry.{Geometry}
use Rattle.state.specs.declared.Answer.{Answer}
use Rattle.state.specs.declared.Answer.TheVariants as Answers
use Rattle.state.specs.Answers.{number_of}
use Rattle.slots.specs.declared.Detail.{Detail}
use Rattle.slots.specs.declared.Flaws.{Flaws}
use Rattle.slots.specs.declared.Kind.{Kind}
use Rattle.slots.specs.declared.Kind.TheVariants.{Put, Patch, Get, Wipe}
use Rattle.slots.specs.Plans.{Asked, stated}
use Rattle.slots.specs.Details.{aim_of, storing, changing, reading, untold}
use Rattle.slots.specs.Refusals.{flaws_in}
use Rattle.state.specs.Memory.{State}
use Rattle.state.specs.Outcomes.{Left, part_in, send_outcome, end_outcome, pin_outcome, cut_outcome}
use Rattle.slots.specs.Calls.{Out, Request, Secret, refused, call_out, call_next, raw_out, raw_next}

-- (11.14) a call or an event, with all that it is given. Of a call by a plan: `detail` is a patch's place, a put's term, a get's date, `payload` the recipe
-- or the patch, `lent` the get buffer; what does not concern the call is not looked at
pub data Op : Type 0 where
  call : (asked : Asked) (detail : Detail) (script payload junk log lent : List ℕ) → Op
  raw : (frame script junk log reply : List ℕ) → Op
  straight : (frame reply : List ℕ) → Op
  pin : (high : Bool) → Op
  busy_end : Op
  cut : (junk : List ℕ) → Op

-- ---- the calls by their names

-- Aid: what is asked
abbrev pub asking : Kind → ℕ → ℕ → Asked
asking k slot limit = record { kind = k; slot = slot; limit = limit }

-- (11.14) put
abbrev pub put : (slot limit : ℕ) (term : Term) (script recipe junk log : List ℕ) → Op
put slot limit term script recipe junk log = call (asking Put slot limit) (storing term) script recipe junk log []

-- (11.14) patch
abbrev pub patch : (slot limit place : ℕ) (script bytes junk log : List ℕ) → Op
patch slot limit place script bytes junk log = call (asking Patch slot limit) (changing place) script bytes junk log []

-- (11.14) get
abbrev pub get : (slot limit : ℕ) (today : Date) (script junk log buffer : List ℕ) → Op
get slot limit today script junk log buffer = call (asking Get slot limit) (reading today) script [] junk log buffer

-- (11.14) wipe
abbrev pub wipe : (slot limit : ℕ) (script junk log : List ℕ) → Op
wipe slot limit script junk log = call (asking Wipe slot limit) untold script [] junk log []

-- ---- Aid: what each is asked on a known part

abbrev pub request : Asked → List ℕ → ℕ → ℕ → Flaws → Request
request a script log junk flaws = record { asked = a; script = script; log = log; junk = junk; flaws = flaws }

abbrev pub secret : List ℕ → Detail → List ℕ → List ℕ → Secret
secret payload d junk lent = record { payload = payload; aim = aim_of d; junk = junk; lent = lent }

abbrev pub asks : Geometry → Asked → Detail → List ℕ → List ℕ → List ℕ → List ℕ → List ℕ → Request
asks g a d script payload junk log lent =
    request a script (length log) (length junk) (flaws_in a.kind g d (length payload) (length lent))

-- ---- outcomes

-- (11.15) an event's outcome, or that of a frame sent straight: its answer, and of a frame the reply
abbrev pub met : Left → Out
met o = refused o.answer o.reply

-- (12.10) a call by a plan: 1 on an array of no part
unfoldable pub call_by : Option Geometry → Asked → Detail → (script payload junk log lent : List ℕ) → State → Out
call_by (Some g) a d script payload junk log lent s =
    call_out g (asks g a d script payload junk log lent) (secret payload d junk lent) s
call_by None a d script payload junk log lent s = refused Answers.Part lent

-- (12.10) raw, likewise
unfoldable pub raw_by : Option Geometry → (frame script junk log reply : List ℕ) → State → Out
raw_by (Some g) frame script junk log reply s = raw_out g frame script (length log) (length junk) reply s
raw_by None frame script junk log reply s = refused Answers.Part reply

-- (11.16) what a call or an event answers and hands back
unfoldable pub out_of : Op → State → Out
out_of (call a d script payload junk log lent) s = call_by (part_in s) a d script payload junk log lent s
out_of (raw frame script junk log reply) s = raw_by (part_in s) frame script junk log reply s
out_of (straight frame reply) s = met (send_outcome s frame reply)
out_of (pin high) s = met (pin_outcome high s)
out_of busy_end s = met (end_outcome s)
out_of (cut junk) s = met (cut_outcome junk s)

-- ---- states

-- (12.10) the state after a call by a plan
unfoldable pub called_by : Option Geometry → Asked → Detail → (script payload junk log lent : List ℕ) → State → State
called_by (Some g) a d script payload junk log lent s =
    call_next g (asks g a d script payload junk log lent) (secret payload d junk lent) s
called_by None a d script payload junk log lent s = s

-- (12.10) after raw
unfoldable pub raw_left : Option Geometry → (frame script junk log reply : List ℕ) → State → State
raw_left (Some g) frame script junk log reply s = raw_next g frame script (length log) junk (length reply) s
raw_left None frame script junk log reply s = s

-- (11.16) the state after a call or an event
unfoldable pub next_of : Op → State → State
next_of (call a d script payload junk log lent) s = called_by (part_in s) a d script payload junk log lent s
next_of (raw frame script junk log reply) s = raw_left (part_in s) frame script junk log reply s
next_of (straight frame reply) s = (send_outcome s frame reply).state
next_of (pin high) s = (pin_outcome high s).state
next_of busy_end s = (end_outcome s).state
next_of (cut junk) s = (cut_outcome junk s).state

-- ---- lists

-- (11.17) the outcomes of a list
unfoldable pub run_list : List Op → State → List Out
run_list [] s = []
run_list (o ∷ os) s = out_of o s ∷ run_list os (next_of o s)

-- (11.17) the state that a list leaves
unfoldable pub left_by : List Op → State → State
left_by [] s = s
left_by (o ∷ os) s = left_by os (next_of o s)

-- (14.30) none of them answers 16
abbrev pub NoMiscompare : List Out → Type 0
NoMiscompare [] = Unit {0}
NoMiscompare (o ∷ os) = (o.answer ≡ Answers.Miscompare → ⊥) × NoMiscompare os

-- ---- how many frames each may send

-- (14.3) the bound of each: events, and a frame sent straight, are no calls, and their frames are not counted
unfoldable pub bound_of : Op → ℕ
bound_of (call a d script payload junk log lent) = stated a.kind a.limit
bound_of (raw frame script junk log reply) = 1
bound_of (straight frame reply) = 0
bound_of (pin high) = 0
bound_of busy_end = 0
bound_of (cut junk) = 0

-- ---- refusals

-- (14.2) one of 1 to 7, or 14
abbrev pub is_refusal : Answer → Bool
is_refusal a = (leb 1 (number_of a) && leb (number_of a) 7) || eqb (number_of a) 14

-- (14.2) what was lent for output
unfoldable pub lent_to : Op → List ℕ
lent_to (call a d script payload junk log lent) = lent
lent_to (raw frame script junk log reply) = reply
lent_to (straight frame reply) = reply
lent_to (pin high) = []
lent_to busy_end = []
lent_to (cut junk) = []

-- Aid: the log that it was lent
unfoldable pub log_of : Op → List ℕ
log_of (call a d script payload junk log lent) = log
log_of (raw frame script junk log reply) = log
log_of (straight frame reply) = []
log_of (pin high) = []
log_of busy_end = []
log_of (cut junk) = []

-- (14.2) an outcome and the state after it, as a refusal leaves them: no frame, no poll, no log line, n 0, what was lent and the state as before
pub record Untouched (lent : List ℕ) (s : State) (o : Out) (t : State) : Type 0 where
  pub out : o ≡ refused o.answer lent
  pub next : t ≡ s
