-- The frames that a call sends, each with its reply and script byte, and what it is for them to follow a plan. This is said in bits of the replies and in
-- numbers, and not by the tests that the driver makes.
-- Assumes nothing.
use Rattle.std.specs.Prelude.{ℕ, zero, suc, ◌+◌, ◌-◌, ◌*◌, ◌/◌, ◌%◌, ◌<◌, ◌≤◌, ◌≡◌, Bool, true, false, cond, ◌&&◌, ◌||◌, List, [], ◌∷◌, ◌++◌, ◌⊎◌, length, get_or, eqb}
use Rattle.geometry.specs.declared.Geometry.{Geometry}
use Rattle.registers.specs.declared.Registers.{Registers}
use Rattle.registers.specs.Protection.{has_bits, sealed}
use Rattle.control.specs.Starts.{Ready, Lengths}
use Rattle.state.specs.declared.Answer.{Answer}
use Rattle.state.specs.declared.Answer.TheVariants as Answers
use Rattle.slots.specs.declared.Kind.{Kind}
use Rattle.slots.specs.declared.Step.{Step}
use Rattle.slots.specs.declared.Step.TheVariants.{Wait, Protection, Lockdown, Read, Load, Send, End}
use Rattle.slots.specs.declared.Verdict.{Verdict}
use Rattle.slots.specs.declared.Verdict.TheVariants.{Good, Blank, Beyond, Outside}
use Rattle.slots.specs.Records.{day_in}
use Rattle.slots.specs.Plans.{Asked, sector_for, is_asking, bound, plan_of, is_wait, frames_of, polls_of}
use Rattle.slots.specs.Driver.{Holding, frame_of, register_in, taken_by, is_ended, verdict_answer}
use Rattle.state.specs.Memory.{State}
use Rattle.slots.specs.Calls.{Out, Request, Secret, Open, Closed, scripted, sends, replies, outline, step_open, step_closed, start_open, start_closed}

-- (14.11) a frame, its reply, and the script byte that acts after it
pub record Exchange : Type 0 where
  pub frame : List ℕ
  pub reply : List ℕ
  pub byte : ℕ

-- Aid: those of the next n steps of a run: none once it has ended
unfoldable pub exchanges_of : ℕ → Geometry → Request → Open → Closed → List Exchange
exchanges_of zero g v p q = []
exchanges_of (suc n) g v p q =
    cond (is_ended p.course.stage) []
    (record { frame = sends g v p q; reply = replies g v p q; byte = scripted v.script p.frames }
    ∷ exchanges_of n g v (step_open g v p q) (step_closed g v p q))

-- (14.11) all of a call
unfoldable pub exchanges : Geometry → Request → Secret → State → List Exchange
exchanges g v x s =
    exchanges_of (bound g v.asked) g v (start_open g (length s.memory.array) v s.registers) (start_closed x s.memory)

-- Aid: their lines in the log
unfoldable pub outlines : List Exchange → List ℕ
outlines [] = []
outlines (e ∷ es) = outline e.frame ++ outlines es

-- ---- Aid: a wait

abbrev pub status_frame : List ℕ
status_frame = 0xD7 ∷ 0x00 ∷ []

-- the status is the reply's second byte
abbrev pub status_in : Exchange → ℕ
status_in e = get_or e.reply 1 255

-- bits 5-2 are 1001
abbrev pub Ours : ℕ → Type 0
Ours status = status / 4 % 16 ≡ 9

-- bit 7 is 1
abbrev pub IsReady : ℕ → Type 0
IsReady status = status / 128 % 2 ≡ 1

-- bit 1
abbrev pub guarded_in : Exchange → Bool
guarded_in e = eqb (status_in e / 2 % 2) 1

-- a poll that is not cut
abbrev pub Polled : Exchange → Type 0
Polled e = (e.frame ≡ status_frame) × (e.byte ≡ 2 → ⊥)

-- a poll that finds the chip busy
abbrev pub FoundBusy : Exchange → Type 0
FoundBusy e = Polled e × Ours (status_in e) × (IsReady (status_in e) → ⊥)

-- a wait finds the chip ready, or ends the call
pub data Turn : Type 0 where
  goes : (e : Exchange) → Turn
  stops : (a : Answer) → Turn

-- (14.11) the polls of a wait that has so many left: until ready; 8 at the first status whose bits 5-2 are not 1001, whether or not it tells ready; 9
-- after the last of them, none ready; 11 at a cut
pub data Polls : ℕ → List Exchange → Turn → Type 0 where
  lost : {b : ℕ} {e : Exchange} → e.frame ≡ status_frame → e.byte ≡ 2 → Polls b (e ∷ []) (stops Answers.Cut)
  foreign : {b : ℕ} {e : Exchange} → Polled e → (Ours (status_in e) → ⊥) → Polls b (e ∷ []) (stops Answers.Device)
  ready : {b : ℕ} {e : Exchange} → Polled e → Ours (status_in e) → IsReady (status_in e) → Polls b (e ∷ []) (goes e)
  busy : {b : ℕ} {e : Exchange} → FoundBusy e → b ≤ 1 → Polls b (e ∷ []) (stops Answers.Busy)
  again : {b : ℕ} {e : Exchange} {es : List Exchange} {t : Turn} → FoundBusy e → 1 < b → Polls (b - 1) es t → Polls b (e ∷ es) t

-- ---- Aid: a plan

-- a call's end: at the plan's end with these data, or where it was stopped
pub data Result : Type 0 where
  finished : (h : Holding) → Result
  stopped : (a : Answer) → Result

-- its answer: at the plan's end 0, 12, 13, 15 or 16 by the data
abbrev pub answer_for : Result → Answer
answer_for (finished h) = verdict_answer h.verdict
answer_for (stopped a) = a

-- the steps that send one frame, whose reply control does not go by
unfoldable pub is_plain : Step → Bool
is_plain (Wait c) = false
is_plain Protection = false
is_plain Lockdown = false
is_plain (Read p) = true
is_plain (Load p) = true
is_plain (Send c p) = true
is_plain End = false

module _ (g : Geometry) (a : Asked) where
  -- the step's frame, not cut
  abbrev pub Sent : Exchange → Step → Holding → Type 0
  Sent e x h = (e.frame ≡ frame_of g a.kind h x) × (e.byte ≡ 2 → ⊥)

  -- the sector's bits in a reply to 32 or 35 are not all 0
  abbrev pub held_in : Exchange → Bool
  held_in e = has_bits g (register_in g e.reply) (sector_for g a)

  -- (14.11) the exchanges follow the steps in order: polls left for a wait at their head; whether the sector is listed, bit 1 of the last status; the
  -- data; the exchanges, how many of them are polls, and the end
  pub data Follows : ℕ → List Step → Bool → Bool → Holding → List Exchange → ℕ → Result → Type 0 where
    done : {b : ℕ} {l d : Bool} {h : Holding} → Follows b [] l d h [] 0 (finished h)
    waited : {b k m : ℕ} {xs : List Step} {l d c : Bool} {h : Holding} {e : Exchange} {es fs : List Exchange} {t : Result}
        → Polls b es (goes e) → Follows a.limit xs l (guarded_in e) (taken_by (Wait c) g a.kind h e.reply) fs k t → m ≡ length es + k
        → Follows b (Wait c ∷ xs) l d h (es ++ fs) m t
    halted : {b : ℕ} {xs : List Step} {l d c : Bool} {h : Holding} {es : List Exchange} {n : Answer}
        → Polls b es (stops n) → Follows b (Wait c ∷ xs) l d h es (length es) (stopped n)
    cut : {b : ℕ} {x : Step} {xs : List Step} {l d : Bool} {h : Holding} {e : Exchange}
        → is_wait x ≡ false → e.frame ≡ frame_of g a.kind h x → e.byte ≡ 2 → Follows b (x ∷ xs) l d h (e ∷ []) 0 (stopped Answers.Cut)
    listed : {b k : ℕ} {xs : List Step} {l d : Bool} {h : Holding} {e : Exchange} {es : List Exchange} {t : Result}
        → Sent e Protection h → Follows a.limit xs (held_in e) d h es k t → Follows b (Protection ∷ xs) l d h (e ∷ es) k t
    shut : {b : ℕ} {xs : List Step} {l d : Bool} {h : Holding} {e : Exchange}
        → Sent e Lockdown h → (held_in e || (l && d)) ≡ true → Follows b (Lockdown ∷ xs) l d h (e ∷ []) 0 (stopped Answers.Sealed)
    free : {b k : ℕ} {xs : List Step} {l d : Bool} {h : Holding} {e : Exchange} {es : List Exchange} {t : Result}
        → Sent e Lockdown h → (held_in e || (l && d)) ≡ false → Follows a.limit xs l d h es k t → Follows b (Lockdown ∷ xs) l d h (e ∷ es) k t
    plain : {b k : ℕ} {x : Step} {xs : List Step} {l d : Bool} {h : Holding} {e : Exchange} {es : List Exchange} {t : Result}
        → is_plain x ≡ true → Sent e x h → Follows a.limit xs l d (taken_by x g a.kind h e.reply) es k t → Follows b (x ∷ xs) l d h (e ∷ es) k t

-- ---- where a call stops

-- (14.12) an exchange that stops no call: it is not cut, and a poll's bits 5-2 are 1001
abbrev pub Calm : Exchange → Type 0
Calm e = (e.byte ≡ 2 → ⊥) × (e.frame ≡ status_frame → Ours (status_in e))

-- (14.12) the last exchange of a call says why it comes to this end: 11 at a cut; 8 at a poll whose bits 5-2 are not 1001; 9 at a poll that finds the chip
-- busy; 10 and the plan's end at none of these
pub data Why : Exchange → Result → Type 0 where
  at_cut : {e : Exchange} → e.byte ≡ 2 → Why e (stopped Answers.Cut)
  at_foreign : {e : Exchange} → Polled e → (Ours (status_in e) → ⊥) → Why e (stopped Answers.Device)
  at_busy : {e : Exchange} → FoundBusy e → Why e (stopped Answers.Busy)
  at_seal : {e : Exchange} → Calm e → (e.frame ≡ status_frame → ⊥) → Why e (stopped Answers.Sealed)
  at_end : {e : Exchange} {h : Holding} → Calm e → (e.frame ≡ status_frame → IsReady (status_in e)) → Why e (finished h)

-- (14.12) and none before it stops the call
abbrev pub StopsAt : List Exchange → Result → Type 0
StopsAt [] t = ⊥
StopsAt (e ∷ []) t = Why e t
StopsAt (e ∷ (f ∷ es)) t = Calm e × StopsAt (f ∷ es) t

-- (14.11) a call's frames, polls, log and answer, as its plan has them
pub record AsPlanned (g : Geometry) (v : Request) (h : Holding) (es : List Exchange) (o : Out) : Type 0 where
  pub result : Result
  pub follows : Follows g v.asked v.asked.limit (plan_of g v.asked) false false h es o.polls result
  pub frames : o.frames ≡ length es
  pub lines : o.lines ≡ outlines es
  pub answer : o.answer ≡ answer_for result

-- ---- 12, 13 and 15

-- (14.13) the first bytes of a slot begin a record: version 1 with a head of 3 bytes, or 2 with one of 11, and a length that fits behind it
pub data Begins (g : Geometry) (bytes : List ℕ) : Type 0 where
  plain : get_or bytes 0 0 ≡ 1 → 3 + (get_or bytes 1 0 * 256 + get_or bytes 2 0) ≤ 8 * g.size → Begins g bytes
  termed : get_or bytes 0 0 ≡ 2 → 11 + (get_or bytes 1 0 * 256 + get_or bytes 2 0) ≤ 8 * g.size → Begins g bytes

-- (14.13) what they tell a patch that ends at `end`
pub data PatchJudges (g : Geometry) (bytes : List ℕ) (end : ℕ) : Verdict → Type 0 where
  no_record : (Begins g bytes → ⊥) → PatchJudges g bytes end Blank
  too_far : Begins g bytes → get_or bytes 1 0 * 256 + get_or bytes 2 0 < end → PatchJudges g bytes end Beyond
  fits : Begins g bytes → end ≤ get_or bytes 1 0 * 256 + get_or bytes 2 0 → PatchJudges g bytes end Good

-- (14.13) what they tell a get on day `today`: only version 2 has a term, its days at 3 and at 7
pub data GetJudges (g : Geometry) (bytes : List ℕ) (today : ℕ) : Verdict → Type 0 where
  none : (Begins g bytes → ⊥) → GetJudges g bytes today Blank
  outside : Begins g bytes → get_or bytes 0 0 ≡ 2 → (today < day_in bytes 3) ⊎ (day_in bytes 7 < today) → GetJudges g bytes today Outside
  inside : Begins g bytes → (get_or bytes 0 0 ≡ 2 → (day_in bytes 3 ≤ today) × (today ≤ day_in bytes 7)) → GetJudges g bytes today Good

-- ---- 16

-- Aid: the first byte of an exchange's frame
abbrev pub opcode_in : Exchange → ℕ
opcode_in e = get_or e.frame 0 255

-- (14.29) of a call's exchanges: a wait after a 60 ended on a status with bit 6 set. A status that does not tell ready ends no wait; `due`: the last frame that
-- was no status is a 60, and no wait has ended since
unfoldable pub miscompared : (due : Bool) → List Exchange → Bool
miscompared due [] = false
miscompared due (e ∷ es) =
    cond (eqb (opcode_in e) 0xD7)
    (cond (eqb (status_in e / 128 % 2) 1) ((due && eqb (status_in e / 64 % 2) 1) || miscompared false es) (miscompared due es))
    (miscompared (eqb (opcode_in e) 0x60) es)

-- (14.29) the answers that come before 16: 8 to 13
pub data Before16 : Answer → Type 0 where
  device : Before16 Answers.Device
  busy : Before16 Answers.Busy
  shut : Before16 Answers.Sealed
  lost : Before16 Answers.Cut
  blank : Before16 Answers.Blank
  beyond : Before16 Answers.End

-- (14.29) the answer is 16 exactly if none of these is, and a wait after a 60 ended so
pub record MiscompareExactly (es : List Exchange) (a : Answer) : Type 0 where
  pub only : a ≡ Answers.Miscompare → miscompared false es ≡ true
  pub due : miscompared false es ≡ true → Before16 a ⊎ (a ≡ Answers.Miscompare)

-- ---- a call that nothing disturbs

-- (14.15) the exchanges are the steps' one by one: each wait one D7
abbrev pub OneByOne : Geometry → Kind → Holding → List Step → List Exchange → Holding → Type 0
OneByOne g k h [] [] h' = h ≡ h'
OneByOne g k h [] (e ∷ es) h' = ⊥
OneByOne g k h (x ∷ xs) [] h' = ⊥
OneByOne g k h (x ∷ xs) (e ∷ es) h' = (e.frame ≡ frame_of g k h x) × OneByOne g k (taken_by x g k h e.reply) xs es h'

-- (14.14) an idle, awake chip, its registers of their lengths, and the slot's sector not sealed where the call asks
pub record Undisturbed (g : Geometry) (a : Asked) (r : Registers) : Type 0 where
  pub ready : Ready r
  pub lengths : Lengths r
  pub unsealed : is_asking a.kind ≡ true → sealed g r (sector_for g a) ≡ false

-- (14.15) frames, polls, log and answer of such a call; the data after its last step in `left`
pub record AsListed (g : Geometry) (a : Asked) (h : Holding) (es : List Exchange) (o : Out) : Type 0 where
  pub left : Holding
  pub sent : OneByOne g a.kind h (plan_of g a) es left
  pub frames : o.frames ≡ frames_of a.kind
  pub polls : o.polls ≡ polls_of a.kind
  pub lines : o.lines ≡ outlines es
  pub answer : o.answer ≡ verdict_answer left.verdict
