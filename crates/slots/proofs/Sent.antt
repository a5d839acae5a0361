-- What the driver's frames do on the chip, in the words of the slot: a D2 tells a page of the slot, an 84 fills buffer 1, an 83 starts the
-- program of a page, and the replies to 32 and 35 tell no sector free that the chip takes for sealed.
-- Assumes nothing.
use Rattle.std.specs.Prelude.{Some}
use Prim.Native.Nat.{ℕ, zero, suc, ◌+◌, ◌-◌, ◌*◌, ◌/◌, ◌%◌, ◌≤◌, ◌<◌}
use mathlib.Core.Path.{◌≡◌, refl, sym, ap, subst, ◌∙◌}
use mathlib.Core.Bool.{Bool, true, false, cond, not, ◌&&◌}
use mathlib.Core.List.{List, [], ◌∷◌}
use mathlib.Core.Logic.{◌⊎◌, inl, inr}
use native.Mathlib.Nat.{mul-lt-mul_of_pos_left}
use native.Mathlib.Omega.{arith}
use lib.ListN.{length, get_or, take, drop, replicate}
use lib.Dec.{eqb, leb, lit<, lit≤}
use borrow.Author.Tests.{ne_eqb}
use Rattle.slices.specs.Lists.{tabulate}
use Rattle.slices.proofs.Laws.{length-tabulate, get_or-tabulate, tabulate_append, tabulate-same, tabulate-part}
use Rattle.geometry.specs.declared.Geometry.{Geometry}
use Rattle.geometry.specs.Parts.{part_of, register_room, Sized, address_at, page_at, page_of}
use Rattle.geometry.specs.Sectors.{sector_of}
use Rattle.geometry.proofs.Pages.{length-page_of, sized}
use Rattle.geometry.proofs.Addresses.{address-bytes, page_address}
use Rattle.commands.specs.declared.Buffer.TheVariants.{One}
use Rattle.registers.specs.declared.Registers.{Registers}
use Rattle.registers.specs.Fields.{with_operation}
use Rattle.registers.specs.Protection.{register_of, Roomed, bits_of, has_bits, guarded, sealed}
use Rattle.registers.proofs.Protection.{byte_of}
use Rattle.control.specs.Control.{control, started, started_on}
use Rattle.control.specs.Starts.{Ready}
use Rattle.memory.specs.Replies.{replied, once_data}
use Rattle.memory.proofs.Replies.{replied_data}
use Rattle.state.specs.Memory.{Memory}
use Rattle.state.specs.Frames.{reply_of}
use Rattle.state.proofs.Lengths.{reply-length}
use Rattle.state.proofs.Replies.{reply-protection, reply-lockdown, page_read}
use Rattle.commands.specs.declared.Decoded.{Decoded}
use Rattle.commands.specs.declared.Effect.{Effect}
use Rattle.commands.specs.declared.Effect.TheVariants as E
use Rattle.commands.specs.Decode.{decode_of}
use Rattle.commands.proofs.Frames.{decode_program, decode_erase, decode_compare}
use Rattle.registers.specs.declared.Operation.{Operation}
use Rattle.registers.specs.declared.Operation.TheVariants as O
use Rattle.control.specs.declared.Decision.{Decision}
use Rattle.control.specs.Control.{ignored, row_of, row_decided}
use Rattle.control.specs.Completion.{completed, completed_by}
use Rattle.control.proofs.Frames.{ready_obeys, page_keeps}
use Rattle.control.proofs.Ends.{completed_idle}
use Rattle.state.specs.Frames.{is_idle, sent_memory, acted, buffer_written, written}
use Rattle.state.proofs.Status.{idle_is}
use Rattle.state.proofs.Replies.{status-byte, reply-status_deep}
use Rattle.state.proofs.Loads.{sent-decided, page_memory}
use Rattle.state.specs.declared.Answer.TheVariants as Answers
use Rattle.slots.specs.declared.Course.{Course}
use Rattle.slots.specs.declared.Kind.{Kind}
use Rattle.slots.specs.declared.Command.{Command}
use Rattle.slots.specs.declared.Command.TheVariants as C
use Rattle.slots.specs.declared.Step.{Step}
use Rattle.slots.specs.declared.Step.TheVariants.{Wait, Protection, Lockdown, Read, Load, Send}
use Rattle.slots.specs.Driver.{Heard, Shape, Holding, opcode_of, shape_of, frame_byte, loaded, frame_of, status_heard, register_in, ended, moved, marking, fewer, course_by, compare_in}
use Rattle.slots.proofs.Blind.{status-heard, status-compare, filler, protection_form, lockdown_form}
use Rattle.slots.proofs.Parts.{cases}

-- ---- addresses

-- a page of a known part is named by its address
pub addressed-few : (n : ℕ) (g : Geometry) (page : ℕ) → part_of n ≡ Some g → page < g.pages → g.field * page < 16777216
addressed-few n g page e l =
    let z = sized n g e in
    omega (arith, z.named, mul-lt-mul_of_pos_left {m = page} {n = g.pages} {k = g.field} l z.addressed)

-- ---- frames

-- a byte after the first four
pub data_byte : (s : Shape) (x : ℕ → ℕ) (k : ℕ) → 4 ≤ k → frame_byte s x k ≡ cond s.loads (x (k - 4)) 0
unfolding frame_byte
data_byte s x k l = λ i.
    cond (ne_eqb k 0 (λ e. absurd (omega arith)) i) s.opcode
    (cond (ne_eqb k 1 (λ e. absurd (omega arith)) i) s.high
    (cond (ne_eqb k 2 (λ e. absurd (omega arith)) i) s.middle
    (cond (ne_eqb k 3 (λ e. absurd (omega arith)) i) s.low (cond s.loads (x (k - 4)) 0))))

-- a D2 and its filler
pub read_form : (g : Geometry) (k : Kind) (h : Holding) (p : ℕ) → frame_of g k h (Read p)
    ≡ 0xD2 ∷ g.field * p / 65536 % 256 ∷ g.field * p / 256 % 256 ∷ g.field * p % 256 ∷ 0 ∷ 0 ∷ 0 ∷ 0 ∷ tabulate g.size (λ i. 0)
unfolding shape_of frame_byte tabulate
read_form g k h p =
    let s = shape_of g (Read p) in
    let x = loaded g k h (Read p) in
    let N = g.field * p in
    tabulate_append 8 g.size (frame_byte s x)
    ∙ ap (λ (t : List ℕ). 0xD2 ∷ N / 65536 % 256 ∷ N / 256 % 256 ∷ N % 256 ∷ 0 ∷ 0 ∷ 0 ∷ 0 ∷ t)
    (tabulate-same g.size (λ i. frame_byte s x (8 + i)) (λ i. 0) (λ i l. data_byte s x (8 + i) (omega arith)))

-- it leaves registers and memory
pub read_keeps : (g : Geometry) (r : Registers) (k : Kind) (h : Holding) (p : ℕ) → (control g r (frame_of g k h (Read p))).registers ≡ r
read_keeps g r k h p = ap (λ (f : List ℕ). (control g r f).registers) (read_form g k h p) ∙ page_keeps g r _ _ _ 0 0 0 0 (tabulate g.size (λ i. 0))

pub read_memory : (g : Geometry) (r : Registers) (m : Memory) (k : Kind) (h : Holding) (p : ℕ) → sent_memory g r (frame_of g k h (Read p)) m ≡ m
read_memory g r m k h p = ap (λ (f : List ℕ). sent_memory g r f m) (read_form g k h p) ∙ page_memory g r m _ _ _ 0 0 0 0 (tabulate g.size (λ i. 0))

-- an 84 and its data
pub load_form : (g : Geometry) (k : Kind) (h : Holding) (p : ℕ) → frame_of g k h (Load p) ≡ 0x84 ∷ 0 ∷ 0 ∷ 0 ∷ tabulate g.size (loaded g k h (Load p))
unfolding shape_of frame_byte tabulate
load_form g k h p =
    let s = shape_of g (Load p) in
    let x = loaded g k h (Load p) in
    tabulate_append 4 g.size (frame_byte s x)
    ∙ ap (λ (t : List ℕ). 0x84 ∷ 0 ∷ 0 ∷ 0 ∷ t) (tabulate-same g.size (λ i. frame_byte s x (4 + i)) x
    (λ i l. let e : 4 + i - 4 ≡ i = omega arith in data_byte s x (4 + i) (omega arith) ∙ ap x e))

take_all : (l : List ℕ) → take (length l) l ≡ l
take_all [] = refl
take_all (x ∷ l) = ap (λ (t : List ℕ). x ∷ t) (take_all l)

-- the D2 of a page on an idle, awake chip tells the page
pub page_told : (g : Geometry) (r : Registers) (m : Memory) (k : Kind) (h : Holding) (p : ℕ) → Ready r → part_of (length m.array) ≡ Some g → p < g.pages
    → tabulate g.size (λ i. get_or (reply_of g r m (frame_of g k h (Read p))) (8 + i) 255) ≡ page_of g p m.array
unfolding shape_of
page_told g r m k h p y e l =
    let n = length m.array in
    let f = frame_of g k h (Read p) in
    let z = sized n g e in
    let t = tabulate g.size (λ i. 0) in
    let long : length (reply_of g r m f) ≡ 8 + g.size = reply-length g r f m ∙ length-tabulate (8 + g.size) (frame_byte (shape_of g (Read p)) (loaded g k h (Read p))) in
    let told : drop 8 (reply_of g r m f) ≡ page_of g p m.array =
    ap (λ (x : List ℕ). drop 8 (reply_of g r m x)) (read_form g k h p)
    ∙ page_read g r m p 0 0 0 0 t y z (length-tabulate g.size (λ i. 0)) l (addressed-few n g p e l) in
    tabulate-part g.size 8 (reply_of g r m f) 255 (omega (arith, long))
    ∙ ap (take g.size) told
    ∙ ap (λ (x : ℕ). take x (page_of g p m.array)) (sym (length-page_of g p m.array z l))
    ∙ take_all (page_of g p m.array)

-- ---- the commands that name a page

-- what each starts
unfoldable pub operation_of : Command → ℕ → Operation
operation_of C.Program p = O.Program One p
operation_of C.Erase p = O.EraseBlock (p / 8)
operation_of C.Compare p = O.Compare One p

-- on an idle, awake chip it starts its operation, or is ignored where the sector is sealed
abbrev pub Starts : Geometry → Registers → ℕ → Command → Decision → Type 0
Starts g r p c d = (d ≡ started r (operation_of c p)) ⊎ ((d ≡ ignored r) × (sealed g r (sector_of g p) ≡ true))

starts_on : (g : Geometry) (r : Registers) (p : ℕ) (o : Operation) → (started_on g r p o ≡ started r o) ⊎ ((started_on g r p o ≡ ignored r) × (sealed g r (sector_of g p) ≡ true))
unfolding started_on
starts_on g r p o = go (sealed g r (sector_of g p))
  where
    go : (b : Bool) → (cond {A = Decision} b (ignored r) (started r o) ≡ started r o) ⊎ ((cond {A = Decision} b (ignored r) (started r o) ≡ ignored r) × (b ≡ true))
    go true = inr (refl, refl)
    go false = inl refl

module _ (g : Geometry) (r : Registers) (k : Kind) (h : Holding) (p : ℕ) (y : Ready r) where
  abbrev named : Command → ℕ
  named c = page_at g (address_at (frame_of g k h (Send c p)) 1)

  by_row : (f : List ℕ) (lead : ℕ) (e : Effect) → decode_of f ≡ record { lead = lead; effect = e } → control g r f ≡ row_of g r f lead e
  by_row f lead e d = ready_obeys g r f y ∙ ap (λ (x : Decoded). row_of g r f x.lead x.effect) d

  pub send_starts : (c : Command) → Starts g r (named c) c (control g r (frame_of g k h (Send c p)))
  unfolding shape_of opcode_of frame_byte tabulate operation_of row_decided
  send_starts C.Program =
      subst (λ (d : Decision). Starts g r (named C.Program) C.Program d) (sym (by_row (frame_of g k h (Send C.Program p)) 4 (E.Program One) (decode_program _ _ _ [])))
      (starts_on g r (named C.Program) (O.Program One (named C.Program)))
  send_starts C.Erase =
      subst (λ (d : Decision). Starts g r (named C.Erase) C.Erase d) (sym (by_row (frame_of g k h (Send C.Erase p)) 4 E.EraseBlock (decode_erase _ _ _ [])))
      (starts_on g r (named C.Erase) (O.EraseBlock (named C.Erase / 8)))
  send_starts C.Compare =
      subst (λ (d : Decision). Starts g r (named C.Compare) C.Compare d) (sym (by_row (frame_of g k h (Send C.Compare p)) 4 (E.Compare One) (decode_compare _ _ _ []))) (inl refl)

  -- the page is named by its address
  pub send_named : (n : ℕ) (c : Command) → part_of n ≡ Some g → Sized g n → p < g.pages → named c ≡ p
  unfolding shape_of frame_byte tabulate
  send_named n c e z l = ap (page_at g) (address-bytes (opcode_of c) (g.field * p) [] (addressed-few n g p e l)) ∙ page_address g p l z.addressed

  -- it leaves the memory
  pub send_memory : (m : Memory) (c : Command) → sent_memory g r (frame_of g k h (Send c p)) m ≡ m
  unfolding acted buffer_written written
  send_memory m c = go (send_starts c)
    where
      go : Starts g r (named c) c (control g r (frame_of g k h (Send c p))) → sent_memory g r (frame_of g k h (Send c p)) m ≡ m
      go (inl e) = sent-decided g r m (frame_of g k h (Send c p)) (started r (operation_of c (named c))) e
      go (inr e) = sent-decided g r m (frame_of g k h (Send c p)) (ignored r) e.0

  -- and once its busy end has come the registers are as they were
  pub send_returns : (c : Command) → completed g (control g r (frame_of g k h (Send c p))).registers ≡ r
  unfolding completed completed_by operation_of
  send_returns c = go (send_starts c)
    where
      back : (c : Command) (q : ℕ) → completed g (with_operation r (operation_of c q)) ≡ with_operation r O.Idle
      back C.Program q = refl
      back C.Erase q = refl
      back C.Compare q = refl

      go : Starts g r (named c) c (control g r (frame_of g k h (Send c p))) → completed g (control g r (frame_of g k h (Send c p))).registers ≡ r
      go (inl e) = ap (λ (d : Decision). completed g d.registers) e ∙ back c (named c) ∙ λ i. with_operation r (sym y.0 i)
      go (inr e) = ap (λ (d : Decision). completed g d.registers) e.0 ∙ completed_idle g r y.0

-- ---- waits

-- what is heard of the reply to a poll
abbrev pub poll_heard : Geometry → Registers → Memory → Heard
poll_heard g r m = status_heard (get_or (reply_of g r m (0xD7 ∷ 0 ∷ [])) 1 255)

-- a poll of a wait: 8, 9, once more, or ready, and then the chip is idle and awake
pub waits : (Q : Course → Type 0) (x : Bool) (next : Step) (limit : ℕ) (c : Course) (g : Geometry) (r : Registers) (m : Memory)
    → Q (ended Answers.Device c) → Q (ended Answers.Busy c) → Q (fewer c) → (Ready r → Q (moved next limit (marking (guarded r) c)))
    → Q (course_by (Wait x) next limit c (poll_heard g r m))
unfolding course_by
waits Q x next limit c g r m eight nine again ready = deep r.deep refl
  where
    heard : Heard → Type 0
    heard o = Q (course_by (Wait x) next limit c o)

    awake : (b : Bool) → is_idle r.operation ≡ b → r.deep ≡ false → heard (record { density = true; ready = b; guarded = guarded r; held = false })
    awake true e d = ready (idle_is r.operation e, d)
    awake false e d = cases Q (leb c.left 1) nine again

    deep : (b : Bool) → r.deep ≡ b → heard (poll_heard g r m)
    deep true e = subst (λ (l : List ℕ). heard (status_heard (get_or l 1 255))) (sym (reply-status_deep g r m (0 ∷ []) e)) eight
    deep false e =
        subst heard (sym (ap status_heard (status-byte g r m (0 ∷ []) 1 255 e (lit≤ tt) (lit< tt)) ∙ status-heard g (is_idle r.operation) m.compare (guarded r)))
        (awake (is_idle r.operation) refl e)

-- the compare bit that a poll of an awake chip hands up: none while it is busy
pub poll_compare : (g : Geometry) (r : Registers) (m : Memory) → r.deep ≡ false → compare_in (reply_of g r m (0xD7 ∷ 0 ∷ [])) ≡ (is_idle r.operation && m.compare)
unfolding compare_in
poll_compare g r m e =
    (λ i. eqb (status-byte g r m (0 ∷ []) 1 255 e (lit≤ tt) (lit< tt) i / 128 % 2) 1 && eqb (status-byte g r m (0 ∷ []) 1 255 e (lit≤ tt) (lit< tt) i / 64 % 2) 1)
    ∙ status-compare g (is_idle r.operation) m.compare (guarded r)

-- ---- 32 and 35

-- a byte that a register has not got counts as FFh in the reply and as 0 in the chip
either-byte : (bytes : List ℕ) (j : ℕ) → (get_or bytes j 255 ≡ get_or bytes j 0) ⊎ (get_or bytes j 0 ≡ 0)
either-byte [] j = inr refl
either-byte (x ∷ bytes) zero = inl refl
either-byte (x ∷ bytes) (suc j) = either-byte bytes j

byte-free : (bytes told : List ℕ) (j : ℕ) (f : ℕ → ℕ) → f 0 ≡ 0 → get_or told j 0 ≡ get_or bytes j 255 → not (eqb (f (get_or told j 0)) 0) ≡ false
    → not (eqb (f (get_or bytes j 0)) 0) ≡ false
byte-free bytes told j f z e h = go (either-byte bytes j)
  where
    go : (get_or bytes j 255 ≡ get_or bytes j 0) ⊎ (get_or bytes j 0 ≡ 0) → not (eqb (f (get_or bytes j 0)) 0) ≡ false
    go (inl q) = ap (λ (x : ℕ). not (eqb (f x) 0)) (sym (e ∙ q)) ∙ h
    go (inr q) = ap (λ (x : ℕ). not (eqb (f x) 0)) q ∙ ap (λ (x : ℕ). not (eqb x 0)) z

-- a sector that the reply tells free is free
bits_free : (g : Geometry) (bytes told : List ℕ) (s : ℕ) → s < register_room + 1 → Roomed g
    → ((j : ℕ) → j < g.register → get_or (register_of g told) j 0 ≡ get_or (register_of g bytes) j 255) → has_bits g told s ≡ false → has_bits g bytes s ≡ false
unfolding has_bits bits_of
bits_free g bytes told zero l r e h = byte-free (register_of g bytes) (register_of g told) 0 (λ x. x / 64) refl (e 0 (omega arith)) h
bits_free g bytes told (suc zero) l r e h = byte-free (register_of g bytes) (register_of g told) 0 (λ x. x / 16 % 4) refl (e 0 (omega arith)) h
bits_free g bytes told (suc (suc j)) l r e h = byte-free (register_of g bytes) (register_of g told) (suc j) (λ x. x) refl (e (suc j) (omega arith)) h

register_free : (g : Geometry) (bytes reply : List ℕ) (s : ℕ) → s < register_room + 1 → Roomed g → (n : ℕ) → n ≡ 4 + g.register
    → reply ≡ replied n 4 (once_data (register_of g bytes)) → has_bits g (register_in g reply) s ≡ false → has_bits g bytes s ≡ false
unfolding register_in
register_free g bytes reply s l r n q e h =
    let told = tabulate g.register (λ j. get_or reply (4 + j) 255) in
    bits_free g bytes told s l r
    (λ j k.
    let i : 4 + j - 4 ≡ j = omega arith in
    byte_of g told j k ∙ get_or-tabulate g.register (λ j. get_or reply (4 + j) 255) j 0 k ∙ ap (λ (x : List ℕ). get_or x (4 + j) 255) e
    ∙ replied_data n 4 (once_data (register_of g bytes)) (4 + j) 255 (omega arith) (omega arith) ∙ ap (λ (x : ℕ). get_or (register_of g bytes) x 255) i)
    h

module _ (g : Geometry) (r : Registers) (m : Memory) (k : Kind) (d : Holding) (s : ℕ) (few : s < register_room + 1) (full : Roomed g) (y : Ready r) where
  filled : (x : Step) → length (0 ∷ 0 ∷ 0 ∷ 0 ∷ filler g k d x) ≡ 4 + g.register
  filled x = omega (arith, length-tabulate g.register (λ i. frame_byte (shape_of g x) (loaded g k d x) (4 + i)))

  pub protection-free : has_bits g (register_in g (reply_of g r m (frame_of g k d Protection))) s ≡ false → has_bits g r.protection s ≡ false
  protection-free h =
      register_free g r.protection (reply_of g r m (frame_of g k d Protection)) s few full _ (filled Protection)
      (ap (reply_of g r m) (protection_form g k d) ∙ reply-protection g r m 0 0 0 (filler g k d Protection) y) h

  pub lockdown-free : has_bits g (register_in g (reply_of g r m (frame_of g k d Lockdown))) s ≡ false → has_bits g r.lockdown s ≡ false
  lockdown-free h =
      register_free g r.lockdown (reply_of g r m (frame_of g k d Lockdown)) s few full _ (filled Lockdown)
      (ap (reply_of g r m) (lockdown_form g k d) ∙ reply-lockdown g r m 0 0 0 (filler g k d Lockdown) y) h
