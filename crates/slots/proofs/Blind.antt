-- Of a run's state the open half goes its way alone: whatever the closed half holds, the next open half is the same. Frames are alike
-- but for the data of an 84, which neither the outline shows nor the registers heed; of replies control hears no compare bit and no data.
-- Assumes nothing.
use Prim.Native.Nat.{ℕ, zero, suc, ◌+◌, ◌-◌, ◌/◌, ◌%◌}
use mathlib.Core.Path.{◌≡◌, refl, sym, ap, subst, ◌∙◌}
use mathlib.Core.Bool.{Bool, true, false, cond, ◌&&◌}
use mathlib.Core.List.{List, [], ◌∷◌}
use lib.ListN.{length, get_or}
use lib.Dec.{eqb, lit<, lit≤}
use Rattle.slices.specs.Lists.{tabulate}
use Rattle.slices.proofs.Laws.{length-tabulate, tabulate_append}
use Rattle.geometry.specs.declared.Geometry.{Geometry}
use Rattle.commands.specs.declared.Decoded.{Decoded}
use Rattle.commands.specs.Decode.{decode_of}
use Rattle.commands.proofs.Frames.{decode_protection, decode_lockdown}
use Rattle.registers.specs.declared.Registers.{Registers}
use Rattle.registers.specs.Protection.{guarded}
use Rattle.control.specs.Control.{control, row_of, row_decided}
use Rattle.control.proofs.Rows.{control_cases}
use Rattle.control.proofs.Frames.{load_keeps, protection_keeps, lockdown_keeps}
use Rattle.memory.specs.Replies.{replied}
use Rattle.state.specs.Memory.{Memory}
use Rattle.state.specs.Frames.{is_idle, status_of, data_of, reply_of}
use Rattle.state.proofs.Replies.{status-byte, reply-status_deep}
use Rattle.slots.specs.declared.Kind.{Kind}
use Rattle.slots.specs.declared.Step.{Step}
use Rattle.slots.specs.declared.Step.TheVariants.{Wait, Protection, Lockdown, Read, Load, Send, End}
use Rattle.slots.specs.Driver.{Shape, Holding, shape_of, frame_byte, loaded, frame_of, status_heard, heard, step_of, is_ended}
use Rattle.slots.specs.Plans.{sector_for}
use Rattle.slots.specs.Calls.{Request, Open, Closed, outline, open_after, step_open, step_closed, run}

-- ---- frames

tabulate_at : (n : ℕ) (f h : ℕ → ℕ) (i d : ℕ) → f i ≡ h i → get_or (tabulate n f) i d ≡ get_or (tabulate n h) i d
unfolding tabulate
tabulate_at zero f h i d e = refl
tabulate_at (suc n) f h zero d e = e
tabulate_at (suc n) f h (suc i) d e = tabulate_at n (λ k. f (suc k)) (λ k. h (suc k)) i d e

-- the outline shows the length and the first four bytes: no data
pub outline-same : (s : Shape) (x y : ℕ → ℕ) → outline (tabulate s.length (frame_byte s x)) ≡ outline (tabulate s.length (frame_byte s y))
unfolding outline frame_byte
outline-same s x y =
    let n = s.length in
    let l : length (tabulate n (frame_byte s x)) ≡ length (tabulate n (frame_byte s y)) =
    length-tabulate n (frame_byte s x) ∙ sym (length-tabulate n (frame_byte s y)) in
    let b0 = tabulate_at n (frame_byte s x) (frame_byte s y) 0 255 refl in
    let b1 = tabulate_at n (frame_byte s x) (frame_byte s y) 1 255 refl in
    let b2 = tabulate_at n (frame_byte s x) (frame_byte s y) 2 255 refl in
    let b3 = tabulate_at n (frame_byte s x) (frame_byte s y) 3 255 refl in
    λ i. l i / 256 ∷ l i % 256 ∷ b0 i ∷ b1 i ∷ b2 i ∷ b3 i ∷ []

-- a frame that carries no data is the same whatever is held
byte-same : (s : Shape) (x y : ℕ → ℕ) (i : ℕ) → s.loads ≡ false → frame_byte s x i ≡ frame_byte s y i
unfolding frame_byte
byte-same s x y i e = with-loads x ∙ sym (with-loads y)
  where
    with-loads : (z : ℕ → ℕ) → cond (eqb i 0) s.opcode (cond (eqb i 1) s.high (cond (eqb i 2) s.middle (cond (eqb i 3) s.low (cond s.loads (z (i - 4)) 0))))
        ≡ cond (eqb i 0) s.opcode (cond (eqb i 1) s.high (cond (eqb i 2) s.middle (cond (eqb i 3) s.low 0)))
    with-loads z =
        ap (λ (b : Bool). cond (eqb i 0) s.opcode (cond (eqb i 1) s.high (cond (eqb i 2) s.middle (cond (eqb i 3) s.low (cond b (z (i - 4)) 0))))) e

plain-same : (s : Shape) (x y : ℕ → ℕ) → s.loads ≡ false → tabulate s.length (frame_byte s x) ≡ tabulate s.length (frame_byte s y)
plain-same s x y e = λ j. tabulate s.length (λ i. byte-same s x y i e j)

-- ---- the registers

-- an 84 leaves the registers, whatever its data
pub load_registers : (g : Geometry) (r : Registers) (k : Kind) (p : ℕ) (h : Holding) → (control g r (frame_of g k h (Load p))).registers ≡ r
unfolding shape_of frame_byte tabulate
load_registers g r k p h =
    ap (λ (f : List ℕ). (control g r f).registers) (tabulate_append 4 g.size (frame_byte (shape_of g (Load p)) (loaded g k h (Load p))))
    ∙ load_keeps g r 0 0 0 _

-- a 32 and a 35: as many bytes after the first four as a register has
abbrev pub filler : Geometry → Kind → Holding → Step → List ℕ
filler g k h x = tabulate g.register (λ i. frame_byte (shape_of g x) (loaded g k h x) (4 + i))

pub protection_form : (g : Geometry) (k : Kind) (h : Holding) → frame_of g k h Protection ≡ 0x32 ∷ 0 ∷ 0 ∷ 0 ∷ filler g k h Protection
unfolding shape_of frame_byte tabulate
protection_form g k h = tabulate_append 4 g.register (frame_byte (shape_of g Protection) (loaded g k h Protection))

pub lockdown_form : (g : Geometry) (k : Kind) (h : Holding) → frame_of g k h Lockdown ≡ 0x35 ∷ 0 ∷ 0 ∷ 0 ∷ filler g k h Lockdown
unfolding shape_of frame_byte tabulate
lockdown_form g k h = tabulate_append 4 g.register (frame_byte (shape_of g Lockdown) (loaded g k h Lockdown))

-- they leave the registers too
pub protection-registers : (g : Geometry) (r : Registers) (k : Kind) (h : Holding) → (control g r (frame_of g k h Protection)).registers ≡ r
protection-registers g r k h = ap (λ (f : List ℕ). (control g r f).registers) (protection_form g k h) ∙ protection_keeps g r 0 0 0 (filler g k h Protection)

pub lockdown-registers : (g : Geometry) (r : Registers) (k : Kind) (h : Holding) → (control g r (frame_of g k h Lockdown)).registers ≡ r
lockdown-registers g r k h = ap (λ (f : List ℕ). (control g r f).registers) (lockdown_form g k h) ∙ lockdown_keeps g r 0 0 0 (filler g k h Lockdown)

-- any other frame is the same
frame_same : (g : Geometry) (k : Kind) (h l : Holding) (x : Step) → (shape_of g x).loads ≡ false → frame_of g k h x ≡ frame_of g k l x
frame_same g k h l x e = plain-same (shape_of g x) (loaded g k h x) (loaded g k l x) e

control_blind : (g : Geometry) (r : Registers) (k : Kind) (h l : Holding) (x : Step)
    → (control g r (frame_of g k h x)).registers ≡ (control g r (frame_of g k l x)).registers
unfolding shape_of
control_blind g r k h l (Wait c) = ap (λ (f : List ℕ). (control g r f).registers) (frame_same g k h l (Wait c) refl)
control_blind g r k h l Protection = ap (λ (f : List ℕ). (control g r f).registers) (frame_same g k h l Protection refl)
control_blind g r k h l Lockdown = ap (λ (f : List ℕ). (control g r f).registers) (frame_same g k h l Lockdown refl)
control_blind g r k h l (Read p) = ap (λ (f : List ℕ). (control g r f).registers) (frame_same g k h l (Read p) refl)
control_blind g r k h l (Load p) = load_registers g r k p h ∙ sym (load_registers g r k p l)
control_blind g r k h l (Send c p) = ap (λ (f : List ℕ). (control g r f).registers) (frame_same g k h l (Send c p) refl)
control_blind g r k h l End = ap (λ (f : List ℕ). (control g r f).registers) (frame_same g k h l End refl)

-- ---- what is heard

-- of a status control hears neither the compare bit nor bit 0; the data are handed the compare bit of one that tells ready
abbrev bits_of : Bool → Bool → Bool → Bool → ℕ
bits_of b i d c = cond i 0x80 0 + cond d 0x40 0 + 0x24 + cond c 0x02 0 + cond b 0x01 0

status_bits : (b i d c : Bool) → (status_heard (bits_of b i d c) ≡ record { density = true; ready = i; guarded = c; held = false })
    × ((eqb (bits_of b i d c / 128 % 2) 1 && eqb (bits_of b i d c / 64 % 2) 1) ≡ (i && d))
status_bits true true true true = (refl, refl)
status_bits true true true false = (refl, refl)
status_bits true true false true = (refl, refl)
status_bits true true false false = (refl, refl)
status_bits true false true true = (refl, refl)
status_bits true false true false = (refl, refl)
status_bits true false false true = (refl, refl)
status_bits true false false false = (refl, refl)
status_bits false true true true = (refl, refl)
status_bits false true true false = (refl, refl)
status_bits false true false true = (refl, refl)
status_bits false true false false = (refl, refl)
status_bits false false true true = (refl, refl)
status_bits false false true false = (refl, refl)
status_bits false false false true = (refl, refl)
status_bits false false false false = (refl, refl)

pub status-heard : (g : Geometry) (i d c : Bool) → status_heard (status_of g i d c) ≡ record { density = true; ready = i; guarded = c; held = false }
unfolding status_of
status-heard g i d c = (status_bits g.binary i d c).0

pub status-compare : (g : Geometry) (i d c : Bool) → (eqb (status_of g i d c / 128 % 2) 1 && eqb (status_of g i d c / 64 % 2) 1) ≡ (i && d)
unfolding status_of
status-compare g i d c = (status_bits g.binary i d c).1

poll_blind : (g : Geometry) (r : Registers) (m o : Memory)
    → status_heard (get_or (reply_of g r m (0xD7 ∷ 0 ∷ [])) 1 255) ≡ status_heard (get_or (reply_of g r o (0xD7 ∷ 0 ∷ [])) 1 255)
poll_blind g r m o = go r.deep refl
  where
    go : (b : Bool) → r.deep ≡ b → status_heard (get_or (reply_of g r m (0xD7 ∷ 0 ∷ [])) 1 255) ≡ status_heard (get_or (reply_of g r o (0xD7 ∷ 0 ∷ [])) 1 255)
    go true e =
        ap (λ (l : List ℕ). status_heard (get_or l 1 255)) (reply-status_deep g r m (0 ∷ []) e ∙ sym (reply-status_deep g r o (0 ∷ []) e))
    go false e =
        ap status_heard (status-byte g r m (0 ∷ []) 1 255 e (lit≤ tt) (lit< tt)) ∙ status-heard g (is_idle r.operation) m.compare (guarded r)
        ∙ sym (ap status_heard (status-byte g r o (0 ∷ []) 1 255 e (lit≤ tt) (lit< tt)) ∙ status-heard g (is_idle r.operation) o.compare (guarded r))

-- a reply is made of the registers where the frame's row, if it is obeyed, asks nothing of the memory
reply_blind : (g : Geometry) (r : Registers) (m o : Memory) (f : List ℕ) (d : Decoded) → decode_of f ≡ d
    → data_of g r m (row_of g r f d.lead d.effect).action ≡ data_of g r o (row_of g r f d.lead d.effect).action → reply_of g r m f ≡ reply_of g r o f
unfolding reply_of data_of
reply_blind g r m o f d e h =
    control_cases g r f (λ c. replied (length f) c.lead (data_of g r m c.action) ≡ replied (length f) c.lead (data_of g r o c.action)) refl
    (λ _. subst (λ (c : Decoded). replied (length f) (row_of g r f c.lead c.effect).lead (data_of g r m (row_of g r f c.lead c.effect).action)
    ≡ replied (length f) (row_of g r f c.lead c.effect).lead (data_of g r o (row_of g r f c.lead c.effect).action))
    (sym e) (λ i. replied (length f) (row_of g r f d.lead d.effect).lead (h i)))

protection_blind : (g : Geometry) (r : Registers) (m o : Memory) (t : List ℕ) → reply_of g r m (0x32 ∷ 0 ∷ 0 ∷ 0 ∷ t) ≡ reply_of g r o (0x32 ∷ 0 ∷ 0 ∷ 0 ∷ t)
unfolding data_of row_decided
protection_blind g r m o t = reply_blind g r m o (0x32 ∷ 0 ∷ 0 ∷ 0 ∷ t) _ (decode_protection 0 0 0 t) refl

lockdown_blind : (g : Geometry) (r : Registers) (m o : Memory) (t : List ℕ) → reply_of g r m (0x35 ∷ 0 ∷ 0 ∷ 0 ∷ t) ≡ reply_of g r o (0x35 ∷ 0 ∷ 0 ∷ 0 ∷ t)
unfolding data_of row_decided
lockdown_blind g r m o t = reply_blind g r m o (0x35 ∷ 0 ∷ 0 ∷ 0 ∷ t) _ (decode_lockdown 0 0 0 t) refl

hear_blind : (g : Geometry) (r : Registers) (k : Kind) (h l : Holding) (m o : Memory) (x : Step) (sector : ℕ)
    → heard g x sector (reply_of g r m (frame_of g k h x)) ≡ heard g x sector (reply_of g r o (frame_of g k l x))
unfolding shape_of frame_byte tabulate heard
hear_blind g r k h l m o (Wait c) sector = poll_blind g r m o
hear_blind g r k h l m o Protection sector =
    ap (heard g Protection sector)
    (ap (reply_of g r m) (frame_same g k h l Protection refl ∙ protection_form g k l) ∙ protection_blind g r m o (filler g k l Protection) ∙ ap (reply_of g r o) (sym (protection_form g k l)))
hear_blind g r k h l m o Lockdown sector =
    ap (heard g Lockdown sector)
    (ap (reply_of g r m) (frame_same g k h l Lockdown refl ∙ lockdown_form g k l) ∙ lockdown_blind g r m o (filler g k l Lockdown) ∙ ap (reply_of g r o) (sym (lockdown_form g k l)))
hear_blind g r k h l m o (Read p) sector = refl
hear_blind g r k h l m o (Load p) sector = refl
hear_blind g r k h l m o (Send c p) sector = refl
hear_blind g r k h l m o End sector = refl

-- ---- one step, and any number of them

pub step_blind : (g : Geometry) (v : Request) (p : Open) (q w : Closed) → step_open g v p q ≡ step_open g v p w
unfolding step_open
step_blind g v p q w =
    let k = v.asked.kind in
    let x = step_of g v.asked p.course in
    let line = outline-same (shape_of g x) (loaded g k q.holding x) (loaded g k w.holding x) in
    let registers = control_blind g p.registers k q.holding w.holding x in
    let hears = hear_blind g p.registers k q.holding w.holding q.memory w.memory x (sector_for g v.asked) in
    λ i. cond (is_ended p.course.stage) p (open_after g v p (line i) (registers i) (hears i))

pub run_blind : (n : ℕ) (g : Geometry) (v : Request) (p : Open) (q w : Closed) → (run n g v p q).0 ≡ (run n g v p w).0
unfolding run
run_blind zero g v p q w = refl
run_blind (suc n) g v p q w =
    run_blind n g v (step_open g v p q) (step_closed g v p q) (step_closed g v p w)
    ∙ ap (λ (o : Open). (run n g v o (step_closed g v p w)).0) (step_blind g v p q w)
