-- What the branches of this crate's functions rest on, as laws over plain values.
-- Assumes nothing.
use mathlib.Core.Path.{◌≡◌, refl, sym, ◌∙◌, ap, subst}
use mathlib.Core.Bool.{Bool, true, false, cond, ◌&&◌}
use mathlib.Core.List.{List, [], ◌∷◌}
use Prim.Native.Nat.{ℕ, ◌+◌, ◌*◌, ◌-◌, ◌≤◌, ◌<◌}
use native.Mathlib.Nat.{add-zero}
use native.Mathlib.Omega.{arith}
use lib.ListN.{length, get_or, take, drop, length-take, length-drop}
use lib.Seq.{get_or-drop}
use borrow.Author.Tests.{le-leb, lt-leb}
use Rattle.slices.specs.Lists.{over}
use Rattle.slices.proofs.Laws.{over-whole}
use Rattle.geometry.specs.declared.Geometry.{Geometry}
use Rattle.geometry.specs.Parts.{register_room, Sized}
use Rattle.geometry.specs.Sectors.{sector_of}
use Rattle.geometry.proofs.Sectors.{sectors_few}
use Rattle.commands.specs.declared.Buffer.{Buffer}
use Rattle.commands.specs.declared.Effect.{Effect}
use Rattle.commands.specs.declared.Decoded.{Decoded}
use Rattle.commands.specs.Decode.{decode_of}
use Rattle.commands.specs.Room.{room, takes}
use Rattle.commands.proofs.Rules.{decode_lead, decode_room, decode_data}
use Rattle.registers.specs.declared.Data16.{Data16}
use Rattle.registers.specs.declared.Data64.{Data64}
use Rattle.registers.specs.declared.Operation.{Operation}
use Rattle.registers.specs.declared.Operation.TheVariants as O
use Rattle.registers.specs.declared.Registers.{Registers}
use Rattle.registers.specs.declared.Update.{Update}
use Rattle.registers.specs.declared.Update.TheVariants.{Lock}
use Rattle.registers.specs.Facts.{facts_of, update_of}
use Rattle.registers.specs.Fields.{with_lockdown, with_operation, with_protect}
use Rattle.registers.specs.Operations.{within}
use Rattle.registers.specs.Protection.{sealed, locked_bytes}
use Rattle.registers.proofs.Operations.{lock_names, named_sector}
use Rattle.control.specs.Obeyed.{class_of, usage_of, allowed, is_wake, obeyed}
use Rattle.control.specs.declared.Action.TheVariants as A
use Rattle.control.specs.declared.Decision.{Decision}
use Rattle.control.specs.Control.{decided, ignored, started, programmed_through, protect_off, protection_erased, protection_data, protection_programmed, security_data, security_programmed, row_of, decoded_control, control}
use Rattle.control.specs.Completion.{updated, completed_by}
use Rattle.control.specs.PowerLoss.{after_buffers, reached, reaching, spoilt, lost_by}

-- ---- obeyed or not

-- a deep chip obeys nothing but a wake
pub deep_refuses : (r : Registers) (e : Effect) → r.deep ≡ true → is_wake (class_of e) ≡ false → obeyed r e ≡ false
unfolding obeyed
deep_refuses r e h k = λ i. cond (h i) (k i) true && allowed (usage_of r.operation) (class_of e)

-- else the operation under way decides
pub awake_allows : (r : Registers) (e : Effect) → r.deep ≡ false → obeyed r e ≡ allowed (usage_of r.operation) (class_of e)
unfolding obeyed
awake_allows r e h = λ i. cond (h i) (is_wake (class_of e)) true && allowed (usage_of r.operation) (class_of e)

either_way : (b : Bool) → cond b true true ≡ true
either_way true = refl
either_way false = refl

pub woken_allows : (r : Registers) (e : Effect) → is_wake (class_of e) ≡ true → obeyed r e ≡ allowed (usage_of r.operation) (class_of e)
unfolding obeyed
woken_allows r e h =
    (λ i. cond r.deep (h i) true && allowed (usage_of r.operation) (class_of e))
    ∙ (λ i. either_way r.deep i && allowed (usage_of r.operation) (class_of e))

-- ---- sealed sectors

-- the test that the code makes of a page's sector
pub tested : (g : Geometry) (r : Registers) (page : ℕ) {s : ℕ} {b v : Bool} → s ≡ sector_of g page → b ≡ sealed g r s → b ≡ v → sealed g r (sector_of g page) ≡ v
tested g r page e h k = ap (sealed g r) (sym e) ∙ sym h ∙ k

-- a lock under way names a sector that the registers serve
pub lock_small : (g : Geometry) (n s : ℕ) (o : Operation) {u : Update} → Sized g n → within g o ≡ true → u ≡ update_of o → u ≡ Lock s → s < register_room + 1
unfolding within
lock_small g n s o z h e k = omega (arith, named_sector g (facts_of o).names h s (lock_names o s (sym e ∙ k)), sectors_few g n z)

-- ---- what WP, the used mark and sealed-ness decide

pub off_high : (r : Registers) → r.wp ≡ true → decided (with_protect r false) A.Silent 0 ≡ protect_off r
unfolding protect_off
off_high r h = ap (λ (b : Bool). cond b (decided (with_protect r false) A.Silent 0) (ignored r)) (sym h)

pub off_low : (r : Registers) → r.wp ≡ false → ignored r ≡ protect_off r
unfolding protect_off
off_low r h = ap (λ (b : Bool). cond b (decided (with_protect r false) A.Silent 0) (ignored r)) (sym h)

pub erased-high : (r : Registers) → r.wp ≡ true → started r O.EraseProtection ≡ protection_erased r
unfolding protection_erased
erased-high r h = ap (λ (b : Bool). cond b (started r O.EraseProtection) (ignored r)) (sym h)

pub erased-low : (r : Registers) → r.wp ≡ false → ignored r ≡ protection_erased r
unfolding protection_erased
erased-low r h = ap (λ (b : Bool). cond b (started r O.EraseProtection) (ignored r)) (sym h)

listing : Registers → Data16 → Decision
listing r d = decided (with_operation r (O.ProgramProtection d)) (A.LoadProtection d) 0

pub listed-high : (g : Geometry) (r : Registers) (f : List ℕ) → r.wp ≡ true
    → decided (with_operation r (O.ProgramProtection (protection_data g f))) (A.LoadProtection (protection_data g f)) 0 ≡ protection_programmed g r f
unfolding protection_programmed listing
listed-high g r f h = ap (λ (b : Bool). cond b (listing r (protection_data g f)) (ignored r)) (sym h)

pub listed-low : (g : Geometry) (r : Registers) (f : List ℕ) → r.wp ≡ false → ignored r ≡ protection_programmed g r f
unfolding protection_programmed listing
listed-low g r f h = ap (λ (b : Bool). cond b (listing r (protection_data g f)) (ignored r)) (sym h)

writing : Registers → Data64 → Decision
writing r d = decided (with_operation r (O.ProgramSecurity d)) (A.LoadSecurity d) 0

pub security_free : (r : Registers) (f : List ℕ) → r.used ≡ false
    → decided (with_operation r (O.ProgramSecurity (security_data f))) (A.LoadSecurity (security_data f)) 0 ≡ security_programmed r f
unfolding security_programmed writing
security_free r f h = ap (λ (b : Bool). cond b (ignored r) (writing r (security_data f))) (sym h)

pub security_used : (r : Registers) (f : List ℕ) → r.used ≡ true → ignored r ≡ security_programmed r f
unfolding security_programmed writing
security_used r f h = ap (λ (b : Bool). cond b (ignored r) (writing r (security_data f))) (sym h)

through : Registers → Buffer → ℕ → ℕ → ℕ → Decision
through r b page start lead = decided (with_operation r (O.Program b page)) (A.WriteBuffer b start) lead

pub through_open : (g : Geometry) (r : Registers) (b : Buffer) (page start lead : ℕ) → sealed g r (sector_of g page) ≡ false
    → decided (with_operation r (O.Program b page)) (A.WriteBuffer b start) lead ≡ programmed_through g r b page start lead
unfolding programmed_through through
through_open g r b page start lead h = ap (λ (x : Bool). cond x (ignored r) (through r b page start lead)) (sym h)

pub through_sealed : (g : Geometry) (r : Registers) (b : Buffer) (page start lead : ℕ) → sealed g r (sector_of g page) ≡ true
    → ignored r ≡ programmed_through g r b page start lead
unfolding programmed_through through
through_sealed g r b page start lead h = ap (λ (x : Bool). cond x (ignored r) (through r b page start lead)) (sym h)

-- ---- rows

-- the room that a row's effect has in the frame
pub has_room : {e k : Effect} {n : ℕ} → e ≡ k → room e ≤ n → room k ≤ n
has_room {n = n} e h = subst (λ (x : Effect). room x ≤ n) e h

-- and the room of its data
pub has_data : {e k : Effect} {n : ℕ} → e ≡ k → (takes e ≡ true → 4 ≤ n) → takes k ≡ true → 4 ≤ n
has_data {n = n} e h = subst (λ (x : Effect). takes x ≡ true → 4 ≤ n) e h

-- a frame that is obeyed does what its row says
pub obeyed-row : (g : Geometry) (r : Registers) (f : List ℕ) (d : Decoded) → d ≡ decode_of f → obeyed r d.effect ≡ true
    → row_of g r f d.lead d.effect ≡ control g r f
unfolding control decoded_control
obeyed-row g r f d e h = ap (λ (b : Bool). cond b (row_of g r f d.lead d.effect) (ignored r)) (sym h) ∙ ap (decoded_control g r f) e

-- any other does nothing
pub refused-row : (g : Geometry) (r : Registers) (f : List ℕ) (d : Decoded) → d ≡ decode_of f → obeyed r d.effect ≡ false
    → ignored r ≡ control g r f
unfolding control decoded_control
refused-row g r f d e h = ap (λ (b : Bool). cond b (row_of g r f d.lead d.effect) (ignored r)) (sym h) ∙ ap (decoded_control g r f) e

-- what a frame's row is handed
pub decoded_room : (f : List ℕ) (d : Decoded) → d ≡ decode_of f → room d.effect ≤ length f
decoded_room f d e = subst (λ (x : Decoded). room x.effect ≤ length f) (sym e) (decode_room f)

pub decoded_data : (f : List ℕ) (d : Decoded) → d ≡ decode_of f → takes d.effect ≡ true → 4 ≤ length f
decoded_data f d e =
    subst (λ (x : Decoded). takes x.effect ≡ true → 4 ≤ length f) (sym e) (λ h. let k = decode_data f h in let l = decode_lead f in omega arith)

-- ---- cuts

first-after : (g : Geometry) (junk : List ℕ) → get_or (after_buffers g junk) 0 0 ≡ get_or junk (2 * g.size) 0
first-after g junk = get_or-drop (2 * g.size) junk 0 0 ∙ ap (λ (n : ℕ). get_or junk n 0) (add-zero (2 * g.size))

lost_lock : Geometry → Registers → ℕ → Bool → Registers
lost_lock g r s b = spoilt g (Lock s) (cond b (1 ∷ []) (0 ∷ [])) r

-- a lock cut short locks its sector if the first junk byte after the buffers' is at least 80h
pub lock_cut : (g : Geometry) (r : Registers) (s : ℕ) (junk : List ℕ) → 128 ≤ get_or junk (2 * g.size) 0
    → with_lockdown r (locked_bytes g r.lockdown s) ≡ spoilt g (Lock s) (reached g (Lock s) (after_buffers g junk)) r
unfolding lost_lock
lock_cut g r s junk h = ap (lost_lock g r s) (sym (le-leb 128 (get_or (after_buffers g junk) 0 0) (rw (first-after g junk) h)))

pub lock_kept : (g : Geometry) (r : Registers) (s : ℕ) (junk : List ℕ) → get_or junk (2 * g.size) 0 < 128
    → r ≡ spoilt g (Lock s) (reached g (Lock s) (after_buffers g junk)) r
unfolding lost_lock
lock_kept g r s junk h = ap (lost_lock g r s) (sym (lt-leb 128 (get_or (after_buffers g junk) 0 0) (rw (first-after g junk) h)))

-- junk as long as the register takes the register's place
pub junk-over : (junk bytes : List ℕ) (a k : ℕ) → a + k ≤ length junk → length bytes ≡ k
    → take (a + k - a) (drop a junk) ≡ over (take k (drop a junk)) bytes
junk-over junk bytes a k l n =
    let m : length (take k (drop a junk)) ≡ length bytes = simp (length-take, length-drop) (omega arith) in
    let e : a + k - a ≡ k = omega arith in
    ap (λ (j : ℕ). take j (drop a junk)) e ∙ sym (over-whole (take k (drop a junk)) bytes m)

-- ---- an arm of a busy end or a cut, by the operation's update

pub update-ends : (g : Geometry) (o : Operation) (r : Registers) {u v : Update} {n : Registers} → u ≡ update_of o → u ≡ v → n ≡ updated g v r → n ≡ completed_by g o r
unfolding completed_by
update-ends g o r e k h = h ∙ ap (λ (x : Update). updated g x r) (sym k ∙ e)

pub update-lost : (g : Geometry) (o : Operation) (r : Registers) (junk : List ℕ) {u v : Update} {n : Registers} → u ≡ update_of o → u ≡ v
    → n ≡ spoilt g v (reached g v (after_buffers g junk)) r → n ≡ lost_by g o (reaching g o junk) r
unfolding lost_by reaching
update-lost g o r junk e k h = h ∙ ap (λ (x : Update). spoilt g x (reached g x (after_buffers g junk)) r) (sym k ∙ e)
