-- What the slot driver's frames do to a chip, whatever bytes follow their lead: each is its row of the table, since an idle, awake
-- chip obeys every command, and a status is obeyed whatever is under way.
-- Assumes nothing.
use mathlib.Core.Path.{◌≡◌, refl, sym, ◌∙◌, ap}
use mathlib.Core.Bool.{Bool, true, false, cond}
use mathlib.Core.List.{List, ◌∷◌}
use Prim.Native.Nat.{ℕ, ◌/◌}
use Rattle.geometry.specs.declared.Geometry.{Geometry}
use Rattle.geometry.specs.Parts.{address_at, page_at, byte_at}
use Rattle.geometry.specs.Sectors.{sector_of}
use Rattle.commands.specs.declared.Buffer.TheVariants.{One}
use Rattle.commands.specs.declared.Decoded.{Decoded}
use Rattle.commands.specs.declared.Effect.{Effect}
use Rattle.commands.specs.declared.Effect.TheVariants as E
use Rattle.commands.specs.Decode.{decode_of}
use Rattle.commands.proofs.Frames.{decode_status, decode_protection, decode_lockdown, decode_write, decode_program, decode_erase, decode_page}
use Rattle.registers.specs.declared.Operation.{Operation}
use Rattle.registers.specs.declared.Operation.TheVariants as O
use Rattle.registers.specs.declared.Registers.{Registers}
use Rattle.registers.specs.declared.Usage.{Usage}
use Rattle.registers.specs.declared.Usage.TheVariants.{Free, NoBuffer, Uses, Exclusive}
use Rattle.registers.specs.Protection.{sealed}
use Rattle.control.specs.declared.Action.TheVariants as A
use Rattle.control.specs.declared.Class.TheVariants.{Status}
use Rattle.control.specs.declared.Decision.{Decision}
use Rattle.control.specs.Obeyed.{class_of, usage_of, allowed, is_wake, obeyed}
use Rattle.control.specs.Control.{decided, ignored, started, started_on, row_decided, row_of, decoded_control, control}
use Rattle.control.specs.Starts.{Ready}
use Rattle.control.proofs.Steps.{deep_refuses, awake_allows, obeyed-row, refused-row}

-- ---- any frame

-- an idle, awake chip obeys every command
ready-all : (r : Registers) (e : Effect) → Ready r → obeyed r e ≡ true
unfolding allowed
ready-all r e y = awake_allows r e y.1 ∙ (λ i. allowed (usage_of (y.0 i)) (class_of e))

pub ready_obeys : (g : Geometry) (r : Registers) (f : List ℕ) → Ready r → control g r f ≡ row_of g r f (decode_of f).lead (decode_of f).effect
ready_obeys g r f y = sym (obeyed-row g r f (decode_of f) refl (ready-all r (decode_of f).effect y))

-- a deep chip ignores every frame but a wake
pub deep_ignores : (g : Geometry) (r : Registers) (f : List ℕ) → r.deep ≡ true → is_wake (class_of (decode_of f).effect) ≡ false → control g r f ≡ ignored r
deep_ignores g r f h k = sym (refused-row g r f (decode_of f) refl (deep_refuses r (decode_of f).effect h k))

ready-row : (g : Geometry) (r : Registers) (f : List ℕ) (lead : ℕ) (e : Effect) → decode_of f ≡ record { lead = lead; effect = e } → Ready r
    → control g r f ≡ row_of g r f lead e
ready-row g r f lead e h y = ready_obeys g r f y ∙ ap (λ (d : Decoded). row_of g r f d.lead d.effect) h

-- a program or erase starts where the page's sector is not sealed
pub started_open : (g : Geometry) (r : Registers) (page : ℕ) (o : Operation) → sealed g r (sector_of g page) ≡ false → started_on g r page o ≡ started r o
unfolding started_on
started_open g r page o h = λ i. cond (h i) (ignored r) (started r o)

-- .. and is ignored where it is
pub started-sealed : (g : Geometry) (r : Registers) (page : ℕ) (o : Operation) → sealed g r (sector_of g page) ≡ true → started_on g r page o ≡ ignored r
unfolding started_on
started-sealed g r page o h = λ i. cond (h i) (ignored r) (started r o)

-- ---- D7: obeyed under every operation, ignored in deep power-down

status-allowed : (u : Usage) → allowed u Status ≡ true
unfolding allowed
status-allowed Free = refl
status-allowed NoBuffer = refl
status-allowed (Uses b) = refl
status-allowed Exclusive = refl

pub status-obeyed : (g : Geometry) (r : Registers) (t : List ℕ) → r.deep ≡ false → control g r (0xD7 ∷ t) ≡ decided r A.ReadStatus 1
unfolding row_decided class_of
status-obeyed g r t h =
    sym (obeyed-row g r (0xD7 ∷ t) (record { lead = 1; effect = E.ReadStatus }) (sym (decode_status t))
    (awake_allows r E.ReadStatus h ∙ status-allowed (usage_of r.operation)))

pub status-ignored : (g : Geometry) (r : Registers) (t : List ℕ) → r.deep ≡ true → control g r (0xD7 ∷ t) ≡ ignored r
unfolding class_of is_wake
status-ignored g r t h =
    sym (refused-row g r (0xD7 ∷ t) (record { lead = 1; effect = E.ReadStatus }) (sym (decode_status t)) (deep_refuses r E.ReadStatus h refl))

-- ---- 32, 35, D2, 84, 83 and 50 on an idle, awake chip

pub protection-obeyed : (g : Geometry) (r : Registers) (a b c : ℕ) (t : List ℕ) → Ready r
    → control g r (0x32 ∷ a ∷ b ∷ c ∷ t) ≡ decided r A.ReadProtection 4
unfolding row_decided
protection-obeyed g r a b c t y = ready-row g r (0x32 ∷ a ∷ b ∷ c ∷ t) 4 E.ReadProtection (decode_protection a b c t) y

pub lockdown-obeyed : (g : Geometry) (r : Registers) (a b c : ℕ) (t : List ℕ) → Ready r
    → control g r (0x35 ∷ a ∷ b ∷ c ∷ t) ≡ decided r A.ReadLockdown 4
unfolding row_decided
lockdown-obeyed g r a b c t y = ready-row g r (0x35 ∷ a ∷ b ∷ c ∷ t) 4 E.ReadLockdown (decode_lockdown a b c t) y

pub page_obeyed : (g : Geometry) (r : Registers) (a b c h i j k : ℕ) (t : List ℕ) → Ready r
    → control g r (0xD2 ∷ a ∷ b ∷ c ∷ h ∷ i ∷ j ∷ k ∷ t)
    ≡ decided r (A.ReadPage (page_at g (address_at (0xD2 ∷ a ∷ b ∷ c ∷ h ∷ i ∷ j ∷ k ∷ t) 1)) (byte_at g (address_at (0xD2 ∷ a ∷ b ∷ c ∷ h ∷ i ∷ j ∷ k ∷ t) 1))) 8
unfolding row_decided
page_obeyed g r a b c h i j k t y = ready-row g r (0xD2 ∷ a ∷ b ∷ c ∷ h ∷ i ∷ j ∷ k ∷ t) 8 E.ReadPage (decode_page a b c h i j k t) y

pub load_obeyed : (g : Geometry) (r : Registers) (a b c : ℕ) (t : List ℕ) → Ready r
    → control g r (0x84 ∷ a ∷ b ∷ c ∷ t) ≡ decided r (A.WriteBuffer One (byte_at g (address_at (0x84 ∷ a ∷ b ∷ c ∷ t) 1))) 4
unfolding row_decided
load_obeyed g r a b c t y = ready-row g r (0x84 ∷ a ∷ b ∷ c ∷ t) 4 (E.WriteBuffer One) (decode_write a b c t) y

pub program_obeyed : (g : Geometry) (r : Registers) (a b c : ℕ) (t : List ℕ) → Ready r
    → control g r (0x83 ∷ a ∷ b ∷ c ∷ t)
    ≡ started_on g r (page_at g (address_at (0x83 ∷ a ∷ b ∷ c ∷ t) 1)) (O.Program One (page_at g (address_at (0x83 ∷ a ∷ b ∷ c ∷ t) 1)))
unfolding row_decided
program_obeyed g r a b c t y = ready-row g r (0x83 ∷ a ∷ b ∷ c ∷ t) 4 (E.Program One) (decode_program a b c t) y

pub erase_obeyed : (g : Geometry) (r : Registers) (a b c : ℕ) (t : List ℕ) → Ready r
    → control g r (0x50 ∷ a ∷ b ∷ c ∷ t)
    ≡ started_on g r (page_at g (address_at (0x50 ∷ a ∷ b ∷ c ∷ t) 1)) (O.EraseBlock (page_at g (address_at (0x50 ∷ a ∷ b ∷ c ∷ t) 1) / 8))
unfolding row_decided
erase_obeyed g r a b c t y = ready-row g r (0x50 ∷ a ∷ b ∷ c ∷ t) 4 E.EraseBlock (decode_erase a b c t) y

-- ---- frames that leave any registers as they are

either : (r : Registers) (b : Bool) (x y : Decision) → x.registers ≡ r → y.registers ≡ r → (cond b x y).registers ≡ r
either r true x y h k = h
either r false x y h k = k

-- a frame whose row leaves the registers leaves them, obeyed or not
row_keeps : (g : Geometry) (r : Registers) (f : List ℕ) (lead : ℕ) (e : Effect) → decode_of f ≡ record { lead = lead; effect = e }
    → (row_of g r f lead e).registers ≡ r → (control g r f).registers ≡ r
unfolding control decoded_control
row_keeps g r f lead e h k =
    ap (λ (d : Decoded). (decoded_control g r f d).registers) h ∙ either r (obeyed r e) (row_of g r f lead e) (ignored r) k refl

pub status_keeps : (g : Geometry) (r : Registers) (t : List ℕ) → (control g r (0xD7 ∷ t)).registers ≡ r
unfolding row_decided
status_keeps g r t = row_keeps g r (0xD7 ∷ t) 1 E.ReadStatus (decode_status t) refl

pub protection_keeps : (g : Geometry) (r : Registers) (a b c : ℕ) (t : List ℕ) → (control g r (0x32 ∷ a ∷ b ∷ c ∷ t)).registers ≡ r
unfolding row_decided
protection_keeps g r a b c t = row_keeps g r (0x32 ∷ a ∷ b ∷ c ∷ t) 4 E.ReadProtection (decode_protection a b c t) refl

pub lockdown_keeps : (g : Geometry) (r : Registers) (a b c : ℕ) (t : List ℕ) → (control g r (0x35 ∷ a ∷ b ∷ c ∷ t)).registers ≡ r
unfolding row_decided
lockdown_keeps g r a b c t = row_keeps g r (0x35 ∷ a ∷ b ∷ c ∷ t) 4 E.ReadLockdown (decode_lockdown a b c t) refl

pub page_keeps : (g : Geometry) (r : Registers) (a b c h i j k : ℕ) (t : List ℕ) → (control g r (0xD2 ∷ a ∷ b ∷ c ∷ h ∷ i ∷ j ∷ k ∷ t)).registers ≡ r
unfolding row_decided
page_keeps g r a b c h i j k t = row_keeps g r (0xD2 ∷ a ∷ b ∷ c ∷ h ∷ i ∷ j ∷ k ∷ t) 8 E.ReadPage (decode_page a b c h i j k t) refl

-- an 84 leaves the registers, whatever its bytes
pub load_keeps : (g : Geometry) (r : Registers) (a b c : ℕ) (t : List ℕ) → (control g r (0x84 ∷ a ∷ b ∷ c ∷ t)).registers ≡ r
unfolding row_decided
load_keeps g r a b c t = row_keeps g r (0x84 ∷ a ∷ b ∷ c ∷ t) 4 (E.WriteBuffer One) (decode_write a b c t) refl
