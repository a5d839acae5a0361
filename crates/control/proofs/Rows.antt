-- What a frame does to the registers, row by row, once: it leaves them, starts an operation on an idle, awake chip, or sets one
-- mark. All that the crates above need to know of `control` and the registers follows from this rule.
-- Assumes nothing.
use mathlib.Core.Path.{◌≡◌, refl, sym, ◌∙◌, ap, subst}
use mathlib.Core.Bool.{Bool, true, false, cond, ◌&&◌}
use mathlib.Core.List.{List}
use Prim.Native.Nat.{ℕ, ◌/◌, ◌^◌, ◌<◌}
use native.Mathlib.Omega.{arith}
use lib.ListN.{length}
use lib.Dec.{T}
use borrow.Author.Tests.{lt-ltb}
use Rattle.geometry.specs.declared.Geometry.{Geometry}
use Rattle.geometry.specs.Parts.{Sized, address_at, page_at, byte_at}
use Rattle.geometry.specs.Sectors.{sector_of, sector_count}
use Rattle.geometry.proofs.Addresses.{page_named_lem}
use Rattle.geometry.proofs.Pages.{block-few}
use Rattle.geometry.proofs.Sectors.{sector_few}
use Rattle.commands.specs.declared.Effect.{Effect}
use Rattle.commands.specs.declared.Effect.TheVariants as E
use Rattle.commands.specs.Decode.{decode_of}
use Rattle.registers.specs.declared.Operation.{Operation}
use Rattle.registers.specs.declared.Operation.TheVariants as O
use Rattle.registers.specs.declared.Registers.{Registers}
use Rattle.registers.specs.declared.Usage.{Usage}
use Rattle.registers.specs.declared.Usage.TheVariants.{Free, NoBuffer, Uses, Exclusive}
use Rattle.registers.specs.Fields.{with_operation, with_protect, with_deep}
use Rattle.registers.specs.Operations.{within}
use Rattle.registers.specs.Protection.{sealed, unsealed_set}
use Rattle.registers.proofs.Operations.{free_idle}
use Rattle.registers.proofs.Sets.{unsealed-small}
use Rattle.control.specs.declared.Action.TheVariants as A
use Rattle.control.specs.declared.Class.{Class}
use Rattle.control.specs.declared.Class.TheVariants.{Wake, Other}
use Rattle.control.specs.declared.Decision.{Decision}
use Rattle.control.specs.Obeyed.{class_of, usage_of, allowed, is_wake, obeyed}
use Rattle.control.specs.Control.{decided, ignored, started, started_on, programmed_through, protect_off, protection_erased, protection_data, protection_programmed, sector_locked, security_data, security_programmed, row_decided, row_of, decoded_control, control}
use Rattle.control.specs.Starts.{Ready, Open, Starts, Fixed, Lengths, programs, programs-over, transfers, compares, rewrites, erases_page, erases_block, erases_sector, erases_chip, erases_protection, programs-protection, locks_sector, programs_security}

-- ---- a test whose outcome decides which of two holds

-- either way
either : (Q : Registers → Type 0) (b : Bool) (x y : Decision) → (b ≡ true → Q x.registers) → (b ≡ false → Q y.registers) → Q (cond b x y).registers
either Q true x y h k = h refl
either Q false x y h k = k refl

-- whatever holds of an ignored frame and of the row of an obeyed one holds of the frame
pub control_cases : (g : Geometry) (r : Registers) (f : List ℕ) (Q : Decision → Type 0) → Q (ignored r)
    → (obeyed r (decode_of f).effect ≡ true → Q (row_of g r f (decode_of f).lead (decode_of f).effect)) → Q (control g r f)
unfolding control decoded_control
control_cases g r f Q u v = go (obeyed r (decode_of f).effect) v
  where
    go : (b : Bool) → (b ≡ true → Q (row_of g r f (decode_of f).lead (decode_of f).effect))
        → Q (cond b (row_of g r f (decode_of f).lead (decode_of f).effect) (ignored r))
    go true k = k refl
    go false k = u

-- ---- when a command is obeyed

never : {A : Type 0} → false ≡ true → A
never e = absurd (subst T (sym e) tt)

first : (a b : Bool) → a && b ≡ true → a ≡ true
first true b e = refl
first false b e = never e

second : (a b : Bool) → a && b ≡ true → b ≡ true
second true b e = e
second false b e = never e

other_free : (u : Usage) → allowed u Other ≡ true → u ≡ Free
unfolding allowed
other_free Free e = refl
other_free NoBuffer e = never e
other_free (Uses b) e = never e
other_free Exclusive e = never e

wake_free : (u : Usage) → allowed u Wake ≡ true → u ≡ Free
unfolding allowed
wake_free Free e = refl
wake_free NoBuffer e = never e
wake_free (Uses b) e = never e
wake_free Exclusive e = never e

awake : (b : Bool) → cond b false true ≡ true → b ≡ false
awake true e = never e
awake false e = refl

-- what is neither a status, an identity, a wake nor a buffer's is obeyed by an idle, awake chip alone
pub other_ready : (r : Registers) (e : Effect) → class_of e ≡ Other → obeyed r e ≡ true → Ready r
unfolding obeyed is_wake
other_ready r e k h =
    let both : cond r.deep false true && allowed (usage_of r.operation) Other ≡ true =
    subst (λ (c : Class). cond r.deep (is_wake c) true && allowed (usage_of r.operation) c ≡ true) k h in (
      free_idle r.operation (other_free (usage_of r.operation) (second (cond r.deep false true) (allowed (usage_of r.operation) Other) both)),
      awake r.deep (first (cond r.deep false true) (allowed (usage_of r.operation) Other) both),
    )

-- a wake is obeyed by an idle chip alone
pub wake_idle : (r : Registers) (e : Effect) → class_of e ≡ Wake → obeyed r e ≡ true → r.operation ≡ O.Idle
unfolding obeyed
wake_idle r e k h =
    let both : cond r.deep (is_wake Wake) true && allowed (usage_of r.operation) Wake ≡ true =
    subst (λ (c : Class). cond r.deep (is_wake c) true && allowed (usage_of r.operation) c ≡ true) k h in
    free_idle r.operation (wake_free (usage_of r.operation) (second (cond r.deep (is_wake Wake) true) (allowed (usage_of r.operation) Wake) both))

-- ---- the rule

module _ (g : Geometry) (r : Registers) (f : List ℕ) (Q : Registers → Type 0)
    (same : Q r)
    (starts : (o : Operation) → Ready r → Starts g r f o → Q (with_operation r o))
    (marks : (on : Bool) → Ready r → Q (with_protect r on))
    (sleeps : (on : Bool) → r.operation ≡ O.Idle → Q (with_deep r on)) where
  on_page : (n : ℕ) (o : Operation) → Ready r → (Open g r n → Starts g r f o) → Q (started_on g r (page_at g n) o).registers
  unfolding started_on
  on_page n o y s =
      either Q (sealed g r (sector_of g (page_at g n))) (ignored r) (started r o) (λ e. same) (λ e. starts o y (s e))

  row-registers : (lead : ℕ) (e : Effect) → obeyed r e ≡ true → Q (row_of g r f lead e).registers
  unfolding row_decided class_of programmed_through protect_off protection_erased protection_programmed sector_locked security_programmed
  row-registers lead E.ReadPage h = same
  row-registers lead E.ReadArray h = same
  row-registers lead (E.ReadBuffer b) h = same
  row-registers lead (E.WriteBuffer b) h = same
  row-registers lead (E.Program b) h =
      on_page (address_at f 1) (O.Program b (page_at g (address_at f 1))) (other_ready r (E.Program b) refl h) (programs b (address_at f 1))
  row-registers lead (E.ProgramOver b) h =
      on_page (address_at f 1) (O.ProgramOver b (page_at g (address_at f 1))) (other_ready r (E.ProgramOver b) refl h) (programs-over b (address_at f 1))
  row-registers lead (E.ProgramThrough b) h =
      let page = page_at g (address_at f 1) in
      either Q (sealed g r (sector_of g page)) (ignored r)
      (decided (with_operation r (O.Program b page)) (A.WriteBuffer b (byte_at g (address_at f 1))) lead)
      (λ e. same) (λ e. starts (O.Program b page) (other_ready r (E.ProgramThrough b) refl h) (programs b (address_at f 1) e))
  row-registers lead E.ErasePage h =
      on_page (address_at f 1) (O.ErasePage (page_at g (address_at f 1))) (other_ready r E.ErasePage refl h) (erases_page (address_at f 1))
  row-registers lead E.EraseBlock h =
      on_page (address_at f 1) (O.EraseBlock (page_at g (address_at f 1) / 8)) (other_ready r E.EraseBlock refl h) (erases_block (address_at f 1))
  row-registers lead E.EraseSector h =
      on_page (address_at f 1) (O.EraseSector (sector_of g (page_at g (address_at f 1)))) (other_ready r E.EraseSector refl h) (erases_sector (address_at f 1))
  row-registers lead E.EraseChip h = starts (O.EraseChip (unsealed_set g r)) (other_ready r E.EraseChip refl h) erases_chip
  row-registers lead (E.Transfer b) h =
      starts (O.Transfer b (page_at g (address_at f 1))) (other_ready r (E.Transfer b) refl h) (transfers b (address_at f 1))
  row-registers lead (E.Compare b) h =
      starts (O.Compare b (page_at g (address_at f 1))) (other_ready r (E.Compare b) refl h) (compares b (address_at f 1))
  row-registers lead (E.Rewrite b) h =
      on_page (address_at f 1) (O.Rewrite b (page_at g (address_at f 1))) (other_ready r (E.Rewrite b) refl h) (rewrites b (address_at f 1))
  row-registers lead E.ProtectOn h = marks true (other_ready r E.ProtectOn refl h)
  row-registers lead E.ProtectOff h =
      either Q r.wp (decided (with_protect r false) A.Silent 0) (ignored r)
      (λ e. marks false (other_ready r E.ProtectOff refl h)) (λ e. same)
  row-registers lead E.EraseProtection h =
      either Q r.wp (started r O.EraseProtection) (ignored r)
      (λ e. starts O.EraseProtection (other_ready r E.EraseProtection refl h) (erases_protection e)) (λ e. same)
  row-registers lead E.ProgramProtection h =
      let d = protection_data g f in
      either Q r.wp (decided (with_operation r (O.ProgramProtection d)) (A.LoadProtection d) 0) (ignored r)
      (λ e. starts (O.ProgramProtection d) (other_ready r E.ProgramProtection refl h) (programs-protection e)) (λ e. same)
  row-registers lead E.LockSector h =
      starts (O.LockSector (sector_of g (page_at g (address_at f 4)))) (other_ready r E.LockSector refl h) (locks_sector (address_at f 4))
  row-registers lead E.ProgramSecurity h =
      let d = security_data f in
      either Q r.used (ignored r) (decided (with_operation r (O.ProgramSecurity d)) (A.LoadSecurity d) 0)
      (λ e. same) (λ e. starts (O.ProgramSecurity d) (other_ready r E.ProgramSecurity refl h) (programs_security e))
  row-registers lead E.ReadProtection h = same
  row-registers lead E.ReadLockdown h = same
  row-registers lead E.ReadSecurity h = same
  row-registers lead E.ReadStatus h = same
  row-registers lead E.ReadId h = same
  row-registers lead E.PowerDown h = sleeps true (other_ready r E.PowerDown refl h).0
  row-registers lead E.Resume h = sleeps false (wake_idle r E.Resume refl h)
  row-registers lead E.Unlisted h = same

  pub control-registers : Q (control g r f).registers
  control-registers =
      control_cases g r f (λ d. Q d.registers) same (row-registers (decode_of f).lead (decode_of f).effect)

-- ---- what follows from it

-- what a frame leaves under way: what was under way, or what it starts on an idle, awake chip
pub control-operation : (g : Geometry) (r : Registers) (f : List ℕ) (Q : Operation → Type 0) → Q r.operation
    → ((o : Operation) → Ready r → Starts g r f o → Q o) → Q (control g r f).registers.operation
control-operation g r f Q u s = control-registers g r f (λ n. Q n.operation) u s (λ on y. u) (λ on y. u)

-- no frame changes the bytes of a register, the used mark or the pin's level
pub control_fixed : (g : Geometry) (r : Registers) (f : List ℕ) → Fixed r (control g r f).registers
control_fixed g r f =
    control-registers g r f (Fixed r)
    (record { protection = refl; lockdown = refl; user = refl; factory = refl; used = refl; wp = refl })
    (λ o y s. record { protection = refl; lockdown = refl; user = refl; factory = refl; used = refl; wp = refl })
    (λ on y. record { protection = refl; lockdown = refl; user = refl; factory = refl; used = refl; wp = refl })
    (λ on y. record { protection = refl; lockdown = refl; user = refl; factory = refl; used = refl; wp = refl })

pub control-lengths : (g : Geometry) (r : Registers) (f : List ℕ) → Lengths r → Lengths (control g r f).registers
control-lengths g r f l =
    let k = control_fixed g r f in
    record {
      protection = ap (length {A = ℕ}) k.protection ∙ l.protection;
      lockdown = ap (length {A = ℕ}) k.lockdown ∙ l.lockdown;
      user = ap (length {A = ℕ}) k.user ∙ l.user;
      factory = ap (length {A = ℕ}) k.factory ∙ l.factory;
    }

-- a busy chip's registers stay as they are, whatever the frame
pub busy-registers : (g : Geometry) (r : Registers) (f : List ℕ) → (r.operation ≡ O.Idle → ⊥) → (control g r f).registers ≡ r
busy-registers g r f b =
    control-registers g r f (λ n. n ≡ r) refl (λ o y s. absurd (b y.0)) (λ on y. absurd (b y.0)) (λ on y. absurd (b y))

-- so an operation under way is not replaced
pub busy_keeps : (g : Geometry) (r : Registers) (f : List ℕ) → (r.operation ≡ O.Idle → ⊥) → (control g r f).registers.operation ≡ r.operation
busy_keeps g r f b = ap (λ (n : Registers). n.operation) (busy-registers g r f b)

-- the page that an address names is in the part
page_few : (g : Geometry) (n address : ℕ) → Sized g n → page_at g address < g.pages
page_few g n address z = page_named_lem g address (omega (arith, z.blocks))

-- what a frame may start names nothing beyond the part
pub starts-within : (g : Geometry) (n : ℕ) (r : Registers) (f : List ℕ) (o : Operation) → Sized g n → Starts g r f o → within g o ≡ true
unfolding within
starts-within g n r f o z (programs b a u) = lt-ltb (page_at g a) g.pages (page_few g n a z)
starts-within g n r f o z (programs-over b a u) = lt-ltb (page_at g a) g.pages (page_few g n a z)
starts-within g n r f o z (transfers b a) = lt-ltb (page_at g a) g.pages (page_few g n a z)
starts-within g n r f o z (compares b a) = lt-ltb (page_at g a) g.pages (page_few g n a z)
starts-within g n r f o z (rewrites b a u) = lt-ltb (page_at g a) g.pages (page_few g n a z)
starts-within g n r f o z (erases_page a u) = lt-ltb (page_at g a) g.pages (page_few g n a z)
starts-within g n r f o z (erases_block a u) = lt-ltb (page_at g a / 8) (g.pages / 8) (block-few g n (page_at g a) z (page_few g n a z))
starts-within g n r f o z (erases_sector a u) = lt-ltb (sector_of g (page_at g a)) (sector_count g) (sector_few g z.wide (page_at g a) (page_few g n a z))
starts-within g n r f o z erases_chip = lt-ltb (unsealed_set g r) (2 ^ sector_count g) (unsealed-small g r)
starts-within g n r f o z (erases_protection u) = refl
starts-within g n r f o z (programs-protection u) = refl
starts-within g n r f o z (locks_sector a) = lt-ltb (sector_of g (page_at g a)) (sector_count g) (sector_few g z.wide (page_at g a) (page_few g n a z))
starts-within g n r f o z (programs_security u) = refl

-- an operation within the part is followed by one within the part, whatever the frame
pub control-within : (g : Geometry) (n : ℕ) (r : Registers) (f : List ℕ) → Sized g n → within g r.operation ≡ true
    → within g (control g r f).registers.operation ≡ true
control-within g n r f z h = control-operation g r f (λ o. within g o ≡ true) h (λ o y s. starts-within g n r f o z s)
