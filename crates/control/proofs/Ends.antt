-- Busy ends and cuts: both leave an idle chip; a busy end of an idle chip changes nothing; the registers keep their lengths.
-- Assumes nothing.
use mathlib.Core.Path.{◌≡◌, refl, sym, ◌∙◌, ap}
use mathlib.Core.Bool.{Bool, true, false, cond}
use mathlib.Core.List.{List}
use Prim.Native.Nat.{ℕ}
use lib.Dec.{eqb}
use lib.ListN.{length, get_or, replicate}
use Rattle.slices.specs.Lists.{over, and_over}
use Rattle.slices.proofs.Laws.{length_over, length-and_over}
use Rattle.geometry.specs.declared.Geometry.{Geometry}
use Rattle.geometry.specs.Parts.{register_room}
use Rattle.commands.specs.declared.Buffer.{Buffer}
use Rattle.registers.specs.declared.Operation.TheVariants.{Idle, Program, EraseBlock}
use Rattle.registers.specs.declared.Registers.{Registers}
use Rattle.registers.specs.declared.Update.{Update}
use Rattle.registers.specs.declared.Update.TheVariants.{Keep, FillProtection, MaskProtection, Lock, WriteUser}
use Rattle.registers.specs.Data.{bytes16, bytes64}
use Rattle.registers.specs.Facts.{update_of}
use Rattle.registers.specs.Fields.{with_protection, with_lockdown, with_user, with_operation}
use Rattle.registers.specs.Protection.{locked_bytes}
use Rattle.registers.proofs.Data.{length-bytes64}
use Rattle.registers.proofs.Protection.{length-locked}
use Rattle.control.specs.Completion.{updated, completed_by, completed}
use Rattle.control.specs.PowerLoss.{spoilt, lost_by, lost}
use Rattle.control.specs.Starts.{Ready, Lengths}

-- ---- idle

pub completed-operation : (g : Geometry) (r : Registers) → (completed g r).operation ≡ Idle
unfolding completed
completed-operation g r = refl

pub lost-operation : (g : Geometry) (r : Registers) (w : List ℕ) → (lost g r w).operation ≡ Idle
unfolding lost
lost-operation g r w = refl

-- the busy end of an operation that keeps the registers
pub completed_keep : (g : Geometry) (r : Registers) → update_of r.operation ≡ Keep → completed g r ≡ with_operation r Idle
unfolding completed completed_by
completed_keep g r e = λ i. with_operation (updated g (e i) r) Idle

-- in an idle chip a busy end keeps the registers
pub completed_idle : (g : Geometry) (r : Registers) → r.operation ≡ Idle → completed g r ≡ r
completed_idle g r e = completed_keep g r (ap update_of e) ∙ (λ i. with_operation r (sym e i))

-- a page's program, a block's erase
pub completed_program : (g : Geometry) (r : Registers) (b : Buffer) (page : ℕ) → r.operation ≡ Program b page → completed g r ≡ with_operation r Idle
completed_program g r b page e = completed_keep g r (ap update_of e)

pub completed-block : (g : Geometry) (r : Registers) (block : ℕ) → r.operation ≡ EraseBlock block → completed g r ≡ with_operation r Idle
completed-block g r block e = completed_keep g r (ap update_of e)

-- ---- what an update may do to the registers, once: it sets the bytes of one of them

-- n has of r all but those bytes and the used mark, and lengths that were right are right
pub record Spares (r n : Registers) : Type 0 where
  pub factory : n.factory ≡ r.factory
  pub protect : n.protect ≡ r.protect
  pub wp : n.wp ≡ r.wp
  pub deep : n.deep ≡ r.deep
  pub protection : length r.protection ≡ register_room → length n.protection ≡ register_room
  pub lockdown : length n.lockdown ≡ length r.lockdown
  pub user : length r.user ≡ 64 → length n.user ≡ 64

module _ (g : Geometry) (r : Registers) where
  same : Spares r r
  same = record { factory = refl; protect = refl; wp = refl; deep = refl; protection = λ l. l; lockdown = refl; user = λ l. l }

  lists : (bytes : List ℕ) → (length r.protection ≡ register_room → length bytes ≡ register_room) → Spares r (with_protection r bytes)
  lists bytes h = record { factory = refl; protect = refl; wp = refl; deep = refl; protection = h; lockdown = refl; user = λ l. l }

  locks : (s : ℕ) → Spares r (with_lockdown r (locked_bytes g r.lockdown s))
  locks s = record { factory = refl; protect = refl; wp = refl; deep = refl; protection = λ l. l; lockdown = length-locked g r.lockdown s; user = λ l. l }

  fills : (bytes : List ℕ) → (length r.user ≡ 64 → length bytes ≡ 64) → Spares r (with_user r bytes)
  fills bytes h = record { factory = refl; protect = refl; wp = refl; deep = refl; protection = λ l. l; lockdown = refl; user = h }

  updated-spares : (u : Update) → Spares r (updated g u r)
  updated-spares Keep = same
  updated-spares FillProtection =
      lists (over (replicate g.register 255) r.protection) (λ l. length_over (replicate g.register 255) r.protection ∙ l)
  updated-spares (MaskProtection d) = lists (and_over r.protection (bytes16 d)) (λ l. length-and_over r.protection (bytes16 d) ∙ l)
  updated-spares (Lock s) = locks s
  updated-spares (WriteUser d) = fills (bytes64 d) (λ l. length-bytes64 d)

  spoilt-spares : (w : List ℕ) (u : Update) → Spares r (spoilt g u w r)
  spoilt-spares w Keep = same
  spoilt-spares w FillProtection = lists (over w r.protection) (λ l. length_over w r.protection ∙ l)
  spoilt-spares w (MaskProtection d) = lists (over w r.protection) (λ l. length_over w r.protection ∙ l)
  spoilt-spares w (Lock s) = go (eqb (get_or w 0 0) 1)
    where
      go : (b : Bool) → Spares r (cond b (with_lockdown r (locked_bytes g r.lockdown s)) r)
      go true = locks s
      go false = same
  spoilt-spares w (WriteUser d) = fills (over w r.user) (λ l. length_over w r.user ∙ l)

-- ---- so a busy end

module _ (g : Geometry) (r : Registers) where
  ended : Spares r (completed_by g r.operation r)
  unfolding completed_by
  ended = updated-spares g r (update_of r.operation)

  pub completed-factory : (completed g r).factory ≡ r.factory
  unfolding completed
  completed-factory = ended.factory

  pub completed-wp : (completed g r).wp ≡ r.wp
  unfolding completed
  completed-wp = ended.wp

  pub completed_protect : (completed g r).protect ≡ r.protect
  unfolding completed
  completed_protect = ended.protect

  pub completed_deep : (completed g r).deep ≡ r.deep
  unfolding completed
  completed_deep = ended.deep

  -- an awake chip is ready after it
  pub completed-ready : r.deep ≡ false → Ready (completed g r)
  completed-ready h = (completed-operation g r, completed_deep ∙ h)

  pub completed-lengths : Lengths r → Lengths (completed g r)
  unfolding completed
  completed-lengths k =
      record {
        protection = ended.protection k.protection;
        lockdown = ended.lockdown ∙ k.lockdown;
        user = ended.user k.user;
        factory = ap (length {A = ℕ}) ended.factory ∙ k.factory;
      }

-- ---- and a cut

module _ (g : Geometry) (r : Registers) (w : List ℕ) where
  spoils : Spares r (lost_by g r.operation w r)
  unfolding lost_by
  spoils = spoilt-spares g r w (update_of r.operation)

  pub lost-factory : (lost g r w).factory ≡ r.factory
  unfolding lost
  lost-factory = spoils.factory

  pub lost-wp : (lost g r w).wp ≡ r.wp
  unfolding lost
  lost-wp = spoils.wp

  pub lost_deep : (lost g r w).deep ≡ false
  unfolding lost
  lost_deep = refl

  pub lost_protect : (lost g r w).protect ≡ false
  unfolding lost
  lost_protect = refl

  -- a chip is ready after it
  pub lost-ready : Ready (lost g r w)
  lost-ready = (lost-operation g r w, lost_deep)

  pub lost-lengths : Lengths r → Lengths (lost g r w)
  unfolding lost
  lost-lengths k =
      record {
        protection = spoils.protection k.protection;
        lockdown = spoils.lockdown ∙ k.lockdown;
        user = spoils.user k.user;
        factory = ap (length {A = ℕ}) spoils.factory ∙ k.factory;
      }
