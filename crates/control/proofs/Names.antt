-- What a frame asks of the memory lies in the part: its pages and bytes are those of an address, and its data begin within it.
-- Assumes nothing.
use mathlib.Core.Bool.{Bool, true, false, cond}
use mathlib.Core.List.{List}
use Prim.Native.Nat.{ℕ, ◌/◌, ◌≤◌, ◌<◌, zero-le}
use native.Mathlib.Omega.{arith}
use lib.ListN.{length}
use Rattle.geometry.specs.declared.Geometry.{Geometry}
use Rattle.geometry.specs.Parts.{Sized, address_at, page_at, byte_at}
use Rattle.geometry.specs.Sectors.{sector_of}
use Rattle.geometry.proofs.Addresses.{page_named_lem, byte-named, address-within}
use Rattle.commands.specs.declared.Effect.{Effect}
use Rattle.commands.specs.declared.Effect.TheVariants as E
use Rattle.commands.specs.Decode.{decode_of}
use Rattle.commands.proofs.Rules.{decode_lead}
use Rattle.registers.specs.declared.Operation.{Operation}
use Rattle.registers.specs.declared.Operation.TheVariants as O
use Rattle.registers.specs.declared.Registers.{Registers}
use Rattle.registers.specs.Fields.{with_operation, with_protect}
use Rattle.registers.specs.Protection.{sealed}
use Rattle.control.specs.declared.Action.TheVariants as A
use Rattle.control.specs.declared.Decision.{Decision}
use Rattle.control.specs.Control.{decided, ignored, started, started_on, programmed_through, protect_off, protection_erased, protection_data, protection_programmed, sector_locked, security_data, security_programmed, row_decided, row_of, control}
use Rattle.control.specs.Names.{Names}
use Rattle.control.proofs.Rows.{control_cases}

either : (Q : Decision → Type 0) (b : Bool) (x y : Decision) → Q x → Q y → Q (cond b x y)
either Q true x y h k = h
either Q false x y h k = k

module _ (g : Geometry) (r : Registers) (f : List ℕ) where
  Good : Decision → Type 0
  Good d = (0 < g.pages → 0 < g.size → Names g d.action) × (d.lead ≤ length f)

  -- no memory is asked, no data begin
  quiet : (0 < g.pages → 0 < g.size → Names g A.Silent) × (0 ≤ length f)
  unfolding Names
  quiet = (λ p s. tt, zero-le)

  at_page : (page : ℕ) (o : Operation) → Good (started_on g r page o)
  unfolding Good Names started_on
  at_page page o = either Good (sealed g r (sector_of g page)) (ignored r) (started r o) quiet quiet

  row_good : (lead : ℕ) (e : Effect) → lead ≤ length f → Good (row_of g r f lead e)
  unfolding Good Names row_decided programmed_through protect_off protection_erased protection_programmed sector_locked security_programmed
  row_good lead E.ReadPage l = (λ p s. (page_named_lem g (address_at f 1) p, byte-named g (address_at f 1) s), l)
  row_good lead E.ReadArray l = (address-within g (address_at f 1), l)
  row_good lead (E.ReadBuffer b) l = (λ p s. byte-named g (address_at f 1) s, l)
  row_good lead (E.WriteBuffer b) l = (λ p s. byte-named g (address_at f 1) s, l)
  row_good lead (E.Program b) l = at_page (page_at g (address_at f 1)) (O.Program b (page_at g (address_at f 1)))
  row_good lead (E.ProgramOver b) l = at_page (page_at g (address_at f 1)) (O.ProgramOver b (page_at g (address_at f 1)))
  row_good lead (E.ProgramThrough b) l =
      let page = page_at g (address_at f 1) in
      either Good (sealed g r (sector_of g page)) (ignored r)
      (decided (with_operation r (O.Program b page)) (A.WriteBuffer b (byte_at g (address_at f 1))) lead)
      quiet (λ p s. byte-named g (address_at f 1) s, l)
  row_good lead E.ErasePage l = at_page (page_at g (address_at f 1)) (O.ErasePage (page_at g (address_at f 1)))
  row_good lead E.EraseBlock l = at_page (page_at g (address_at f 1)) (O.EraseBlock (page_at g (address_at f 1) / 8))
  row_good lead E.EraseSector l = at_page (page_at g (address_at f 1)) (O.EraseSector (sector_of g (page_at g (address_at f 1))))
  row_good lead E.EraseChip l = quiet
  row_good lead (E.Transfer b) l = quiet
  row_good lead (E.Compare b) l = quiet
  row_good lead (E.Rewrite b) l = at_page (page_at g (address_at f 1)) (O.Rewrite b (page_at g (address_at f 1)))
  row_good lead E.ProtectOn l = quiet
  row_good lead E.ProtectOff l =
      either Good r.wp (decided (with_protect r false) A.Silent 0) (ignored r) quiet quiet
  row_good lead E.EraseProtection l = either Good r.wp (started r O.EraseProtection) (ignored r) quiet quiet
  row_good lead E.ProgramProtection l =
      let d = protection_data g f in
      either Good r.wp (decided (with_operation r (O.ProgramProtection d)) (A.LoadProtection d) 0) (ignored r) quiet quiet
  row_good lead E.LockSector l = quiet
  row_good lead E.ProgramSecurity l =
      let d = security_data f in
      either Good r.used (ignored r) (decided (with_operation r (O.ProgramSecurity d)) (A.LoadSecurity d) 0) quiet quiet
  row_good lead E.ReadProtection l = (λ p s. tt, l)
  row_good lead E.ReadLockdown l = (λ p s. tt, l)
  row_good lead E.ReadSecurity l = (λ p s. tt, l)
  row_good lead E.ReadStatus l = (λ p s. tt, l)
  row_good lead E.ReadId l = (λ p s. tt, l)
  row_good lead E.PowerDown l = quiet
  row_good lead E.Resume l = quiet
  row_good lead E.Unlisted l = quiet

  -- whatever the frame is
  frame_good : Good (control g r f)
  unfolding Good Names
  frame_good = control_cases g r f Good quiet (λ h. row_good (decode_of f).lead (decode_of f).effect (decode_lead f))

-- a frame asks for nothing beyond the part
pub control_names : (g : Geometry) (n : ℕ) (r : Registers) (f : List ℕ) → Sized g n → Names g (control g r f).action
unfolding Good
control_names g n r f z = (frame_good g r f).0 (omega (arith, z.blocks)) (omega (arith, z.some))

-- its data begin within it, or at its end
pub control-lead : (g : Geometry) (r : Registers) (f : List ℕ) → (control g r f).lead ≤ length f
unfolding Good
control-lead g r f = (frame_good g r f).1
