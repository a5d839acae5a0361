-- A cut, as far as it concerns the registers. They see no more of the junk than reaches one.
-- Assumes nothing.
use Rattle.std.specs.Prelude.{ℕ, ◌*◌, cond, List, [], ◌∷◌, get_or, take, drop, eqb, leb}
use Rattle.slices.specs.Lists.{over}
use Rattle.geometry.specs.declared.Geometry.{Geometry}
use Rattle.registers.specs.declared.Operation.{Operation}
use Rattle.registers.specs.declared.Registers.{Registers}
use Rattle.registers.specs.declared.Update.{Update}
use Rattle.registers.specs.declared.Update.TheVariants.{Keep, FillProtection, MaskProtection, Lock, WriteUser}
use Rattle.registers.specs.Facts.{update_of}
use Rattle.registers.specs.Fields.{with_protection, with_lockdown, with_user, restarted}
use Rattle.registers.specs.Protection.{locked_bytes}

-- (8.6) the junk behind the two buffers'
abbrev pub after_buffers : Geometry → List ℕ → List ℕ
after_buffers g junk = drop (2 * g.size) junk

-- (8.9) what of it reaches a register: as many bytes as the register has for CF and FC, 64 for 9B, for a lock only whether the first byte is 80h or more (1 or 0), else nothing
abbrev pub reached : Geometry → Update → List ℕ → List ℕ
reached g Keep junk = []
reached g FillProtection junk = take g.register junk
reached g (MaskProtection d) junk = take g.register junk
reached g (Lock s) junk = cond (leb 128 (get_or junk 0 0)) (1 ∷ []) (0 ∷ [])
reached g (WriteUser d) junk = take 64 junk

-- (8.9) the same of all the junk
unfoldable pub reaching : Geometry → Operation → List ℕ → List ℕ
reaching g o junk = reached g (update_of o) (after_buffers g junk)

-- (8.6) CF, FC: the protection bytes are junk
-- (8.7) 9B: the user bytes are, and used is set
-- (8.8) 30: the sector is locked, or lockdown stays
abbrev pub spoilt : Geometry → Update → List ℕ → Registers → Registers
spoilt g Keep w r = r
spoilt g FillProtection w r = with_protection r (over w r.protection)
spoilt g (MaskProtection d) w r = with_protection r (over w r.protection)
spoilt g (Lock s) w r = cond (eqb (get_or w 0 0) 1) (with_lockdown r (locked_bytes g r.lockdown s)) r
spoilt g (WriteUser d) w r = with_user r (over w r.user)

-- (8.11) no register but the one that the operation names
unfoldable pub lost_by : Geometry → Operation → List ℕ → Registers → Registers
lost_by g o w r = spoilt g (update_of o) w r

-- (8.11) the registers after a cut, given what of the junk reaches one
unfoldable pub lost : Geometry → Registers → List ℕ → Registers
lost g r w = restarted (lost_by g r.operation w r)
