-- Aid: an action names pages of the part and bytes of a page alone, which is what the memory's functions ask of it; no rule of the chip.
-- Assumes nothing.
use Rattle.std.specs.Prelude.{◌*◌, ◌<◌}
use Rattle.geometry.specs.declared.Geometry.{Geometry}
use Rattle.control.specs.declared.Action.{Action}
use Rattle.control.specs.declared.Action.TheVariants.{Silent, ReadPage, ReadArray, ReadBuffer, WriteBuffer, LoadProtection, LoadSecurity, ReadProtection, ReadLockdown, ReadSecurity, ReadStatus, ReadId}

unfoldable pub Names : Geometry → Action → Type 0
Names g Silent = Unit
Names g (ReadPage page start) = (page < g.pages) × (start < g.size)
Names g (ReadArray start) = start < g.pages * g.size
Names g (ReadBuffer b start) = start < g.size
Names g (WriteBuffer b start) = start < g.size
Names g (LoadProtection d) = Unit
Names g (LoadSecurity d) = Unit
Names g ReadProtection = Unit
Names g ReadLockdown = Unit
Names g ReadSecurity = Unit
Names g ReadStatus = Unit
Names g ReadId = Unit
