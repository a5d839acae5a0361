-- Aid: the operations whose busy end keeps every register, so that it can be made in place.
-- Assumes nothing.
use Rattle.std.specs.Prelude.{Bool, true, false}
use Rattle.registers.specs.declared.Operation.{Operation}
use Rattle.registers.specs.declared.Update.{Update}
use Rattle.registers.specs.declared.Update.TheVariants.{Keep, FillProtection, MaskProtection, Lock, WriteUser}
use Rattle.registers.specs.Facts.{update_of}

abbrev pub is_keep : Update → Bool
is_keep Keep = true
is_keep FillProtection = false
is_keep (MaskProtection d) = false
is_keep (Lock s) = false
is_keep (WriteUser d) = false

abbrev pub is_plain : Operation → Bool
is_plain o = is_keep (update_of o)
