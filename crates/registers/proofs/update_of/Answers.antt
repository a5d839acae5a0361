-- `registers::update_of` meets its contract: arm for arm the table.
-- Assumes nothing.
use Rattle.registers.proofs.update_of.Goals as goal

pub returns-in-ProgramProtection : goal.returns-in-ProgramProtection
returns-in-ProgramProtection c = rw c.in-ProgramProtection.is

pub returns-in-LockSector : goal.returns-in-LockSector
returns-in-LockSector c = rw c.in-LockSector.is

pub returns-in-ProgramSecurity : goal.returns-in-ProgramSecurity
returns-in-ProgramSecurity c = rw c.in-ProgramSecurity.is
