-- `registers::facts_of` meets its contract: arm for arm the table.
-- Assumes nothing.
use Rattle.registers.proofs.facts_of.Goals as goal

pub returns-in-Program : goal.returns-in-Program
returns-in-Program c = rw c.in-Program.is c.paging.ensures

pub returns-in-ProgramOver : goal.returns-in-ProgramOver
returns-in-ProgramOver c = rw c.in-ProgramOver.is c.paging-in-ProgramOver.ensures

pub returns-in-Transfer : goal.returns-in-Transfer
returns-in-Transfer c = rw c.in-Transfer.is c.paging-in-Transfer.ensures

pub returns-in-Compare : goal.returns-in-Compare
returns-in-Compare c = rw c.in-Compare.is c.paging-in-Compare.ensures

pub returns-in-Rewrite : goal.returns-in-Rewrite
returns-in-Rewrite c = rw c.in-Rewrite.is c.paging-in-Rewrite.ensures

pub returns-in-ErasePage : goal.returns-in-ErasePage
returns-in-ErasePage c = rw c.in-ErasePage.is c.erasing.ensures

pub returns-in-EraseBlock : goal.returns-in-EraseBlock
returns-in-EraseBlock c = rw c.in-EraseBlock.is c.erasing-in-EraseBlock.ensures

pub returns-in-EraseSector : goal.returns-in-EraseSector
returns-in-EraseSector c = rw c.in-EraseSector.is c.erasing-in-EraseSector.ensures

pub returns-in-EraseChip : goal.returns-in-EraseChip
returns-in-EraseChip c = rw c.in-EraseChip.is c.erasing-in-EraseChip.ensures

pub returns-in-EraseProtection : goal.returns-in-EraseProtection
returns-in-EraseProtection c = rw c.in-EraseProtection.is c.updating.ensures

pub returns-in-ProgramProtection : goal.returns-in-ProgramProtection
returns-in-ProgramProtection c = rw c.in-ProgramProtection.is c.updating-in-ProgramProtection.ensures

pub returns-in-LockSector : goal.returns-in-LockSector
returns-in-LockSector c = rw c.in-LockSector.is c.updating-in-LockSector.ensures

pub returns-in-ProgramSecurity : goal.returns-in-ProgramSecurity
returns-in-ProgramSecurity c = rw c.in-ProgramSecurity.is c.updating-in-ProgramSecurity.ensures
