-- The facts of each operation in one table: what it names, whether it erases or programs that, which frames it lets through, and what it does at
-- its busy end to the memory and to a register. Whatever else is told of an operation follows from these.
-- Assumes nothing.
use Rattle.std.specs.Prelude.{ℕ, Bool, true, false}
use Rattle.commands.specs.declared.Buffer.{Buffer}
use Rattle.registers.specs.declared.Facts.{Facts}
use Rattle.registers.specs.declared.Named.{Named}
use Rattle.registers.specs.declared.Named.TheVariants.{Nothing, Page, Block, Sector, Sectors}
use Rattle.registers.specs.declared.Operation.{Operation}
use Rattle.registers.specs.declared.Operation.TheVariants as O
use Rattle.registers.specs.declared.Update.{Update}
use Rattle.registers.specs.declared.Update.TheVariants.{Keep, FillProtection, MaskProtection, Lock, WriteUser}
use Rattle.registers.specs.declared.Usage.TheVariants.{Free, Uses, NoBuffer, Exclusive}
use Rattle.registers.specs.declared.Work.{Work}
use Rattle.registers.specs.declared.Work.TheVariants.{Rest, Program, ProgramOver, Transfer, Compare, Erase}

-- Aid: a row of the table
pub record Entry : Type 0 where
  pub facts : Facts
  pub update : Update

-- ---- the kinds of operation

-- (7.3) no operation: a busy end does nothing
abbrev pub idling : Facts
idling = record { names = Nothing; writes = false; usage = Free; work = Rest }

-- Aid: with a buffer and a page: whether the page is programmed, and what is done
abbrev pub paging : Buffer → ℕ → Bool → Work → Facts
paging b page writes work = record { names = Page page; writes = writes; usage = Uses b; work = work }

-- (5.4) an erase takes up no buffer
abbrev pub erasing : Named → Facts
erasing n = record { names = n; writes = true; usage = NoBuffer; work = Erase }

-- (5.5) CF, FC, 30 and 9B let D7 through and no other frame; the memory stays
abbrev pub updating : Named → Facts
updating n = record { names = n; writes = false; usage = Exclusive; work = Rest }

-- Aid: an operation that changes no register
abbrev pub keeping : Facts → Entry
keeping f = record { facts = f; update = Keep }

-- ---- the table

-- (2.4) the operations: what each names, whether it writes that, what it uses and what it does
-- (7.7) 58/59 do what 53/55 do, and count as programming the page
abbrev pub entry_of : Operation → Entry
entry_of O.Idle = keeping idling
entry_of (O.Program b page) = keeping (paging b page true Program)
entry_of (O.ProgramOver b page) = keeping (paging b page true ProgramOver)
entry_of (O.Transfer b page) = keeping (paging b page false Transfer)
entry_of (O.Compare b page) = keeping (paging b page false Compare)
entry_of (O.Rewrite b page) = keeping (paging b page true Transfer)
entry_of (O.ErasePage page) = keeping (erasing (Page page))
entry_of (O.EraseBlock block) = keeping (erasing (Block block))
entry_of (O.EraseSector s) = keeping (erasing (Sector s))
entry_of (O.EraseChip sectors) = keeping (erasing (Sectors sectors))
entry_of O.EraseProtection = record { facts = updating Nothing; update = FillProtection }
entry_of (O.ProgramProtection d) = record { facts = updating Nothing; update = MaskProtection d }
entry_of (O.LockSector s) = record { facts = updating (Sector s); update = Lock s }
entry_of (O.ProgramSecurity d) = record { facts = updating Nothing; update = WriteUser d }

-- Aid: an operation's facts
abbrev pub facts_of : Operation → Facts
facts_of o = (entry_of o).facts

-- Aid: what it does to a register
abbrev pub update_of : Operation → Update
update_of o = (entry_of o).update
