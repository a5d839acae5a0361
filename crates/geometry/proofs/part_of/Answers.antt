-- `geometry::part_of` meets its contract: each test of the length that the code makes is the definition's.
-- Assumes nothing.
use Rattle.geometry.specs.Parts.{parts, part_among, part_of}
use borrow.Author.Tests.{eq-eqb, ne_eqb}
use Rattle.geometry.proofs.part_of.Goals as goal

pub returns-then-length-eq1081344 : goal.returns-then-length-eq1081344
unfolding part_of part_among parts
returns-then-length-eq1081344 c = rw (c.row.ensures, eq-eqb _ _ c.if-length-eq1081344.true)

pub returns-then-length-eq33792 : goal.returns-then-length-eq33792
unfolding part_of part_among parts
returns-then-length-eq33792 c = rw (c.row-then-length-eq33792.ensures, ne_eqb _ _ c.if-length-eq1081344.false, eq-eqb _ _ c.if-length-eq33792.true)

pub returns-then-length-eq1048576 : goal.returns-then-length-eq1048576
unfolding part_of part_among parts
returns-then-length-eq1048576 c = rw (c.row-then-length-eq1048576.ensures, ne_eqb _ _ c.if-length-eq1081344.false, ne_eqb _ _ c.if-length-eq33792.false, eq-eqb _ _ c.if-length-eq1048576.true)

pub returns-then-length-eq32768 : goal.returns-then-length-eq32768
unfolding part_of part_among parts
returns-then-length-eq32768 c = rw (c.row-then-length-eq32768.ensures, ne_eqb _ _ c.if-length-eq1081344.false, ne_eqb _ _ c.if-length-eq33792.false, ne_eqb _ _ c.if-length-eq1048576.false, eq-eqb _ _ c.if-length-eq32768.true)

pub returns : goal.returns
unfolding part_of part_among parts
returns c = rw (ne_eqb _ _ c.if-length-eq1081344.false, ne_eqb _ _ c.if-length-eq33792.false, ne_eqb _ _ c.if-length-eq1048576.false, ne_eqb _ _ c.if-length-eq32768.false)
