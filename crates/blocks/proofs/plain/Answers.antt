-- `blocks::plain` meets its contract: each arm is the case of its tag; the data of FC are the first 16 of the 64 data bytes. Assumes nothing.
use mathlib.Core.Path.{sym, ap, ◌∙◌}
use lib.Dec.{lit≤}
use lib.ListN.{drop}
use lib.Seq.{take-take}
use Rattle.registers.specs.Data.{pack16}
use Rattle.registers.specs.declared.Operation.TheVariants.{ProgramProtection}
use Rattle.blocks.specs.Block.{plain_of}
use Rattle.blocks.proofs.plain.Goals as goal

pub returns-in-252 : goal.returns-in-252
unfolding plain_of
returns-in-252 c =
    rw c.in-252.is
    (ap ProgramProtection (c.packed16.ensures ∙ ap pack16 (c.part.ensures ∙ sym (take-take 16 64 (drop 172 c.args.block.now) (lit≤ tt)))))
