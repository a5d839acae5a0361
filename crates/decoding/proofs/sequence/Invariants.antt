-- No row before the loop's has opened the frame.
use mathlib.Core.Path.{◌≡◌}
use lib.ListN.{drop}
use Rattle.commands.specs.Table.{sequences}
use Rattle.commands.specs.Decode.{sequence_in}
use Rattle.decoding.proofs.sequence.Given as goal

abbrev pub invariant-loop-row : goal.invariant-loop-row
invariant-loop-row l = sequence_in sequences l.frame ≡ sequence_in (drop l.row-index sequences) l.frame
