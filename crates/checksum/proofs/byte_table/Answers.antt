-- `checksum::byte_table` meets its contract: the table passes the computed test of its rule. Assumes nothing.
use Rattle.checksum.proofs.Table.{table, tabled}
use Rattle.checksum.proofs.byte_table.Goals as goal

pub returns : goal.returns
unfolding table
returns c = tabled
