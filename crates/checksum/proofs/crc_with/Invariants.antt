-- `checksum::crc_with` meets its contract: the state so far, taken on over the bytes that are left, is the state of the whole. Assumes nothing.
use mathlib.Core.Path.{◌≡◌}
use lib.ListN.{drop}
use Rattle.checksum.specs.Checksum.{crc_of}
use Rattle.checksum.proofs.crc_with.Given as goal

abbrev pub invariant-loop-byte : goal.invariant-loop-byte
invariant-loop-byte l = crc_of l.s (drop l.byte-index l.bytes) ≡ crc_of l.state l.bytes
