-- `checksum::crc_with` meets its contract: the state so far, taken on over the bytes that are left, is the state of the whole. Assumes nothing.
use mathlib.Core.Path.{sym, ap, ◌∙◌}
use Prim.Native.Nat.{ℕ, ◌+◌}
use native.Mathlib.Omega.{arith}
use lib.ListN.{drop}
use Rattle.checksum.specs.Checksum.{crc_of}
use Rattle.checksum.proofs.Table.{crc_step, crc_end}
use Rattle.checksum.proofs.crc_with.Goals as goal

pub loop-byte-preserved : goal.loop-byte-preserved
loop-byte-preserved c =
    let xs = c.args.bytes.now in
    let l = c.loop-byte in
    ap (λ (n : ℕ). crc_of n (drop (l.byte-index + 1) xs)) c.crc_byte-s.ensures ∙ sym (crc_step l.s xs l.byte-index (omega arith)) ∙ l.invariant

pub returns : goal.returns
returns c =
    let l = c.loop-byte in
    sym (crc_end l.s c.args.bytes.now l.byte-index (omega arith)) ∙ l.invariant
