-- `storing::encode_registers` meets its contract: the five parts are stored one behind the other, so together they are one list laid over the block.
-- Assumes nothing.
use borrow.Author.Rules.{rules}
use mathlib.Core.List.{List, ◌++◌}
use mathlib.Core.Path.{◌≡◌, ap, ◌∙◌}
use Prim.Native.Nat.{ℕ}
use native.Mathlib.Omega.{arith}
use lib.ListN.{length, length-append}
use Rattle.slices.specs.Lists.{over}
use Rattle.blocks.specs.Block.{head_of, head_bytes, flagged, data_bytes, encode_registers}
use Rattle.control.specs.Starts.{Lengths}
use Rattle.blocks.proofs.Lengths.{length-head_bytes, length-data_bytes}
use Rattle.blocks.proofs.Stored.{stored-none, stored_more, five}
use Rattle.storing.proofs.encode_registers.Goals as goal

pub returns : goal.returns
unfolding encode_registers head_bytes
returns c =
    let r = c.args.r in
    let a : Lengths r = record { protection = search rules; lockdown = search rules; user = search rules; factory = search rules } in
    let f = flagged r.used r.protect r.wp r.deep in
    let middle = head_bytes f (head_of r.operation) ++ data_bytes r.operation in
    let m : length middle ≡ 76 = length-append (head_bytes f (head_of r.operation)) (data_bytes r.operation) ∙ omega (arith, length-head_bytes f (head_of r.operation), length-data_bytes r.operation) in
    let z =
    stored_more middle 76 m
    (stored_more r.factory 64 a.factory
    (stored_more r.user 64 a.user
    (stored_more r.lockdown 16 a.lockdown
    (stored_more r.protection 16 a.protection (stored-none c.args.block.now)
    c.put.ensures)
    c.put-2.ensures)
    c.put-3.ensures)
    c.put-4.ensures)
    c.put_operation.ensures
    in
    z.same ∙ ap (λ (l : List ℕ). over l c.args.block.now) (five r.protection r.lockdown r.user r.factory middle)
