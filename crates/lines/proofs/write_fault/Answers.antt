-- `lines::write_fault` meets its contract: each piece stands behind the one before it. Assumes nothing.
use Rattle.std.proofs.Common.{rules, ◌≡◌, length, arith}
use Rattle.lines.specs.Texts.{fault_text}
use Rattle.lines.proofs.Laws.{stands_more, stands_counts}
use Rattle.lines.proofs.write_fault.Goals as goal

pub returns : goal.returns
unfolding fault_text
returns c =
    let l : length c.args.out.now ≡ 128 = search rules in
    let z = stands_more c.put_count-a.ensures.0 (stands_more c.put-b.ensures (stands_more c.put-c.ensures c.put.ensures)) in
    (z, stands_counts z (omega (arith, c.put_count-a.ensures.1, c.put-b.ensures.end, c.put-c.ensures.end, c.put.ensures.end, l, c.requires)))
