-- `lines::write_sum` meets its contract: each piece stands behind the one before it. Assumes nothing.
use Rattle.std.proofs.Common.{rules, ◌≡◌, length, arith}
use Rattle.lines.specs.Texts.{sum_text}
use Rattle.lines.proofs.Laws.{stands_more, stands_counts}
use Rattle.lines.proofs.write_sum.Goals as goal

pub returns : goal.returns
unfolding sum_text
returns c =
    let l : length c.args.out.now ≡ 128 = search rules in
    let z = stands_more c.put_check-a.ensures.0 (stands_more c.put_check-b.ensures.0 (stands_more c.put_check-c.ensures.0 (stands_more c.put_count-d.ensures.0 c.put.ensures))) in
    (z, stands_counts z (omega (arith, c.put_check-a.ensures.1, c.put_check-b.ensures.1, c.put_check-c.ensures.1, c.put_count-d.ensures.1, c.put.ensures.end, l)))
