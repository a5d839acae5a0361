-- `lines::write_answer` meets its contract: each piece stands behind the one before it. Assumes nothing.
use Rattle.std.proofs.Common.{rules, ◌≡◌, length, arith}
use Rattle.lines.specs.Texts.{answer_text}
use Rattle.lines.proofs.Laws.{stands_more, stands_counts}
use Rattle.lines.proofs.write_answer.Goals as goal

pub returns : goal.returns
unfolding answer_text
returns c =
    let l : length c.args.out.now ≡ 128 = search rules in
    let z = stands_more c.put_count-a.ensures.0 c.put.ensures in
    rw (← c.from.ensures) (z, stands_counts z (omega (arith, c.put_count-a.ensures.1, c.put.ensures.end, l)))
