-- `lines::write_frame` meets its contract: each piece stands behind the one before it. Assumes nothing.
use Rattle.std.proofs.Common.{rules, ◌≡◌, length, arith}
use Rattle.lines.specs.Texts.{frame_text}
use Rattle.lines.proofs.Laws.{stands_more, stands_as, stands_counts, laid-over}
use Rattle.lines.proofs.write_frame.Goals as goal

pub returns : goal.returns
unfolding frame_text
returns c =
    let l : length c.args.out.now ≡ 128 = search rules in
    let e = c.frame_line-k.ensures in
    let z = stands_more (stands_as c.put-a.ensures (laid-over _ e.3 e.2 (omega (arith, e.0)))) c.put.ensures in
    (z, stands_counts z (omega (arith, e.0, e.1.1, c.put-a.ensures.end, c.put.ensures.end, l)))
