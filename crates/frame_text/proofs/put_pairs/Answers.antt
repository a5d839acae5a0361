-- `frame_text::put_pairs` meets its contract: the pairs of the bytes so far lie over `out`, and those of the rest are still to be laid. Assumes nothing.
use Rattle.std.proofs.Common.{rules, sym, arith, ◌∙◌}
use Rattle.frame_text.proofs.Texts.{spaced-step, spaced-end}
use Rattle.frame_text.proofs.put_pairs.Goals as goal

pub loop-b-preserved : goal.loop-b-preserved
loop-b-preserved c =
    let l = c.loop-b in
    let p = c.put_pair-next in record {
      place = omega arith;
      fills = search rules;
      to_come = spaced-step c.args.bytes.now l.b-index l.next p.result l.out p.new.out (omega arith) p.ensures.0 p.ensures.1 ∙ l.invariant.to_come;
    }

pub returns : goal.returns
returns c =
    let l = c.loop-b in (
      omega arith,
      sym (spaced-end c.args.bytes.now l.b-index l.next l.out (omega arith)) ∙ l.invariant.to_come,
    )
