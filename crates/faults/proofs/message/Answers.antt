-- `faults::message` meets its contract: both parts of the text have room in 64 bytes, and laid one behind the other they are the text (`said`).
-- Assumes nothing.
use Rattle.std.proofs.Common.{rules, ◌≡◌, length, ap, arith, ◌∙◌}
use Rattle.slices.proofs.Laws.{length-splice}
use Rattle.faults.proofs.Texts.{parts-short, said}
use Rattle.faults.proofs.message.Goals as goal

pub put-k-requires : goal.put-k-requires
put-k-requires c =
    let l : length c.args.out.now ≡ 64 = search rules in
    omega (arith, parts-short c.parts.result.0.now c.parts.result.1.now c.args.f c.parts.ensures)

pub put-requires : goal.put-requires
put-requires c =
    let l : length c.args.out.now ≡ 64 = search rules in
    let p = c.put-k.ensures in
    omega (arith, parts-short c.parts.result.0.now c.parts.result.1.now c.args.f c.parts.ensures, p.end, ap length p.laid ∙ length-splice 0 _ c.args.out.now)

pub returns : goal.returns
returns c = said c.args.f c.args.out.now c.put-k.new.out c.put.new.out c.put-k.result c.put.result c.parts.ensures
    (record { end = c.put-k.ensures.end; laid = c.put-k.ensures.laid })
    (record { end = c.put.ensures.end; laid = c.put.ensures.laid })
