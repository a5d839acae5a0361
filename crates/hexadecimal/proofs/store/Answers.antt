-- `hexadecimal::store` meets its contract: the first i bytes are stored, and those from i on are still to be laid over `out`. Assumes nothing.
use Rattle.std.proofs.Common.{rules, refl, sym, take, length-set, arith, ◌∙◌}
use Rattle.slices.proofs.Laws.{splice-zero}
use Rattle.text.specs.Hexadecimal.{pairs}
use Rattle.hexadecimal.proofs.Pairs.{store_step, store_end}
use Rattle.hexadecimal.proofs.store.Goals as goal

pub loop-i-init : goal.loop-i-init
loop-i-init c = record { fills = refl; to_come = splice-zero (take c.args.n (pairs c.args.word.now)) c.args.out.now }

pub loop-i-preserved : goal.loop-i-preserved
loop-i-preserved c =
    let a = c.args in
    let l = c.loop-i in
    let p = c.pair in record {
      fills = simp length-set l.invariant.fills;
      to_come = sym (store_step a.word.now a.n c.requires l.out l.i p.result (omega arith) p.ensures) ∙ l.invariant.to_come;
    }

pub returns : goal.returns
returns c =
    let a = c.args in
    let l = c.loop-i in (
      search rules,
      sym (store_end a.word.now a.n c.requires l.out l.i (omega arith)) ∙ l.invariant.to_come,
    )
