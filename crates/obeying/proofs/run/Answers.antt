-- `obeying::run` meets its contract: what the step left is what its order names, and what it shows is printed. Assumes nothing.
use Rattle.obeying.proofs.Laws.{seen_lent, ran}
use Rattle.obeying.proofs.run.Goals as goal

pub returns : goal.returns
returns c = ran c.args.o c.args.s _ c.take_step-t.ensures (seen_lent c.args.o c.args.bytes.now c.args.script.now c.args.block.now c.args.array.now _ _ _ c.requires.2) c.show-p.ensures c.after_step.ensures
