-- `memory::reply_repeated` meets its contract: the lead comes back as FFh and all behind it as the byte. Assumes nothing.
use mathlib.Core.Path.{sym, ◌∙◌}
use lib.Seq.{length-take-le}
use Rattle.slices.proofs.Laws.{tabulate_const}
use Rattle.memory.proofs.Lent.{led}
use Rattle.memory.proofs.reply_repeated.Goals as goal

pub slice_bounds-fill-end-2 : goal.slice_bounds-fill-end-2
slice_bounds-fill-end-2 c = sym (length-take-le c.args.lead c.args.reply.now c.requires)

pub returns : goal.returns
returns c =
    let a = c.args in
    led a.lead a.reply.now c.fill.new.part c.fill-2.new.part (λ _. a.value) c.requires c.fill.ensures (c.fill-2.ensures ∙ sym (tabulate_const _ a.value))
