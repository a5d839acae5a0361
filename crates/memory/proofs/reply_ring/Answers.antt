-- `memory::reply_ring` meets its contract: the lead comes back as FFh and all behind it as the bytes read. Assumes nothing.
use mathlib.Core.Path.{sym}
use lib.Seq.{length-take-le}
use Rattle.slices.specs.Lists.{ring_read}
use Rattle.memory.specs.Replies.{ring_data}
use Rattle.memory.proofs.Lent.{led}
use Rattle.memory.proofs.reply_ring.Goals as goal

pub slice_bounds-fill-end-2 : goal.slice_bounds-fill-end-2
slice_bounds-fill-end-2 c = sym (length-take-le c.args.lead c.args.reply.now c.requires.0)

pub returns : goal.returns
unfolding ring_read
returns c =
    let a = c.args in
    led a.lead a.reply.now c.fill.new.part c.ring_read.new.part (ring_data a.size a.start a.ring.now) c.requires.0 c.fill.ensures c.ring_read.ensures
