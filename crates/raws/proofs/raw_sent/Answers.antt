-- `raws::raw_sent` meets its contract. Assumes nothing.
use Rattle.runs.proofs.Raws.{raw_taken, raw-sent, raw-fits, raw-cut}
use Rattle.raws.proofs.raw_sent.Goals as goal

pub exchange-requires : goal.exchange-requires
exchange-requires c =
    let a = c.args in
    let k = raw_taken a.frame.now a.script.now a.junk.now a.log.now a.reply.now a.block.now a.array.now a.g c.requires.0 c.requires.1 in
    (c.requires.0, k.0, k.1)

pub cut-requires : goal.cut-requires
cut-requires c =
    let a = c.args in
    raw-fits a.frame.now a.script.now a.junk.now a.log.now a.reply.now a.block.now a.array.now a.g c.requires.0 c.requires.1 _ _ _ _ _ c.exchange.ensures.0 c.byte_or-b.ensures c.if-b-eq2.true

pub returns-then-b-eq2 : goal.returns-then-b-eq2
returns-then-b-eq2 c =
    let a = c.args in
    raw-cut a.frame.now a.script.now a.junk.now a.log.now a.reply.now a.block.now a.array.now a.g c.requires.0 c.requires.1 _ _ _ _ _ c.exchange.ensures.0 c.byte_or-b.ensures c.if-b-eq2.true _ _ c.cut.ensures.0 c.cut.ensures.1

pub returns : goal.returns
returns c =
    let a = c.args in
    raw-sent a.frame.now a.script.now a.junk.now a.log.now a.reply.now a.block.now a.array.now a.g c.requires.0 c.requires.1 _ _ _ _ _ c.exchange.ensures.0 c.byte_or-b.ensures c.if-b-eq2.false c.exchange.ensures.1
