-- `outline::run` meets its contract: the input is what was read, and at its end nothing waits. Assumes nothing.
use mathlib.Core.Path.{refl, ap}
use mathlib.Core.Bool.{Bool}
use Rattle.outline.proofs.Laws.{starts, said}
use Rattle.outline.proofs.run.Goals as goal

pub returns : goal.returns
returns c =
    let r = c.args.room.now in
    said (starts {block = c.start.new.block} {array = c.start.new.array} c.args.text.now c.args.line.now (c.start.ensures.0 r.log r.out) c.start.ensures.1 refl) c.read_all-i.ensures c.end_input-t.ensures c.write_out-w.ensures.0
    (ap (λ (u : Bool). record { unread = u; unwritten = c.write_out-w.result.session.output.failed; read = c.read_all-i.result.read; written = c.write_out-w.result.session.output.written }) c.is_unread.ensures)
