-- `obeying::step` meets its contract: the words of the line make the bytes. Assumes nothing.
use native.Mathlib.Omega.{arith}
use Rattle.obeying.specs.Orders.{seen_in}
use Rattle.obeying.specs.Desk.{desk_in}
use Rattle.obeying.proofs.Laws.{words_seen, obeyed_seen}
use Rattle.obeying.proofs.step.Goals as goal

pub lend-requires : goal.lend-requires
lend-requires c = (record { array = omega arith; junk = omega arith; log = omega arith; out = omega arith; text = c.requires.0 }, c.requires.1)

pub returns : goal.returns
returns c =
    let d = desk_in c.args.s c.args.room.now in
    obeyed_seen c.args.o.command (seen_in c.args.o c.args.line.now d) d (words_seen c.args.o c.args.line.now d (c.bytes_of-m.ensures.1 c.requires.2.bytes (omega (arith, c.requires.2.short, c.buffer-bytes.ensures))) (c.bytes_of-k.ensures.1 c.requires.2.script (omega (arith, c.requires.2.short, c.buffer-script.ensures)))) c.lend.ensures
