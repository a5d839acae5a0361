-- `obeying::lend` meets its contract: the parts lent come back as the first parts. Assumes nothing.
use native.Mathlib.Omega.{arith}
use mathlib.Core.Path.{refl, ap}
use mathlib.Core.List.{List}
use lib.ListN.{length, take}
use Prim.Native.Nat.{ℕ}
use Rattle.obeying.specs.Orders.{seen_on}
use Rattle.obeying.specs.Desk.{desk_of}
use Rattle.obeying.proofs.Laws.{lent, lends_all, part_of_lem}
use Rattle.obeying.proofs.lend.Goals as goal

pub run-requires : goal.run-requires
run-requires c = (c.requires.0.text, c.requires.1, lends_all c.args.o (length c.args.bytes.now) c.lengths-l.ensures.0 c.count-n.ensures.0.1 (omega (arith, c.count-j.ensures.0.1, c.count-j.ensures.1, c.requires.0.junk, c.lengths-l.ensures.1)) (omega (arith, c.count-g.ensures.0.1, c.count-g.ensures.1, c.requires.0.log, c.lengths-l.ensures.2)) (omega (arith, c.count-u.ensures.0.1, c.count-u.ensures.1, c.requires.0.out, c.lengths-l.ensures.3)))

pub returns : goal.returns
returns c = lent c.args.o.command (seen_on c.args.o c.args.bytes.now c.args.script.now c.args.block.now (take c.args.s.size c.args.array.now)) (desk_of c.args.s c.args.block.now c.args.array.now c.args.log.now c.args.out.now) _ _ _ refl (ap (λ (xs : List ℕ). seen_on c.args.o c.args.bytes.now c.args.script.now c.args.block.now xs) (part_of_lem c.args.s.size c.args.array.now c.count-n.ensures.1)) c.run.ensures
