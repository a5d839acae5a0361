-- `contents::bytes_of` meets its contract: a word within the line is the part that `unhex` reads, and all its bytes fit. Assumes nothing.
use mathlib.Core.Path.{refl}
use Rattle.contents.proofs.Bytes.{read_whole}
use native.Mathlib.Omega.{arith}
use Rattle.contents.proofs.bytes_of.Goals as goal

pub returns-then-start-end : goal.returns-then-start-end
returns-then-start-end c =
    let a = c.args in
    ((c.unhex.ensures.0, c.unhex.ensures.3), read_whole a.line.now a.out.now c.unhex.new.out a.word c.min-start.result c.min-end.result c.unhex.result c.min-start.ensures c.min-end.ensures c.unhex.ensures.1 c.unhex.ensures.2)

pub returns-else-start-end : goal.returns-else-start-end
returns-else-start-end c = ((omega arith, refl), λ w h. absurd (omega (arith, w.0, w.1, c.min-start.ensures, c.min-end.ensures, c.if-start-end.false)))
