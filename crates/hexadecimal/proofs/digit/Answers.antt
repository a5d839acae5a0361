-- `hexadecimal::digit` meets its contract: the two cases are the definition's. Assumes nothing.
use mathlib.Core.Path.{refl}
use Prim.Native.Nat.{◌%◌}
use borrow.Author.Tests.{lt-ltb, le-ltb}
use Rattle.text.specs.Hexadecimal.{digit_of}
use Rattle.hexadecimal.proofs.digit.Goals as goal

pub returns-then-d-lt10 : goal.returns-then-d-lt10
unfolding digit_of
returns-then-d-lt10 c = rw (lt-ltb (c.args.n % 16) 10 c.if-d-lt10.true) refl

pub returns-else-d-lt10 : goal.returns-else-d-lt10
unfolding digit_of
returns-else-d-lt10 c = rw (le-ltb (c.args.n % 16) 10 c.if-d-lt10.false) refl
