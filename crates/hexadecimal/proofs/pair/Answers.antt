-- `hexadecimal::pair` meets its contract: both digits are worth what the definition says, and less than 16. Assumes nothing.
use Rattle.std.proofs.Common.{rules, ◌<◌, arith}
use Rattle.text.specs.Hexadecimal.{pair_of}
use Rattle.hexadecimal.proofs.Pairs.{nibble_short}
use Rattle.hexadecimal.proofs.pair.Goals as goal

pub overflow_mul-result : goal.overflow_mul-result
overflow_mul-result c = grind (arith, nibble_short)

pub overflow_add-result : goal.overflow_add-result
overflow_add-result c =
    let x : c.unwrap_or.result < 16 = grind (arith, nibble_short) in
    let y : c.unwrap_or-2.result < 16 = grind (arith, nibble_short) in
    omega arith

pub returns : goal.returns
unfolding pair_of
returns c = search rules
