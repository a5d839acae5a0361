-- `hexadecimal::unhex` meets its contract: as many bytes as `hex` counts are stored, and none where it counts none. Assumes nothing.
use mathlib.Core.Path.{◌≡◌, ap}
use native.Mathlib.Omega.{arith}
use Rattle.text.specs.Hexadecimal.{count_of}
use Rattle.hexadecimal.proofs.Pairs.{unhexed, unhexed_none}
use Rattle.hexadecimal.proofs.unhex.Goals as goal

pub store-requires : goal.store-requires
store-requires c =
    let x = c.hex in
    let e : count_of x.result ≡ c.in-Ok.n = ap count_of c.in-Ok.is in
    omega (arith, x.ensures.1)

pub returns-in-Ok : goal.returns-in-Ok
returns-in-Ok c =
    let a = c.args in
    let x = c.hex in
    let s = c.store in
    let e : count_of x.result ≡ c.in-Ok.n = ap count_of c.in-Ok.is in
    unhexed a.word.now c.in-Ok.n (omega (arith, x.ensures.1)) x.result a.out.now s.new.out s.result
    x.ensures.0 c.in-Ok.is s.ensures.0 s.ensures.1

pub returns-in-Err : goal.returns-in-Err
returns-in-Err c =
    let a = c.args in
    let x = c.hex in
    unhexed_none a.word.now x.result a.out.now x.ensures.0 (ap count_of c.in-Err.is)
