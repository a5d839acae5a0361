-- `text::scans::leading` meets its contract: the first byte that does not pass is the first that the definition stops at. Assumes nothing.
use Rattle.std.proofs.Common.{rules, ◌≡◌, ℕ, true, false, ◌<◌, arith, sym}
use Rattle.std.proofs.lemmas.Iterator.{IsFirst-from_position, YieldsList-from_slice}
use Rattle.text.proofs.Tests.{leading-first, leading-none}
use Rattle.text.proofs.scans.leading.Goals as goal

pub returns-in-Some-clause-value : goal.returns-in-Some-clause-value
returns-in-Some-clause-value g c = λ p h.
    let xs = c.args.bytes.now in
    let first =
    IsFirst-from_position _ _ c.position.result (λ (x : ℕ). x < 256 → p x ≡ false) (λ (x : ℕ). x < 256 → p x ≡ true)
    c.position.ensures.ran (YieldsList-from_slice xs cc) (λ x q k l. grind (arith, h)) (λ x q k. (search rules, λ l. grind (arith, h))) in
    let here = rw c.in-Some.is at first in
    sym (leading-first p xs c.in-Some.i here.0 (λ k l. here.2 k 0 (omega arith) l (search rules)) (here.1 0 (search rules)))

pub returns-clause-value : goal.returns-clause-value
returns-clause-value g c = λ p h.
    let xs = c.args.bytes.now in
    let first =
    IsFirst-from_position _ _ c.position.result (λ (x : ℕ). x < 256 → p x ≡ false) (λ (x : ℕ). x < 256 → p x ≡ true)
    c.position.ensures.ran (YieldsList-from_slice xs cc) (λ x q k l. grind (arith, h)) (λ x q k. (search rules, λ l. grind (arith, h))) in
    let none = rw c.in-None.is at first in
    sym (leading-none p xs (λ k l. none k 0 (omega arith) l (search rules)))
