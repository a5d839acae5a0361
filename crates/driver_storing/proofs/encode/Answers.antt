-- `driver_storing::encode` meets its contract: the head and the eight words are stored one behind the other. Assumes nothing.
use mathlib.Core.Path.{ap, ◌∙◌}
use Prim.Native.Nat.{ℕ}
use Rattle.slices.specs.Lists.{splice}
use Rattle.slices.specs.Words.{word_bytes}
use Rattle.driver_storing.proofs.Stored.{all-stored}
use Rattle.driver_storing.proofs.encode.Goals as goal

pub returns : goal.returns
returns c =
    all-stored c.args.d c.args.block.now c.told-block
    c.put_head.ensures
    c.put_number.ensures
    c.put_number-2.ensures
    c.put_number-3.ensures
    c.put_number-4.ensures
    c.put_number-5.ensures
    (c.put_number-6.ensures ∙ ap (λ (n : ℕ). splice 48 (word_bytes n) c.put_number-5.new.block) c.days_of-first.ensures.first)
    (c.put_number-7.ensures ∙ ap (λ (n : ℕ). splice 56 (word_bytes n) c.put_number-6.new.block) c.days_of-first.ensures.last)
    c.put_number-8.ensures
