-- `settling::settle` meets its contract: where nothing changes on an idle chip, storing no operation stores the one that is there; else
-- `settle_in` does it.
-- Assumes nothing.
use mathlib.Core.Path.{◌≡◌, sym, ap, ◌∙◌}
use Rattle.registers.specs.declared.Operation.TheVariants.{Idle}
use Rattle.registers.specs.Fields.{with_operation}
use Rattle.control.specs.declared.Change.{Change}
use Rattle.control.specs.Rulings.{changed}
use Rattle.state.specs.Memory.{with_registers}
use Rattle.blocks.specs.Block.{decode_operation, decode_registers, decode_chip, encode_chip}
use Rattle.settling.proofs.settle.Goals as goal

pub returns-in-Nothing-Idle : goal.returns-in-Nothing-Idle
unfolding changed decode_registers
returns-in-Nothing-Idle c =
    let b = c.args.block.now in
    let e : decode_operation b ≡ Idle = sym c.requires ∙ c.in-Nothing-Idle.is-1 in
    c.rest.ensures
    ∙ (λ i. encode_chip (with_registers (decode_chip b) (with_operation (decode_registers b) (sym e i))))
    ∙ ap (λ (k : Change). encode_chip (with_registers (decode_chip b) (changed k (decode_registers b)))) (sym c.in-Nothing-Idle.is-0)
