-- `settling::rest` meets its contract: marks and compare bit are stored anew, no operation with them, and the rest lies where it lay
-- (`marked`).
-- Assumes nothing.
use mathlib.Core.Path.{ap, ◌∙◌}
use Rattle.registers.specs.declared.Operation.TheVariants.{Idle}
use Rattle.control.specs.Rulings.{changed}
use Rattle.block_parts.specs.declared.Flags.{Flags}
use Rattle.blocks.specs.Block.{decode_registers, decode_chip, encode_chip}
use Rattle.blocks.proofs.Settled.{settled_chip}
use Rattle.settling.proofs.Marked.{marked}
use Rattle.settling.proofs.rest.Goals as goal

pub returns : goal.returns
unfolding changed decode_chip decode_registers
returns c =
    let b = c.args.block.now in
    let f = c.flags_in-flags in
    marked b f.result Idle c.told-block c.from.ensures c.put_idle.ensures
    ∙ ap (λ (m : Flags). encode_chip (settled_chip b m.used m.protect m.wp m.deep Idle)) f.ensures
