-- `inputs::write_out` meets its contract: what waited is written, and all else stays. Assumes nothing.
use mathlib.Core.Path.{refl}
use Rattle.inputs.proofs.Laws.{output_kept}
use Rattle.inputs.proofs.write_out.Goals as goal

pub returns : goal.returns
returns c = output_kept c.args.r c.flush-o.ensures c.with_output.ensures refl
