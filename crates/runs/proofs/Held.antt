-- The part that the code looks up, by the array's length and the operation that it reads in the block, is that of the state which both hold.
-- Assumes nothing.
use Rattle.geometry.specs.declared.Geometry.{Geometry}
use Rattle.std.specs.Prelude.{Option}
use mathlib.Core.Path.{◌≡◌, sym, ap, ◌∙◌}
use mathlib.Core.List.{List}
use Prim.Native.Nat.{ℕ}
use lib.ListN.{length}
use Rattle.registers.specs.declared.Operation.{Operation}
use Rattle.registers.specs.Operations.{placed}
use Rattle.state.specs.Outcomes.{part_in}
use Rattle.blocks.specs.Block.{decode_operation, decode_registers, decode_chip}
use Rattle.blocks.specs.Promises.{held_in}

pub part_held : (block xs : List ℕ) {o : Operation} {q p : Option Geometry} → o ≡ decode_operation block → q ≡ placed (length xs) o → q ≡ p → part_in (held_in block xs) ≡ p
unfolding decode_chip decode_registers
part_held block xs e f h = ap (placed (length xs)) (sym e) ∙ sym f ∙ h
