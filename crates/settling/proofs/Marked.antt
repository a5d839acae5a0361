-- A block in which marks, operation and compare bit were stored anew holds the chip that has them (`settled`), the compare bit as
-- `u8::from` makes it.
-- Assumes nothing.
use mir.Val.{bool_byte}
use mathlib.Core.Path.{◌≡◌, ap, ◌∙◌}
use mathlib.Core.List.{List, ◌++◌}
use Prim.Native.Nat.{ℕ}
use lib.ListN.{length, set, get_or}
use Rattle.slices.specs.Lists.{splice}
use Rattle.registers.specs.declared.Operation.{Operation}
use Rattle.blocks.specs.Block.{flag, head_of, head_bytes, flagged, data_bytes, encode_chip}
use Rattle.blocks.proofs.RoundTrip.{from_flag}
use Rattle.blocks.proofs.Settled.{settled_chip, settled}
use Rattle.block_parts.specs.declared.Flags.{Flags}

pub marked : (b : List ℕ) (f : Flags) (o : Operation) {n : ℕ} {z : List ℕ} → length b ≡ 765 → n ≡ bool_byte (flag (get_or b 764 0))
    → z ≡ splice 160 (head_bytes (flagged f.used f.protect f.wp f.deep) (head_of o) ++ data_bytes o) (set b 764 n)
    → z ≡ encode_chip (settled_chip b f.used f.protect f.wp f.deep o)
marked b f o l e h =
    settled b f.used f.protect f.wp f.deep o _ l
    (h ∙ ap (λ (m : ℕ). splice 160 (head_bytes (flagged f.used f.protect f.wp f.deep) (head_of o) ++ data_bytes o) (set b 764 m)) (e ∙ from_flag (flag (get_or b 764 0))))
