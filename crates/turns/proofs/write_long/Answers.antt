-- `turns::write_long` meets its contract: the four bytes are stored, and behind them zeros.
-- Assumes nothing.
use Prim.Native.Nat.{ℕ, ◌-◌}
use mathlib.Core.Path.{refl, ap, ◌∙◌}
use lib.ListN.{replicate, length-replicate}
use Rattle.turns.proofs.Frames.{behind, rest-length}
use Rattle.turns.proofs.write_long.Goals as goal

pub returns : goal.returns
returns c =
    let a = c.args in
    let p = c.put_address in
    let l = rest-length _ a.frame.now _ a.size c.requires.0 c.requires.1 p.ensures in (
      refl,
      behind _ (replicate (a.size - 4) 0) a.frame.now _ _ a.size refl c.requires.0 c.requires.1 p.ensures (length-replicate (a.size - 4) 0)
          (c.fill.ensures ∙ ap (λ (n : ℕ). replicate n 0) l),
    )
