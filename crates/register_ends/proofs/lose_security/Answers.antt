-- `register_ends::lose_security` meets its contract: 64 junk bytes take the place of 64 (`junk-over`).
-- Assumes nothing.
use mathlib.Core.Path.{◌≡◌, ◌∙◌, ap}
use Prim.Native.Nat.{◌*◌, ◌+◌, ◌≤◌}
use native.Mathlib.Omega.{arith}
use lib.ListN.{length, length-take, length-drop}
use borrow.Author.Rules.{rules}
use Rattle.registers.specs.Fields.{with_user}
use Rattle.control.proofs.Steps.{junk-over}
use Rattle.register_ends.proofs.lose_security.Goals as goal

pub copy-requires : goal.copy-requires
copy-requires c =
    let m : length c.args.r.user ≡ 64 = search rules in
    simp (length-take, length-drop) (omega (arith, m, c.requires))

pub returns : goal.returns
returns c =
    let s = c.args in
    let m : length s.r.user ≡ 64 = search rules in
    let l : 2 * s.g.size + 64 ≤ length s.junk.now = omega (arith, c.requires) in
    c.with_user.ensures ∙ ap (with_user s.r) (c.copy.ensures ∙ junk-over s.junk.now s.r.user (2 * s.g.size) 64 l m)
