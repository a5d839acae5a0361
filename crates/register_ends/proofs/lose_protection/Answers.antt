-- `register_ends::lose_protection` meets its contract: as many junk bytes as the register has take its place (`junk-over`).
-- Assumes nothing.
use mathlib.Core.Path.{◌≡◌, sym, ◌∙◌, ap}
use Prim.Native.Nat.{◌*◌, ◌+◌, ◌≤◌}
use native.Mathlib.Omega.{arith}
use lib.ListN.{length, length-take, length-drop}
use Rattle.geometry.specs.Parts.{register_room}
use borrow.Author.Rules.{rules}
use Rattle.registers.specs.Fields.{with_protection}
use Rattle.control.proofs.Steps.{junk-over}
use Rattle.register_ends.proofs.lose_protection.Goals as goal

pub copy-requires : goal.copy-requires
copy-requires c =
    let m : length c.args.r.protection ≡ register_room = search rules in
    simp (length-take, length-drop) (omega (arith, m, c.requires.0, c.requires.1))

pub returns : goal.returns
returns c =
    let s = c.args in
    let m : length s.r.protection ≡ register_room = search rules in
    let l : 2 * s.g.size + s.g.register ≤ length s.junk.now = omega (arith, c.requires.0, c.requires.1) in
    c.with_protection.ensures
    ∙ ap (with_protection s.r)
    (c.copy.ensures ∙ junk-over s.junk.now s.r.protection (2 * s.g.size) s.g.register l (m ∙ sym c.requires.0))
