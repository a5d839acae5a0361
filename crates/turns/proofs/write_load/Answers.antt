-- `turns::write_load` meets its contract: the four bytes are stored, and behind them the page.
-- Assumes nothing.
use Prim.Native.Nat.{ℕ, ◌+◌, ◌-◌, ◌≤◌}
use native.Mathlib.Omega.{arith}
use mathlib.Core.List.{List}
use mathlib.Core.Path.{◌≡◌, refl, sym, ap, ◌∙◌}
use lib.ListN.{length}
use Rattle.slices.specs.Lists.{tabulate, over}
use Rattle.slices.proofs.Laws.{length-tabulate}
use Rattle.slots.specs.declared.Step.TheVariants.{Load}
use Rattle.slots.specs.Driver.{loaded}
use Rattle.slots.proofs.Sent.{load_form}
use Rattle.worlds.specs.Turns.{holding_of}
use Rattle.turns.proofs.Frames.{behind}
use Rattle.turns.proofs.write_load.Goals as goal

pub returns : goal.returns
unfolding loaded
returns c =
    let a = c.args in
    let p = c.put_address in
    let h = holding_of a.d a.payload.now a.staged.now in
    let room : 4 + a.g.size ≤ length a.frame.now = omega (arith, c.requires.0.most, c.requires.2) in
    let page = tabulate a.g.size (loaded a.g a.d.kind h (Load a.page)) in
    let n : 4 + a.g.size - 4 ≡ a.g.size = omega arith in (
      refl,
      behind _ page a.frame.now _ _ (4 + a.g.size) refl (omega arith) room p.ensures
          (length-tabulate a.g.size (loaded a.g a.d.kind h (Load a.page)) ∙ sym n) c.load_page.ensures
          ∙ ap (λ (f : List ℕ). over f a.frame.now) (sym (load_form a.g a.d.kind h a.page)),
    )
