-- A call's promise goes by what the call is told, however that was made.
-- Assumes nothing.
use mathlib.Core.Path.{◌≡◌, subst}
use mathlib.Core.List.{List}
use Prim.Native.Nat.{ℕ}
use Rattle.slots.specs.declared.Detail.{Detail}
use Rattle.slots.specs.Plans.{Asked}
use Rattle.slots.specs.Lists.{call}
use Rattle.runs.specs.declared.Done.{Done}
use Rattle.runs.specs.Promises.{Promise}

pub told : (a : Asked) (script payload junk log lent held xs : List ℕ) {kept ys l b : List ℕ} {r : Done} {d e : Detail} → d ≡ e
    → Promise (call a d script payload junk log lent) held xs r kept ys l b → Promise (call a e script payload junk log lent) held xs r kept ys l b
told a script payload junk log lent held xs {kept} {ys} {l} {b} {r} q p =
    subst (λ (d : Detail). Promise (call a d script payload junk log lent) held xs r kept ys l b) q p
