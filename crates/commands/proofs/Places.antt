-- Where a row stands in the table. `place_in` and `lookup_in` go down the rows by the same test, so the row at the place found is the row
-- looked up.
-- Assumes nothing.
use Rattle.std.specs.Prelude.{Option, Some}
use mathlib.Core.Path.{◌≡◌, refl, ap, ◌∙◌}
use mathlib.Core.Bool.{Bool, true, false, cond}
use mathlib.Core.List.{List, [], ◌∷◌}
use Prim.Native.Nat.{ℕ, suc, ◌<◌}
use native.Mathlib.Nat.{not-suc-le-zero, le_of_suc-le-suc}
use native.Mathlib.Omega.{arith}
use lib.ListN.{length, get_or}
use lib.Dec.{eqb}
use Rattle.commands.specs.declared.Command.{Command}
use Rattle.commands.specs.Table.{commands, row_at, row}
use Rattle.commands.specs.Decode.{place_in, place_of, lookup_in, lookup_of}
use Rattle.commands.specs.declared.Effect.TheVariants.{ReadPage}

pub row_count : length commands ≡ 31
unfolding commands
row_count = refl

-- one row, and what is known of the rest
there : (b : Bool) (c d : Command) (cs : List Command) (p : ℕ) (f : Option Command) → (p < length cs → Some (get_or cs p d) ≡ f)
    → cond b 0 (suc p) < suc (length cs) → Some (get_or (c ∷ cs) (cond b 0 (suc p)) d) ≡ cond b (Some c) f
there true c d cs p f e h = refl
there false c d cs p f e h = e (le_of_suc-le-suc h)

found : (cs : List Command) (op : ℕ) (d : Command) → place_in cs op < length cs → Some (get_or cs (place_in cs op) d) ≡ lookup_in cs op
unfolding place_in lookup_in
found [] op d h = absurd (not-suc-le-zero h)
found (c ∷ cs) op d h = there (eqb c.0 op) c d cs (place_in cs op) (lookup_in cs op) (found cs op d) h

-- ---- the table
pub found_row : (op i : ℕ) (c : Command) → i ≡ place_of op → i < 31 → c ≡ row_at i → Some c ≡ lookup_of op
unfolding place_of lookup_of row_at
found_row op i c e h r =
    ap Some r ∙ ap (λ (k : ℕ). Some (get_or commands k (row 0 0 ReadPage))) e ∙ found commands op (row 0 0 ReadPage) (omega (arith, row_count))
