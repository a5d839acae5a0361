-- Sets of sectors, held as numbers: bit s is sector s. A number is its last bit and twice the rest, so what holds of its bits goes
-- by recursion on their place.
-- Assumes nothing.
use mathlib.Core.Path.{◌≡◌, refl, sym, ap, ◌∙◌}
use mathlib.Core.List.{[]}
use mathlib.Core.Bool.{Bool, true, false, cond, not}
use Prim.Native.Nat.{ℕ, zero, suc, ◌+◌, ◌-◌, ◌*◌, ◌/◌, ◌%◌, ◌^◌, ◌<◌, ◌≤◌}
use native.Mathlib.Nat.{add-zero, zero-add, zero-div, div-eq_of_lt, lt_of_lt_of_le, pow-suc}
use native.Mathlib.Numerals.{one-add}
use native.Mathlib.Omega.{arith}
use lib.Dec.{eqb}
use lib.Pow.{pow_mono, shr-shr}
use Rattle.std.specs.Int.{from_bool}
use Rattle.geometry.specs.declared.Geometry.{Geometry}
use Rattle.geometry.specs.Parts.{register_room}
use Rattle.geometry.specs.Sectors.{sector_count}
use Rattle.registers.specs.declared.Operation.TheVariants.{Idle}
use Rattle.registers.specs.declared.Registers.{Registers}
use Rattle.registers.specs.declared.Seals.{Seals}
use Rattle.registers.specs.Operations.{in_set}
use Rattle.registers.specs.Protection.{sealed, seals_of, unsealed_from, unsealed_set}

-- a number below 2 ^ n has none of the sectors from n on
pub in_beyond : (sectors n s : ℕ) → sectors < 2 ^ n → n ≤ s → in_set sectors s ≡ false
unfolding in_set
in_beyond sectors n s l h =
    ap (λ (m : ℕ). eqb (m % 2) 1) (div-eq_of_lt {n = sectors} {m = 2 ^ s} (lt_of_lt_of_le l (pow_mono h)))

-- the empty set has none
pub in_none : (s : ℕ) → in_set 0 s ≡ false
unfolding in_set
in_none s = ap (λ (m : ℕ). eqb (m % 2) 1) (zero-div (2 ^ s))

last : (b : Bool) (m : ℕ) → in_set (cond b 0 1 + 2 * m) 0 ≡ not b
unfolding in_set
last true m = let e : (0 + 2 * m) / 1 % 2 ≡ 0 = omega arith in ap (λ (k : ℕ). eqb k 1) e
last false m = let e : (1 + 2 * m) / 1 % 2 ≡ 1 = omega arith in ap (λ (k : ℕ). eqb k 1) e

half : (b : Bool) (m : ℕ) → (cond b 0 1 + 2 * m) / 2 ≡ m
half true m = omega arith
half false m = omega arith

rest : (b : Bool) (m k : ℕ) → in_set (cond b 0 1 + 2 * m) (suc k) ≡ in_set m k
unfolding in_set
rest b m k =
    let n : ℕ = cond b 0 1 + 2 * m in
    ap (λ (j : ℕ). eqb (n / 2 ^ j % 2) 1) (sym (one-add k))
    ∙ ap (λ (j : ℕ). eqb (j % 2) 1) (sym (shr-shr n 1 k) ∙ ap (λ (j : ℕ). j / 2 ^ k) (half b m))

from_has : (g : Geometry) (r : Registers) (n s k : ℕ) → k < n → in_set (unsealed_from g r n s) k ≡ not (sealed g r (s + k))
unfolding unsealed_from
from_has g r zero s k l = absurd (omega arith)
from_has g r (suc n) s zero l = last (sealed g r s) (unsealed_from g r n (s + 1)) ∙ ap (λ (t : ℕ). not (sealed g r t)) (sym (add-zero s))
from_has g r (suc n) s (suc k) l =
    let e : s + 1 + k ≡ s + suc k = omega arith in
    rest (sealed g r s) (unsealed_from g r n (s + 1)) k ∙ from_has g r n (s + 1) k (omega arith) ∙ ap (λ (t : ℕ). not (sealed g r t)) e

bit : (b : Bool) → cond b 0 1 ≤ 1
bit true = omega arith
bit false = omega arith

-- n sectors make a number below 2 ^ n
pub from_small : (g : Geometry) (r : Registers) (n s : ℕ) → unsealed_from g r n s < 2 ^ n
unfolding unsealed_from
from_small g r zero s = omega arith
from_small g r (suc n) s = omega (arith, pow-suc 2 n, from_small g r n (s + 1), bit (sealed g r s))

-- .. and those of as many sectors as a register serves are below 2 ^ 17
pub from_most : (g : Geometry) (r : Registers) (n s : ℕ) → n ≤ register_room + 1 → unsealed_from g r n s < 131072
from_most g r n s l = omega (arith, from_small g r n s, pow_mono {i = n} {j = 17} l)

-- one sector more, before the others
pub from_more : (g : Geometry) (r : Registers) (n s : ℕ) → 0 < s → s ≤ n
    → unsealed_from g r (n - (s - 1)) (s - 1) ≡ cond (sealed g r (s - 1)) 0 1 + 2 * unsealed_from g r (n - s) s
unfolding unsealed_from
from_more g r n s l h =
    let e : n - (s - 1) ≡ suc (n - s) = omega arith in
    let f : s - 1 + 1 ≡ s = omega arith in
    ap (λ (m : ℕ). unsealed_from g r m (s - 1)) e ∙ ap (λ (t : ℕ). cond (sealed g r (s - 1)) 0 1 + 2 * unsealed_from g r (n - s) t) f

-- ---- a loop over the sectors from the last to the first
pub from_none : (g : Geometry) (r : Registers) (n : ℕ) → 0 ≡ unsealed_from g r (n - n) n
unfolding unsealed_from
from_none g r n = let e : 0 ≡ n - n = omega arith in ap (λ (k : ℕ). unsealed_from g r k n) e

from_test : (b : Bool) → from_bool (not b) ≡ cond {A = ℕ} b 0 1
from_test true = refl
from_test false = refl

pub from_next : (g : Geometry) (r : Registers) (n s m : ℕ) {b : Bool} {v : ℕ} → 0 < s → s ≤ n → b ≡ sealed g r (s - 1) → v ≡ from_bool (not b)
    → m ≡ unsealed_from g r (n - s) s → 2 * m + v ≡ unsealed_from g r (n - (s - 1)) (s - 1)
from_next g r n s m {b = b} l h p t e = omega (arith, from_more g r n s l h, t ∙ from_test b ∙ ap (λ (k : Bool). cond {A = ℕ} k 0 1) p)

pub from_all : (g : Geometry) (r : Registers) (n s m : ℕ) → n ≡ sector_count g → s ≤ 0 → m ≡ unsealed_from g r (n - s) s → m ≡ unsealed_set g r
unfolding unsealed_set
from_all g r n s m e l h =
    let d : n - s ≡ sector_count g = omega arith in
    let z : s ≡ 0 = omega arith in
    h ∙ ap (λ (k : ℕ). unsealed_from g r k s) d ∙ ap (λ (t : ℕ). unsealed_from g r (sector_count g) t) z

-- ---- what is not among the seals does not matter

-- registers with these seals and nothing else
abbrev pub bare : Seals → Registers
bare s =
    record {
      protection = s.protection;
      lockdown = s.lockdown;
      user = [];
      factory = [];
      used = false;
      protect = s.protect;
      wp = s.wp;
      deep = false;
      operation = Idle;
    }

from_alike : (g : Geometry) (r : Registers) (n s : ℕ) → unsealed_from g (bare (seals_of r)) n s ≡ unsealed_from g r n s
unfolding unsealed_from sealed
from_alike g r zero s = refl
from_alike g r (suc n) s = ap (λ (m : ℕ). cond (sealed g r s) 0 1 + 2 * m) (from_alike g r n (s + 1))

pub set_alike : (g : Geometry) (r : Registers) (z : Seals) → seals_of r ≡ z → unsealed_set g (bare z) ≡ unsealed_set g r
unfolding unsealed_set
set_alike g r z e = ap (λ (x : Seals). unsealed_set g (bare x)) (sym e) ∙ from_alike g r (sector_count g) 0

-- ---- the sectors that a Chip Erase finds unsealed
pub unsealed-small : (g : Geometry) (r : Registers) → unsealed_set g r < 2 ^ sector_count g
unfolding unsealed_set
unsealed-small g r = from_small g r (sector_count g) 0

-- the set has the part's sectors that are not sealed
pub unsealed-has : (g : Geometry) (r : Registers) (s : ℕ) → s < sector_count g → in_set (unsealed_set g r) s ≡ not (sealed g r s)
unfolding unsealed_set
unsealed-has g r s l = from_has g r (sector_count g) 0 s l ∙ ap (λ (t : ℕ). not (sealed g r t)) (zero-add s)
