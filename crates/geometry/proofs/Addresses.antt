-- Addresses: what a page's first number and the bytes of a number read as, by division.
-- Assumes nothing.
use Prim.Native.Nat.{ℕ, ◌+◌, ◌*◌, ◌/◌, ◌%◌, ◌<◌}
use native.Mathlib.Nat.{mod-lt, mod-eq_of_lt, mul-div_cancel_left, mul-mod_right, zero-mod}
use native.Mathlib.Omega.{arith}
use mathlib.Core.List.{List, ◌∷◌}
use mathlib.Core.Path.{◌≡◌}
use Rattle.geometry.specs.declared.Geometry.{Geometry}
use Rattle.geometry.specs.Parts.{address_at, page_at, byte_at, page_start}
use Rattle.geometry.proofs.Pages.{page_within}

module _ (g : Geometry) where
  -- an address names a page of the part
  pub page_named_lem : (n : ℕ) → 0 < g.pages → page_at g n < g.pages
  unfolding page_at
  page_named_lem n l = mod-lt (n / g.field) l

  -- .. and a byte of a page
  pub byte-named : (n : ℕ) → 0 < g.size → byte_at g n < g.size
  unfolding byte_at
  byte-named n l = mod-lt (n % g.field) l

  -- .. and so a byte of the array
  pub address-within : (n : ℕ) → 0 < g.pages → 0 < g.size → page_start g (page_at g n) + byte_at g n < g.pages * g.size
  address-within n p s = omega (arith, page_within g (page_at g n) (page_named_lem n p), byte-named n s)

  -- `field` times a page's number names that page
  pub page_address : (page : ℕ) → page < g.pages → 0 < g.field → page_at g (g.field * page) ≡ page
  unfolding page_at
  page_address page l f = rw (mul-div_cancel_left page f) (mod-eq_of_lt l)

  -- .. and its byte 0
  pub byte-address : (page : ℕ) → byte_at g (g.field * page) ≡ 0
  unfolding byte_at
  byte-address page = rw mul-mod_right (zero-mod g.size)

-- the three bytes of a number, highest first, make it again
pub address-bytes : (x n : ℕ) (rest : List ℕ) → n < 16777216 → address_at (x ∷ n / 65536 % 256 ∷ n / 256 % 256 ∷ n % 256 ∷ rest) 1 ≡ n
unfolding address_at
address-bytes x n rest l = omega arith
