-- `geometry::remainder` meets its contract: the divisor in the code is d, and a remainder is below its divisor.
-- Assumes nothing.
use mathlib.Core.Path.{◌≡◌, refl, subst}
use Prim.Native.Nat.{ℕ, ◌%◌, ◌<◌}
use native.Mathlib.Nat.{mod-lt}
use Rattle.geometry.proofs.remainder.Goals as goal

below : (n d k : ℕ) → 0 < d → d ≡ k → (n % k ≡ n % d) × (n % k < d)
below n d k z e = subst (λ (m : ℕ). (n % m ≡ n % d) × (n % m < d)) e (refl, mod-lt n z)

pub returns-in-264 : goal.returns-in-264
returns-in-264 c = below _ _ 264 c.requires c.in-264.is

pub returns-in-512 : goal.returns-in-512
returns-in-512 c = below _ _ 512 c.requires c.in-512.is

pub returns-in-256 : goal.returns-in-256
returns-in-256 c = below _ _ 256 c.requires c.in-256.is

pub returns-in-4096 : goal.returns-in-4096
returns-in-4096 c = below _ _ 4096 c.requires c.in-4096.is

pub returns-in-128 : goal.returns-in-128
returns-in-128 c = below _ _ 128 c.requires c.in-128.is

pub returns-in_default : goal.returns-in_default
returns-in_default c = below _ _ _ c.requires refl
