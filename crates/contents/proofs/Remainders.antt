-- The junk byte by remainders: what is left out of each number is a multiple of 256.
-- Assumes nothing.
use mathlib.Core.Path.{◌≡◌, sym, ap, ◌∙◌}
use Prim.Native.Nat.{ℕ, ◌+◌, ◌*◌, ◌/◌, ◌%◌}
use native.Mathlib.Nat.{add-mul-mod_self_left}
use native.Mathlib.Omega.{arith}
use Rattle.contents.specs.Junk.{junk_byte}

pub junk-low : (seed i : ℕ) → (seed % 256 * 7 + i % 256 * 13 + i / 256 % 256 * 31) % 256 ≡ junk_byte seed i
unfolding junk_byte
junk-low seed i =
    let e : seed * 7 + i * 13 + i / 256 * 31 ≡ seed % 256 * 7 + i % 256 * 13 + i / 256 % 256 * 31 + 256 * (seed / 256 * 7 + i / 256 * 13 + i / 256 / 256 * 31) = omega arith in
    sym (ap (λ (k : ℕ). k % 256) e
    ∙ add-mul-mod_self_left (seed % 256 * 7 + i % 256 * 13 + i / 256 % 256 * 31) 256 (seed / 256 * 7 + i / 256 * 13 + i / 256 / 256 * 31))
