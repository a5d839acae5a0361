-- Which sectors are listed, locked and sealed, by the bits that serve them: OR sets bits and clears none.
-- Assumes nothing.
use mathlib.Core.Path.{◌≡◌, refl, sym, ap, ◌∙◌}
use mathlib.Core.Bool.{Bool, true, false, cond, not, ◌||◌, ◌&&◌}
use mathlib.Core.List.{List, [], ◌∷◌}
use Prim.Native.Nat.{ℕ, zero, suc, ◌+◌, ◌-◌, ◌/◌, ◌%◌, ◌<◌, ◌≤◌}
use native.Mathlib.Nat.{le_refl}
use native.Mathlib.Omega.{arith}
use lib.ListN.{length, get_or, take, set, length-set}
use lib.Seq.{get_or-take, get_or-set_same}
use lib.Dec.{eqb, ltb}
use lib.Bits.{bit_or, or_add_and, and_le_l, and_le_r, or_shr, or_mod}
use borrow.Author.Tests.{eqb-false, ne_eqb, lt-ltb, not-true}
use Rattle.geometry.specs.declared.Geometry.{Geometry}
use Rattle.geometry.specs.Parts.{register_room}
use Rattle.registers.specs.declared.Registers.{Registers}
use Rattle.registers.specs.Protection.{register_of, Roomed, bits_of, has_bits, guarded, sealed, mask_of, locked_bytes}

-- the bytes of a register are the first in its room
pub byte_of : (g : Geometry) (bytes : List ℕ) (k : ℕ) → k < g.register → get_or (register_of g bytes) k 0 ≡ get_or bytes k 0
byte_of g bytes k l = get_or-take g.register bytes k 0 l

-- a sector after 0b has a byte of its own
pub bits_high : (g : Geometry) (bytes : List ℕ) (s : ℕ) → 2 ≤ s → s ≤ g.register → bits_of g bytes s ≡ get_or bytes (s - 1) 0
unfolding bits_of
bits_high g bytes zero l h = absurd (omega arith)
bits_high g bytes (suc zero) l h = absurd (omega arith)
bits_high g bytes (suc (suc j)) l h =
    let e : suc j ≡ suc (suc j) - 1 = omega arith in byte_of g bytes (suc j) (omega arith) ∙ ap (λ (k : ℕ). get_or bytes k 0) e

pub mask_high : (s : ℕ) → 2 ≤ s → mask_of s ≡ 255
unfolding mask_of
mask_high zero l = absurd (omega arith)
mask_high (suc zero) l = absurd (omega arith)
mask_high (suc (suc j)) l = refl

-- ---- sealed
pub protected_locked : (g : Geometry) (r : Registers) (s : ℕ) → has_bits g r.lockdown s ≡ true → sealed g r s ≡ true
unfolding sealed
protected_locked g r s e = ap (λ (b : Bool). b || (has_bits g r.protection s && guarded r)) e

pub protected_listed : (g : Geometry) (r : Registers) (s : ℕ) → has_bits g r.lockdown s ≡ false → has_bits g r.protection s ≡ true → sealed g r s ≡ guarded r
unfolding sealed
protected_listed g r s e f =
    ap (λ (b : Bool). b || (has_bits g r.protection s && guarded r)) e ∙ ap (λ (b : Bool). b && guarded r) f

pub protected_free : (g : Geometry) (r : Registers) (s : ℕ) → has_bits g r.lockdown s ≡ false → has_bits g r.protection s ≡ false → sealed g r s ≡ false
unfolding sealed
protected_free g r s e f =
    ap (λ (b : Bool). b || (has_bits g r.protection s && guarded r)) e ∙ ap (λ (b : Bool). b && guarded r) f

-- ---- locking
pub length-locked : (g : Geometry) (bytes : List ℕ) (s : ℕ) → length (locked_bytes g bytes s) ≡ length bytes
unfolding locked_bytes
length-locked g bytes s = go (ltb (s - 1) g.register)
  where
    set-byte : List ℕ
    set-byte = set bytes (s - 1) (bit_or (get_or bytes (s - 1) 0) (mask_of s))

    go : (b : Bool) → length (cond b set-byte bytes) ≡ length bytes
    go true = length-set bytes (s - 1) (bit_or (get_or bytes (s - 1) 0) (mask_of s))
    go false = refl

or_le_l : (a b : ℕ) → a ≤ bit_or a b
or_le_l a b = omega (arith, or_add_and a b, and_le_r a b)

or_le_r : (a b : ℕ) → b ≤ bit_or a b
or_le_r a b = omega (arith, or_add_and a b, and_le_l a b)

some_bits : (g : Geometry) (bytes : List ℕ) (s : ℕ) → 0 < bits_of g bytes s → has_bits g bytes s ≡ true
unfolding has_bits
some_bits g bytes s l = ap not (ne_eqb (bits_of g bytes s) 0 (λ e. omega arith))

bits_some : (g : Geometry) (bytes : List ℕ) (s : ℕ) → has_bits g bytes s ≡ true → 0 < bits_of g bytes s
unfolding has_bits
bits_some g bytes s e = let h = eqb-false (bits_of g bytes s) 0 (not-true (eqb (bits_of g bytes s) 0) e) in omega (arith, h)

-- the byte that serves the sector
locked-byte : (g : Geometry) (bytes : List ℕ) (s : ℕ) → s < register_room + 1 → Roomed g → length bytes ≡ register_room → get_or (locked_bytes g bytes s) (s - 1) 0 ≡ bit_or (get_or bytes (s - 1) 0) (mask_of s)
unfolding locked_bytes
locked-byte g bytes s l r e =
    ap (λ (b : Bool). get_or (cond b (set bytes (s - 1) (bit_or (get_or bytes (s - 1) 0) (mask_of s))) bytes) (s - 1) 0) (lt-ltb (s - 1) g.register (omega arith))
    ∙ get_or-set_same bytes (s - 1) (bit_or (get_or bytes (s - 1) 0) (mask_of s)) 0 (omega arith)

-- a locked sector is locked
pub locked_bits : (g : Geometry) (bytes : List ℕ) (s : ℕ) → s < register_room + 1 → Roomed g → length bytes ≡ register_room → has_bits g (locked_bytes g bytes s) s ≡ true
unfolding bits_of mask_of
locked_bits g bytes zero l r e =
    some_bits g (locked_bytes g bytes 0) 0
    (omega (arith, ap (λ (x : ℕ). x / 64) (byte_of g (locked_bytes g bytes 0) 0 (omega arith) ∙ locked-byte g bytes 0 l r e), or_shr (get_or bytes 0 0) 192 6, or_le_r (get_or bytes 0 0 / 64) 3))
locked_bits g bytes (suc zero) l r e =
    some_bits g (locked_bytes g bytes 1) 1
    (omega (
      arith,
      ap (λ (x : ℕ). x / 16 % 4) (byte_of g (locked_bytes g bytes 1) 0 (omega arith) ∙ locked-byte g bytes 1 l r e),
      ap (λ (x : ℕ). x % 4) (or_shr (get_or bytes 0 0) 48 4),
      or_mod (get_or bytes 0 0 / 16) 3 2,
      or_le_r (get_or bytes 0 0 / 16 % 4) 3,
    ))
locked_bits g bytes (suc (suc j)) l r e =
    some_bits g (locked_bytes g bytes (suc (suc j))) (suc (suc j))
    (omega (
      arith,
      bits_high g (locked_bytes g bytes (suc (suc j))) (suc (suc j)) (omega arith) (omega arith),
      locked-byte g bytes (suc (suc j)) l r e,
      or_le_r (get_or bytes (suc (suc j) - 1) 0) 255,
    ))

-- a sector's bits, as functions of its byte, do not fall under OR
high_grows : (x m : ℕ) → x / 64 ≤ bit_or x m / 64
high_grows x m = omega (arith, or_shr x m 6, or_le_l (x / 64) (m / 64))

low_grows : (x m : ℕ) → x / 16 % 4 ≤ bit_or x m / 16 % 4
low_grows x m =
    omega (arith, ap (λ (y : ℕ). y % 4) (or_shr x m 4), or_mod (x / 16) (m / 16) 2, or_le_l (x / 16 % 4) (m / 16 % 4))

byte_grows : (g : Geometry) (f : ℕ → ℕ) → ((x m : ℕ) → f x ≤ f (bit_or x m)) → (bytes : List ℕ) (s k : ℕ) → f (get_or (register_of g bytes) k 0) ≤ f (get_or (register_of g (locked_bytes g bytes s)) k 0)
unfolding locked_bytes
byte_grows g f h bytes s k = within g.register (ltb (s - 1) g.register)
  where
    go : (l : List ℕ) (i j : ℕ) → f (get_or l i 0) ≤ f (get_or (set l j (bit_or (get_or l j 0) (mask_of s))) i 0)
    go [] i j = le_refl (f (get_or [] i 0))
    go (x ∷ l) zero zero = h x (mask_of s)
    go (x ∷ l) (suc i) zero = le_refl (f (get_or l i 0))
    go (x ∷ l) zero (suc j) = le_refl (f x)
    go (x ∷ l) (suc i) (suc j) = go l i j

    any : (b : Bool) (i : ℕ) → f (get_or bytes i 0) ≤ f (get_or (cond b (set bytes (s - 1) (bit_or (get_or bytes (s - 1) 0) (mask_of s))) bytes) i 0)
    any true i = go bytes i (s - 1)
    any false i = le_refl (f (get_or bytes i 0))

    cut : (n : ℕ) (l m : List ℕ) → ((i : ℕ) → f (get_or l i 0) ≤ f (get_or m i 0)) → length l ≡ length m → (i : ℕ) → f (get_or (take n l) i 0) ≤ f (get_or (take n m) i 0)
    cut zero l m u e i = le_refl (f (get_or {A = ℕ} [] i 0))
    cut (suc n) [] [] u e i = le_refl (f (get_or {A = ℕ} [] i 0))
    cut (suc n) [] (y ∷ m) u e i = absurd (omega arith)
    cut (suc n) (x ∷ l) [] u e i = absurd (omega arith)
    cut (suc n) (x ∷ l) (y ∷ m) u e zero = u 0
    cut (suc n) (x ∷ l) (y ∷ m) u e (suc i) = cut n l m (λ k. u (suc k)) (omega arith) i

    within : (n : ℕ) (b : Bool) → f (get_or (take n bytes) k 0) ≤ f (get_or (take n (cond b (set bytes (s - 1) (bit_or (get_or bytes (s - 1) 0) (mask_of s))) bytes)) k 0)
    within n true = cut n bytes (set bytes (s - 1) (bit_or (get_or bytes (s - 1) 0) (mask_of s))) (any true) (sym (length-set bytes (s - 1) (bit_or (get_or bytes (s - 1) 0) (mask_of s)))) k
    within n false = le_refl (f (get_or (take n bytes) k 0))

bits_grow : (g : Geometry) (bytes : List ℕ) (s t : ℕ) → bits_of g bytes t ≤ bits_of g (locked_bytes g bytes s) t
unfolding bits_of
bits_grow g bytes s zero = byte_grows g (λ x. x / 64) high_grows bytes s 0
bits_grow g bytes s (suc zero) = byte_grows g (λ x. x / 16 % 4) low_grows bytes s 0
bits_grow g bytes s (suc (suc j)) = byte_grows g (λ x. x) or_le_l bytes s (suc j)

-- locking unlocks no sector
pub locked_keeps : (g : Geometry) (bytes : List ℕ) (s t : ℕ) → has_bits g bytes t ≡ true → has_bits g (locked_bytes g bytes s) t ≡ true
locked_keeps g bytes s t e =
    some_bits g (locked_bytes g bytes s) t (omega (arith, bits_some g bytes t e, bits_grow g bytes s t))
