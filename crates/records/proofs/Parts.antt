-- A known part's pages hold a record's head, and eight of them are no longer than the bytes that the driver keeps of a slot; each page has an address.
-- Assumes nothing.
use Rattle.std.specs.Prelude.{Some}
use Prim.Native.Nat.{ℕ}
use native.Mathlib.Nat.{mul-le-mul_left}
use native.Mathlib.Omega.{arith}
use mathlib.Core.Path.{◌≡◌}
use Rattle.geometry.specs.declared.Geometry.{Geometry}
use Rattle.geometry.specs.Parts.{part_of}
use Rattle.geometry.proofs.Pages.{sized}
use Rattle.records.specs.Held.{Pages}

pub part_pages : (n : ℕ) (g : Geometry) → part_of n ≡ Some g → Pages g
part_pages n g p =
    let z = sized n g p in
    let f = mul-le-mul_left {m = 1} {n = g.pages} g.field (omega (arith, z.blocks)) in
    record { some = z.some; most = z.most; named = omega (arith, f, z.named); full = z.short }
