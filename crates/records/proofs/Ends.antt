-- What ends at place + count against a bound.
-- Assumes nothing.
use Prim.Native.Nat.{ℕ, ◌+◌, ◌-◌, ◌≤◌}
use native.Mathlib.Omega.{arith}
use mathlib.Core.Path.{◌≡◌, refl, sym}
use mathlib.Core.Bool.{Bool, true, false, not}
use lib.Dec.{ltb, leb}
use borrow.Author.Tests.{ltb-true, ltb-false, lt-ltb, le-ltb, le-leb, lt-leb}

-- what ends at place + count ends beyond `most`
pub ends_later : (most place count : ℕ) → place ≤ most → ltb (most - place) count ≡ ltb most (place + count)
ends_later most place count h = go (ltb most (place + count)) refl
  where
    go : (b : Bool) → ltb most (place + count) ≡ b → ltb (most - place) count ≡ b
    go true e = lt-ltb (most - place) count (omega (arith, ltb-true most (place + count) e))
    go false e = le-ltb (most - place) count (omega (arith, ltb-false most (place + count) e))

-- .. or does not
pub not_later : (n end : ℕ) (b : Bool) → b ≡ ltb n end → not b ≡ leb end n
not_later n end true e = sym (lt-leb end n (ltb-true n end (sym e)))
not_later n end false e = sym (le-leb end n (ltb-false n end (sym e)))
