-- Laws of the bytes that the driver copies. Each list is told by its length and its bytes, so two lists are compared index by index.
-- Assumes nothing.
use Prim.Native.Nat.{ℕ, ◌+◌, ◌-◌, ◌<◌, ◌≤◌, min}
use native.Mathlib.Nat.{add_comm, add-sub_cancel_left}
use native.Mathlib.Omega.{arith}
use mathlib.Core.Path.{◌≡◌, refl, sym, ap, ◌∙◌}
use mathlib.Core.Bool.{Bool, true, false, cond, ◌&&◌}
use mathlib.Core.List.{List, [], ◌++◌, append-nil}
use lib.Dec.{ltb, leb}
use lib.ListN.{length, get_or, take, drop, replicate, length-append, length-take, length-drop, length-replicate, get_or-replicate, drop_of_length-le, get_or-eq_default}
use lib.Seq.{ext_get_or, take-nil, take_at, drop_at, drop-length, get_or-take, get_or-drop}
use borrow.Author.Tests.{ltb-true, ltb-false, leb-true, leb-false}
use Rattle.slices.specs.Lists.{tabulate, over, splice}
use Rattle.slices.proofs.Laws.{length-tabulate, get_or-tabulate, over_nil, length_over, over_in, over-after, head-over, part_length, run_length, run-part, length-splice, splice_nil, spliced, splice_before, splice_in, splice-after}
use Rattle.slots.specs.Records.{patched}

-- n bytes of a list from index `from` on, and `other` past its end
pub copied : (n : ℕ) (source : List ℕ) (from other : ℕ)
    → over (take (min (length source - from) n) (drop from source)) (replicate n other) ≡ tabulate n (λ i. get_or source (from + i) other)
copied n source from other =
    ext_get_or other (over ys (replicate n other)) (tabulate n f) (long ∙ sym (length-tabulate n f))
    (λ i h. let l : i < n = omega (arith, long) in go i l (ltb i k) refl ∙ sym (get_or-tabulate n f i other l))
  where
    f : ℕ → ℕ
    f i = get_or source (from + i) other

    k : ℕ
    k = min (length source - from) n

    ys : List ℕ
    ys = take k (drop from source)

    length_ys : length ys ≡ k
    length_ys = simp (length-take, length-drop) (omega arith)

    long : length (over ys (replicate n other)) ≡ n
    long = length_over ys (replicate n other) ∙ length-replicate n other

    go : (i : ℕ) → i < n → (b : Bool) → ltb i k ≡ b → get_or (over ys (replicate n other)) i other ≡ f i
    go i h true e =
        over_in ys (replicate n other) i other (omega (arith, length_ys, ltb-true i k e)) (omega (arith, length-replicate n other))
        ∙ get_or-take k (drop from source) i other (ltb-true i k e) ∙ get_or-drop from source i other
    go i h false e =
        over-after ys (replicate n other) i other (omega (arith, length_ys, ltb-false i k e)) ∙ get_or-replicate n i other other h
        ∙ sym (get_or-eq_default source other {n = from + i} (omega (arith, ltb-false i k e)))

pub copied_none : (n : ℕ) (source : List ℕ) (from other : ℕ) → length source ≤ from → replicate n other ≡ tabulate n (λ i. get_or source (from + i) other)
copied_none n source from other h =
    let d : drop from source ≡ [] = drop_of_length-le source {i = from} h in
    sym (ap (λ (l : List ℕ). over (take (min (length source - from) n) l) (replicate n other)) d
    ∙ ap (λ (l : List ℕ). over l (replicate n other)) (take-nil (min (length source - from) n)) ∙ over_nil (replicate n other))
    ∙ copied n source from other

-- the beginning of `part`, which was filled, came back as ys
pub copied_some : (n : ℕ) (source : List ℕ) (from other : ℕ) (k : ℕ) (part ys : List ℕ) → from < length source
    → part ≡ replicate n other → k ≡ min (length source - from) (length part) → ys ≡ take (from + k - from) (drop from source)
    → ys ++ drop k part ≡ tabulate n (λ i. get_or source (from + i) other)
copied_some n source from other k part ys h p e q =
    let m : length part ≡ n = ap length p ∙ length-replicate n other in
    let f : k ≡ min (length source - from) n = e ∙ ap (λ (i : ℕ). min (length source - from) i) m in
    let z : ys ≡ take (min (length source - from) n) (drop from source) = q ∙ run-part from k source ∙ ap (λ (i : ℕ). take i (drop from source)) f in
    head-over part (omega arith) (f ∙ sym (simp (length-take, length-drop) (omega arith))) z
    ∙ ap (λ (l : List ℕ). over (take (min (length source - from) n) (drop from source)) l) p ∙ copied n source from other

-- the first n bytes computed, and the others 0 as they were
pub zeros_after : (f : ℕ → ℕ) (n m : ℕ) → n ≤ m → ((i : ℕ) → n ≤ i → i < m → f i ≡ 0) → over (tabulate n f) (replicate m 0) ≡ tabulate m f
zeros_after f n m l z =
    ext_get_or 0 (over (tabulate n f) (replicate m 0)) (tabulate m f) (long ∙ sym (length-tabulate m f))
    (λ i h. let k : i < m = omega (arith, long) in go i k (ltb i n) refl ∙ sym (get_or-tabulate m f i 0 k))
  where
    long : length (over (tabulate n f) (replicate m 0)) ≡ m
    long = length_over (tabulate n f) (replicate m 0) ∙ length-replicate {A = ℕ} m 0

    go : (i : ℕ) → i < m → (b : Bool) → ltb i n ≡ b → get_or (over (tabulate n f) (replicate m 0)) i 0 ≡ f i
    go i h true e =
        over_in (tabulate n f) (replicate m 0) i 0 (omega (arith, length-tabulate n f, ltb-true i n e)) (omega (arith, length-replicate {A = ℕ} m 0))
        ∙ get_or-tabulate n f i 0 (ltb-true i n e)
    go i h false e =
        over-after (tabulate n f) (replicate m 0) i 0 (omega (arith, length-tabulate n f, ltb-false i n e)) ∙ get_or-replicate m i 0 0 h
        ∙ sym (z i (ltb-false i n e) h)

-- ---- a patch

less_min : (a b c : ℕ) → c < a → c < b → c < min a b
less_min a b c h l = omega arith

-- index i of a part that begins at `start` lies `start + i - first` after the patch's first byte
reaches : (first start i : ℕ) → first ≤ start + i → first - start ≤ i
reaches first start i h = omega arith

offset : (first start i : ℕ) → first ≤ start + i → (start - first) + (i - (first - start)) ≡ start + i - first
offset first start i h = omega arith

left : (i to n : ℕ) → to ≤ i → i < n → i - to < n - to
left i to n h l = omega arith

less : (from j k m : ℕ) → from + j ≡ k → k < m → j < m - from
less from j k m e h = omega arith

within : (i to n m : ℕ) → to ≤ i → i - to < n → m ≡ n → i < to + m
within i to n m h l e = omega arith

-- no byte of the patch reaches index i, which lies behind its end
behind : (first start i m k : ℕ) → first + m ≤ start + i → k ≤ m - (start - first) → first ≤ start + i → first - start + k ≤ i
behind first start i m k h l p = omega arith

-- a patch laid over the part xs of a slot, from index `start` of the slot on: one run of its bytes, or none
pub laid : (head place : ℕ) (bytes : List ℕ) (start : ℕ) (xs : List ℕ)
    → splice (place + head - start) (take (min (length xs - (place + head - start)) (length bytes - (start - (place + head)))) (drop (start - (place + head)) bytes)) xs
    ≡ tabulate (length xs) (λ i. patched head place bytes (get_or xs i 0) (start + i))
unfolding patched
laid head place bytes start xs =
    ext_get_or 0 (splice to ys xs) (tabulate (length xs) f) (length-splice to ys xs ∙ sym (length-tabulate (length xs) f))
    (λ i h. let l : i < length xs = omega (arith, length-splice to ys xs) in go i l (leb (head + place) (start + i)) (ltb (start + i) (head + place + length bytes)) refl refl ∙ sym (get_or-tabulate (length xs) f i 0 l))
  where
    first : ℕ
    first = place + head

    to : ℕ
    to = first - start

    from : ℕ
    from = start - first

    n : ℕ
    n = min (length xs - to) (length bytes - from)

    ys : List ℕ
    ys = take n (drop from bytes)

    f : ℕ → ℕ
    f i = patched head place bytes (get_or xs i 0) (start + i)

    length_ys : length ys ≡ n
    length_ys = simp (length-take, length-drop) (least (length xs - to) (length bytes - from))
      where
        least : (a b : ℕ) → min (min a b) b ≡ min a b
        least a b = omega arith

    most : (a b m : ℕ) → m ≡ min a b → m ≤ b
    most a b m e = omega arith

    inside : (i : ℕ) → i < length xs → first ≤ start + i → start + i < first + length bytes → get_or (splice to ys xs) i 0 ≡ get_or bytes (start + i - (head + place)) 0
    inside i h p q =
        let r = reaches first start i p in
        let o = offset first start i p in
        let k : i - to < n = less_min (length xs - to) (length bytes - from) (i - to) (left i to (length xs) r h) (less from (i - to) (start + i - first) (length bytes) o (omega arith)) in
        let e : from + (i - to) ≡ start + i - (head + place) = o ∙ ap (λ (j : ℕ). start + i - j) (add_comm place head) in
        splice_in to ys xs i 0 r (within i to n (length ys) r k length_ys) h ∙ get_or-take n (drop from bytes) (i - to) 0 k ∙ get_or-drop from bytes (i - to) 0 ∙ ap (λ (j : ℕ). get_or bytes j 0) e

    go : (i : ℕ) → i < length xs → (a b : Bool) → leb (head + place) (start + i) ≡ a → ltb (start + i) (head + place + length bytes) ≡ b
        → get_or (splice to ys xs) i 0 ≡ cond (a && b) (get_or bytes (start + i - (head + place)) 0) (get_or xs i 0)
    go i h true true p q =
        inside i h (omega (arith, leb-true (head + place) (start + i) p)) (omega (arith, ltb-true (start + i) (head + place + length bytes) q))
    go i h true false p q =
        splice-after to ys xs i 0
        (behind first start i (length bytes) (length ys) (omega (arith, ltb-false (start + i) (head + place + length bytes) q))
        (most (length xs - to) (length bytes - from) (length ys) length_ys) (omega (arith, leb-true (head + place) (start + i) p)))
    go i h false b p q = splice_before to ys xs i 0 (omega (arith, leb-false (head + place) (start + i) p))

-- none of the patch's bytes lies in the part
laid_none : (head place : ℕ) (bytes : List ℕ) (start : ℕ) (xs : List ℕ)
    → min (length xs - (place + head - start)) (length bytes - (start - (place + head))) ≡ 0 → xs ≡ tabulate (length xs) (λ i. patched head place bytes (get_or xs i 0) (start + i))
laid_none head place bytes start xs e =
    sym (splice_nil (place + head - start) xs) ∙ ap (λ (n : ℕ). splice (place + head - start) (take n (drop (start - (place + head)) bytes)) xs) (sym e)
    ∙ laid head place bytes start xs

-- it ends before the patch's first byte
pub laid_before : (head place : ℕ) (bytes : List ℕ) (start : ℕ) (xs : List ℕ) (to : ℕ) → to ≡ place + head - start → length xs ≤ to
    → xs ≡ tabulate (length xs) (λ i. patched head place bytes (get_or xs i 0) (start + i))
laid_before head place bytes start xs to e h = laid_none head place bytes start xs (none (length xs) (place + head - start) (length bytes - (start - (place + head))) (omega (arith, e, h)))
  where
    none : (n a b : ℕ) → n ≤ a → min (n - a) b ≡ 0
    none n a b l = omega arith

-- or begins behind its last
pub laid-after : (head place : ℕ) (bytes : List ℕ) (start : ℕ) (xs : List ℕ) (from : ℕ) → from ≡ start - (place + head) → length bytes ≤ from
    → xs ≡ tabulate (length xs) (λ i. patched head place bytes (get_or xs i 0) (start + i))
laid-after head place bytes start xs from e h = laid_none head place bytes start xs (none (length bytes) (start - (place + head)) (length xs - (place + head - start)) (omega (arith, e, h)))
  where
    none : (n a b : ℕ) → n ≤ a → min b (n - a) ≡ 0
    none n a b l = omega arith

-- a run fits both lists
pub run-left : (a b to from n : ℕ) → n ≡ min (a - to) (b - from) → to < a → to + n ≤ a
run-left a b to from n e h = omega (arith, min-left (a - to) (b - from) n e)
  where
    min-left : (i j k : ℕ) → k ≡ min i j → k ≤ i
    min-left i j k q = omega arith

pub run_right : (a b to from n : ℕ) → n ≡ min (a - to) (b - from) → from < b → from + n ≤ b
run_right a b to from n e h = omega (arith, min_right (a - to) (b - from) n e)
  where
    min_right : (i j k : ℕ) → k ≡ min i j → k ≤ j
    min_right i j k q = omega arith

-- one run of them does: the part was lent from `to` on and came back as ys
pub laid-some : (head place : ℕ) (bytes : List ℕ) (start : ℕ) (xs : List ℕ) (to from n : ℕ) (ys : List ℕ)
    → to ≡ place + head - start → from ≡ start - (place + head) → to < length xs → from < length bytes → n ≡ min (length xs - to) (length bytes - from)
    → ys ≡ take (from + n - from) (drop from bytes)
    → take to xs ++ (ys ++ drop (to + n - to) (drop to xs)) ≡ tabulate (length xs) (λ i. patched head place bytes (get_or xs i 0) (start + i))
laid-some head place bytes start xs to from n ys et ef lt lf en q =
    let k : to + n - to ≡ n = add-sub_cancel_left to n in
    let m : n ≡ length (take n (drop from bytes)) =
    sym (ap length (sym (run-part from n bytes)) ∙ run_length from n bytes (run_right (length xs) (length bytes) to from n en lf)) in
    ap (λ (j : ℕ). take to xs ++ (ys ++ drop j (drop to xs))) k
    ∙ spliced to xs (run-left (length xs) (length bytes) to from n en lt) m (q ∙ run-part from n bytes)
    ∙ ap (λ (j : ℕ). splice to (take j (drop from bytes)) xs) en
    ∙ (λ i. splice (et i) (take (min (length xs - et i) (length bytes - ef i)) (drop (ef i) bytes)) xs)
    ∙ laid head place bytes start xs

-- ---- two parts lent one after the other: `&mut xs[..k]` came back as ys, and then `&mut xs[k..]` as zs

module _ (k : ℕ) (xs ys : List ℕ) where
  pub joined : k ≤ length xs → length ys ≡ k → length (ys ++ drop k xs) ≡ length xs
  joined h e = omega (arith, length-append ys (drop k xs), length-drop k xs)

  pub rest-long : k ≤ length xs → length ys ≡ k → length (take (length (ys ++ drop k xs) - k) (drop k (ys ++ drop k xs))) ≡ length xs - k
  rest-long h e =
      part_length k (length (ys ++ drop k xs)) (ys ++ drop k xs) (omega (arith, joined h e)) (omega arith)
      ∙ ap (λ (n : ℕ). n - k) (joined h e)

  pub two_parts : (zs : List ℕ) → k ≤ length xs → length ys ≡ k
      → take k (ys ++ drop k xs) ++ (zs ++ drop (length (ys ++ drop k xs) - k) (drop k (ys ++ drop k xs))) ≡ ys ++ zs
  two_parts zs h e =
      let d : drop k (ys ++ drop k xs) ≡ drop k xs = drop_at ys (drop k xs) k e in
      let n : length (ys ++ drop k xs) - k ≡ length (drop k xs) = omega (arith, joined h e, length-drop k xs) in
      (λ i. take_at ys (drop k xs) k e i ++ (zs ++ drop (n i) (d i))) ∙ ap (λ (r : List ℕ). ys ++ (zs ++ r)) (drop-length (drop k xs))
      ∙ ap (λ (r : List ℕ). ys ++ r) (append-nil zs)
