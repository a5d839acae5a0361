-- Laws of the lists that contracts cite. `tabulate`, `over`, `splice`, `and_over` and `same` recurse on their lists, so each law goes by
-- the same recursion, down to the elements.
-- Assumes nothing.
use mathlib.Core.Path.{◌≡◌, refl, sym, ap, ◌∙◌}
use mathlib.Core.List.{List, [], ◌∷◌, ◌++◌, append-nil}
use mathlib.Core.Bool.{Bool, true, false, ◌&&◌, and-false}
use Prim.Native.Nat.{ℕ, zero, suc, ◌+◌, ◌-◌, ◌<◌, ◌≤◌}
use native.Mathlib.Nat.{not-suc-le-zero, le_of_suc-le-suc, suc_inj, suc-add, zero-add, add-sub_cancel_left}
use native.Mathlib.Omega.{arith}
use lib.ListN.{length, set, take, drop, get_or, replicate, length-drop, length-take, drop_of_length-le}
use lib.Seq.{take_all, take_at, get_or-drop}
use lib.Bits.{bit_and}
use lib.Dec.{eqb}
use borrow.Author.Tests.{eqb-true, eq-eqb}
use Rattle.slices.specs.Lists.{tabulate, over, splice, and_over, same}

-- ---- a list computed byte by byte
pub length-tabulate : (n : ℕ) (f : ℕ → ℕ) → length (tabulate n f) ≡ n
unfolding tabulate
length-tabulate zero f = refl
length-tabulate (suc n) f = ap suc (length-tabulate n (λ k. f (suc k)))

pub get_or-tabulate : (n : ℕ) (f : ℕ → ℕ) (k d : ℕ) → k < n → get_or (tabulate n f) k d ≡ f k
unfolding tabulate
get_or-tabulate zero f k d h = absurd (not-suc-le-zero h)
get_or-tabulate (suc n) f zero d h = refl
get_or-tabulate (suc n) f (suc k) d h = get_or-tabulate n (λ j. f (suc j)) k d (le_of_suc-le-suc h)

-- two functions that agree below n
pub tabulate-same : (n : ℕ) (f g : ℕ → ℕ) → ((k : ℕ) → k < n → f k ≡ g k) → tabulate n f ≡ tabulate n g
unfolding tabulate
tabulate-same zero f g e = refl
tabulate-same (suc n) f g e =
    ap (λ (x : ℕ). x ∷ tabulate n (λ k. f (suc k))) (e zero (omega arith))
    ∙ ap (λ (l : List ℕ). g zero ∷ l) (tabulate-same n (λ k. f (suc k)) (λ k. g (suc k)) (λ k h. e (suc k) (omega arith)))

pub tabulate_append : (a b : ℕ) (f : ℕ → ℕ) → tabulate (a + b) f ≡ tabulate a f ++ tabulate b (λ i. f (a + i))
unfolding tabulate
tabulate_append zero b f = simp zero-add
tabulate_append (suc a) b f = simp suc-add (ap (λ (l : List ℕ). f zero ∷ l) (tabulate_append a b (λ k. f (suc k))))

pub tabulate_const : (n v : ℕ) → tabulate n (λ _. v) ≡ replicate n v
unfolding tabulate
tabulate_const zero v = refl
tabulate_const (suc n) v = ap (λ (l : List ℕ). v ∷ l) (tabulate_const n v)

pub tabulate-get_or : (xs : List ℕ) (d : ℕ) → tabulate (length xs) (λ i. get_or xs i d) ≡ xs
unfolding tabulate
tabulate-get_or [] d = refl
tabulate-get_or (x ∷ xs) d = ap (λ (l : List ℕ). x ∷ l) (tabulate-get_or xs d)

-- the same of the first n bytes, and of n bytes from index a on
pub tabulate-take : (n : ℕ) (xs : List ℕ) (d : ℕ) → n ≤ length xs → tabulate n (λ i. get_or xs i d) ≡ take n xs
unfolding tabulate
tabulate-take zero xs d h = refl
tabulate-take (suc n) [] d h = absurd (not-suc-le-zero h)
tabulate-take (suc n) (x ∷ xs) d h = ap (λ (l : List ℕ). x ∷ l) (tabulate-take n xs d (le_of_suc-le-suc h))

pub tabulate-part : (n a : ℕ) (xs : List ℕ) (d : ℕ) → a + n ≤ length xs → tabulate n (λ i. get_or xs (a + i) d) ≡ take n (drop a xs)
tabulate-part n a xs d h =
    tabulate-same n (λ i. get_or xs (a + i) d) (λ i. get_or (drop a xs) i d) (λ i k. sym (get_or-drop a xs i d))
    ∙ tabulate-take n (drop a xs) d (simp length-drop (omega arith))

-- ---- a part laid over a list
pub over_nil : (xs : List ℕ) → over [] xs ≡ xs
unfolding over
over_nil xs = refl

pub length_over : (ys xs : List ℕ) → length (over ys xs) ≡ length xs
unfolding over
length_over [] xs = refl
length_over (y ∷ ys) [] = refl
length_over (y ∷ ys) (x ∷ xs) = ap suc (length_over ys xs)

pub over_append : (ys xs : List ℕ) → length ys ≤ length xs → over ys xs ≡ ys ++ drop (length ys) xs
unfolding over
over_append [] xs h = refl
over_append (y ∷ ys) [] h = absurd (not-suc-le-zero h)
over_append (y ∷ ys) (x ∷ xs) h = ap (λ (l : List ℕ). y ∷ l) (over_append ys xs (le_of_suc-le-suc h))

pub over-whole : (ys xs : List ℕ) → length ys ≡ length xs → over ys xs ≡ ys
over-whole ys xs e =
    over_append ys xs (omega arith) ∙ ap (λ (l : List ℕ). ys ++ l) (drop_of_length-le xs {i = length ys} (omega arith)) ∙ append-nil ys

-- the part comes first
pub over_front : (ys xs : List ℕ) {n : ℕ} {zs : List ℕ} → n ≡ length ys → length ys ≤ length xs → zs ≡ over ys xs → take n zs ≡ ys
over_front ys xs e h q = (λ i. take (e i) (q i)) ∙ ap (take (length ys)) (over_append ys xs h) ∙ take_at ys (drop (length ys) xs) (length ys) refl

pub over_in : (ys xs : List ℕ) (k d : ℕ) → k < length ys → k < length xs → get_or (over ys xs) k d ≡ get_or ys k d
unfolding over
over_in [] xs k d h l = absurd (not-suc-le-zero h)
over_in (y ∷ ys) [] k d h l = absurd (not-suc-le-zero l)
over_in (y ∷ ys) (x ∷ xs) zero d h l = refl
over_in (y ∷ ys) (x ∷ xs) (suc k) d h l = over_in ys xs k d (le_of_suc-le-suc h) (le_of_suc-le-suc l)

pub over-after : (ys xs : List ℕ) (k d : ℕ) → length ys ≤ k → get_or (over ys xs) k d ≡ get_or xs k d
unfolding over
over-after [] xs k d h = refl
over-after (y ∷ ys) [] k d h = refl
over-after (y ∷ ys) (x ∷ xs) zero d h = absurd (not-suc-le-zero h)
over-after (y ∷ ys) (x ∷ xs) (suc k) d h = over-after ys xs k d (le_of_suc-le-suc h)

over-over : (ys zs xs : List ℕ) → length ys ≤ length zs → over zs (over ys xs) ≡ over zs xs
unfolding over
over-over [] zs xs h = refl
over-over (y ∷ ys) [] xs h = absurd (not-suc-le-zero h)
over-over (y ∷ ys) (z ∷ zs) [] h = refl
over-over (y ∷ ys) (z ∷ zs) (x ∷ xs) h = ap (λ (l : List ℕ). z ∷ l) (over-over ys zs xs (le_of_suc-le-suc h))

take-over : (ys xs : List ℕ) → length ys ≤ length xs → take (length ys) (over ys xs) ≡ ys
unfolding over
take-over [] xs h = refl
take-over (y ∷ ys) [] h = absurd (not-suc-le-zero h)
take-over (y ∷ ys) (x ∷ xs) h = ap (λ (l : List ℕ). y ∷ l) (take-over ys xs (le_of_suc-le-suc h))

drop-over : (n : ℕ) (ys xs : List ℕ) → length ys ≤ n → drop n (over ys xs) ≡ drop n xs
unfolding over
drop-over n [] xs h = refl
drop-over n (y ∷ ys) [] h = refl
drop-over zero (y ∷ ys) (x ∷ xs) h = absurd (not-suc-le-zero h)
drop-over (suc n) (y ∷ ys) (x ∷ xs) h = drop-over n ys xs (le_of_suc-le-suc h)

-- ---- a part laid over a list from index a on
pub splice-zero : (ys xs : List ℕ) → splice zero ys xs ≡ over ys xs
unfolding splice
splice-zero ys xs = refl

pub splice_nil : (a : ℕ) (xs : List ℕ) → splice a [] xs ≡ xs
unfolding splice over
splice_nil zero xs = refl
splice_nil (suc a) [] = refl
splice_nil (suc a) (x ∷ xs) = ap (λ (l : List ℕ). x ∷ l) (splice_nil a xs)

pub length-splice : (a : ℕ) (ys xs : List ℕ) → length (splice a ys xs) ≡ length xs
unfolding splice
length-splice zero ys xs = length_over ys xs
length-splice (suc a) ys [] = refl
length-splice (suc a) ys (x ∷ xs) = ap suc (length-splice a ys xs)

pub splice_before : (a : ℕ) (ys xs : List ℕ) (k d : ℕ) → k < a → get_or (splice a ys xs) k d ≡ get_or xs k d
unfolding splice
splice_before zero ys xs k d h = absurd (not-suc-le-zero h)
splice_before (suc a) ys [] k d h = refl
splice_before (suc a) ys (x ∷ xs) zero d h = refl
splice_before (suc a) ys (x ∷ xs) (suc k) d h = splice_before a ys xs k d (le_of_suc-le-suc h)

-- byte j of the part
pub splice_at : (a : ℕ) (ys xs : List ℕ) (j d : ℕ) → j < length ys → a + j < length xs → get_or (splice a ys xs) (a + j) d ≡ get_or ys j d
unfolding splice
splice_at zero ys xs j d h l = rw zero-add (over_in ys xs j d h (omega arith))
splice_at (suc a) ys [] j d h l = absurd (not-suc-le-zero l)
splice_at (suc a) ys (x ∷ xs) j d h l = rw suc-add (splice_at a ys xs j d h (omega arith))

pub splice_in : (a : ℕ) (ys xs : List ℕ) (k d : ℕ) → a ≤ k → k < a + length ys → k < length xs → get_or (splice a ys xs) k d ≡ get_or ys (k - a) d
splice_in a ys xs k d h i l =
    let e : k ≡ a + (k - a) = omega arith in
    ap (λ (n : ℕ). get_or (splice a ys xs) n d) e ∙ splice_at a ys xs (k - a) d (omega arith) (omega arith)

pub splice-after : (a : ℕ) (ys xs : List ℕ) (k d : ℕ) → a + length ys ≤ k → get_or (splice a ys xs) k d ≡ get_or xs k d
unfolding splice
splice-after zero ys xs k d h = over-after ys xs k d (omega arith)
splice-after (suc a) ys [] k d h = refl
splice-after (suc a) ys (x ∷ xs) zero d h = absurd (omega arith)
splice-after (suc a) ys (x ∷ xs) (suc k) d h = splice-after a ys xs k d (omega arith)

-- the part read back, and what is read before it and after it
pub splice-part : (a : ℕ) (ys xs : List ℕ) → a + length ys ≤ length xs → take (length ys) (drop a (splice a ys xs)) ≡ ys
unfolding splice
splice-part zero ys xs h = take-over ys xs (omega arith)
splice-part (suc a) ys [] h = absurd (omega arith)
splice-part (suc a) ys (x ∷ xs) h = splice-part a ys xs (omega arith)

pub take-splice : (n a : ℕ) (ys xs : List ℕ) → n ≤ a → take n (splice a ys xs) ≡ take n xs
unfolding splice
take-splice zero a ys xs h = refl
take-splice (suc n) zero ys xs h = absurd (not-suc-le-zero h)
take-splice (suc n) (suc a) ys [] h = refl
take-splice (suc n) (suc a) ys (x ∷ xs) h = ap (λ (l : List ℕ). x ∷ l) (take-splice n a ys xs (le_of_suc-le-suc h))

pub drop-splice : (n a : ℕ) (ys xs : List ℕ) → a + length ys ≤ n → drop n (splice a ys xs) ≡ drop n xs
unfolding splice
drop-splice n zero ys xs h = drop-over n ys xs (omega arith)
drop-splice n (suc a) ys [] h = refl
drop-splice zero (suc a) ys (x ∷ xs) h = absurd (omega arith)
drop-splice (suc n) (suc a) ys (x ∷ xs) h = drop-splice n a ys xs (omega arith)

-- n bytes from index b on, which end before the part
pub part-splice : (n b a : ℕ) (ys xs : List ℕ) → b + n ≤ a → take n (drop b (splice a ys xs)) ≡ take n (drop b xs)
unfolding splice
part-splice n zero a ys xs h = take-splice n a ys xs (omega arith)
part-splice n (suc b) zero ys xs h = absurd (omega arith)
part-splice n (suc b) (suc a) ys [] h = refl
part-splice n (suc b) (suc a) ys (x ∷ xs) h = part-splice n b a ys xs (omega arith)

-- a part over another that it hides: the last wins
pub splice-splice : (a : ℕ) (ys zs xs : List ℕ) → length ys ≤ length zs → splice a zs (splice a ys xs) ≡ splice a zs xs
unfolding splice
splice-splice zero ys zs xs h = over-over ys zs xs h
splice-splice (suc a) ys zs [] h = refl
splice-splice (suc a) ys zs (x ∷ xs) h = ap (λ (l : List ℕ). x ∷ l) (splice-splice a ys zs xs h)

pub over_two : (ys zs xs : List ℕ) → over (ys ++ zs) xs ≡ splice (length ys) zs (over ys xs)
unfolding over splice
over_two [] zs xs = refl
over_two (y ∷ ys) zs [] = refl
over_two (y ∷ ys) zs (x ∷ xs) = ap (λ (l : List ℕ). y ∷ l) (over_two ys zs xs)

-- two parts, one after the other
pub splice_append : (a : ℕ) (ys zs xs : List ℕ) → splice a (ys ++ zs) xs ≡ splice (a + length ys) zs (splice a ys xs)
unfolding splice
splice_append zero ys zs xs = rw zero-add (over_two ys zs xs)
splice_append (suc a) ys zs [] = rw suc-add refl
splice_append (suc a) ys zs (x ∷ xs) = rw suc-add (ap (λ (l : List ℕ). x ∷ l) (splice_append a ys zs xs))

-- the first byte of the part, and then the others
pub splice_cons : (a y : ℕ) (ys xs : List ℕ) → splice a (y ∷ ys) xs ≡ splice (a + 1) ys (set xs a y)
unfolding splice over
splice_cons zero y ys [] = refl
splice_cons zero y ys (x ∷ xs) = refl
splice_cons (suc a) y ys [] = rw suc-add refl
splice_cons (suc a) y ys (x ∷ xs) = rw suc-add (ap (λ (l : List ℕ). x ∷ l) (splice_cons a y ys xs))

-- ---- a part that is lent: `&xs[a..e]` is `take (e - a) (drop a xs)`, and e is the length for `&xs[a..]`; `&xs[..k]` is `take k xs`
pub part_length : (a e : ℕ) (xs : List ℕ) → a ≤ e → e ≤ length xs → length (take (e - a) (drop a xs)) ≡ e - a
part_length a e xs h l = simp (length-take, length-drop) (omega arith)

-- `&xs[a..a + n]`
pub run_length : (a n : ℕ) (xs : List ℕ) → a + n ≤ length xs → length (take (a + n - a) (drop a xs)) ≡ n
run_length a n xs h = simp (length-take, length-drop) (omega arith)

pub run-part : (a n : ℕ) (xs : List ℕ) → take (a + n - a) (drop a xs) ≡ take n (drop a xs)
run-part a n xs = rw add-sub_cancel_left

pub tail_part : (a : ℕ) (xs : List ℕ) → take (length xs - a) (drop a xs) ≡ drop a xs
tail_part a xs = take_all (length xs - a) (drop a xs) (simp length-drop (omega arith))

-- ---- a part that was lent as `&mut` and came back as ys: `&mut xs[a..e]`, with k its length; `&mut xs[a..]` has the same shape
over-same : (ys zs xs : List ℕ) → length zs ≤ length xs → ys ≡ zs → ys ++ drop (length zs) xs ≡ over zs xs
over-same ys zs xs h e = rw e (sym (over_append zs xs h))

pub spliced : (a : ℕ) (xs : List ℕ) {k : ℕ} {ys zs : List ℕ} → a + k ≤ length xs → k ≡ length zs → ys ≡ zs → take a xs ++ (ys ++ drop k (drop a xs)) ≡ splice a zs xs
unfolding splice
spliced zero xs h l e = rw l (over-same _ _ xs (omega arith) e)
spliced (suc a) [] h l e = absurd (omega arith)
spliced (suc a) (x ∷ xs) h l e = ap (λ (t : List ℕ). x ∷ t) (spliced a xs (omega arith) l e)

-- the same where the callee's `.kept` gives the length
pub kept_spliced : (a k : ℕ) (xs : List ℕ) {ys zs : List ℕ} → a + k ≤ length xs → length ys ≡ length (take k (drop a xs)) → ys ≡ zs
    → take a xs ++ (ys ++ drop k (drop a xs)) ≡ splice a zs xs
kept_spliced a k xs h l e = spliced a xs h (omega (arith, simp (length-take, length-drop) at l, ap length e)) e

-- `&mut xs[..k]`
pub head-over : (xs : List ℕ) {k : ℕ} {ys zs : List ℕ} → k ≤ length xs → k ≡ length zs → ys ≡ zs → ys ++ drop k xs ≡ over zs xs
head-over xs h l e = rw l (over-same _ _ xs (omega arith) e)

pub head_spliced : (xs : List ℕ) {k : ℕ} {ys zs : List ℕ} → k ≤ length xs → k ≡ length zs → ys ≡ zs → ys ++ drop k xs ≡ splice 0 zs xs
unfolding splice
head_spliced xs h l e = head-over xs h l e

-- ---- AND
pub length-and_over : (xs ys : List ℕ) → length (and_over xs ys) ≡ length xs
unfolding and_over
length-and_over [] ys = refl
length-and_over (x ∷ xs) [] = refl
length-and_over (x ∷ xs) (y ∷ ys) = ap suc (length-and_over xs ys)

pub get_or-and_over : (xs ys : List ℕ) (k d : ℕ) → k < length xs → k < length ys → get_or (and_over xs ys) k d ≡ bit_and (get_or xs k d) (get_or ys k d)
unfolding and_over
get_or-and_over [] ys k d h l = absurd (not-suc-le-zero h)
get_or-and_over (x ∷ xs) [] k d h l = absurd (not-suc-le-zero l)
get_or-and_over (x ∷ xs) (y ∷ ys) zero d h l = refl
get_or-and_over (x ∷ xs) (y ∷ ys) (suc k) d h l = get_or-and_over xs ys k d (le_of_suc-le-suc h) (le_of_suc-le-suc l)

pub and_over-tabulate : (xs ys : List ℕ) (d : ℕ) → length xs ≡ length ys → and_over xs ys ≡ tabulate (length xs) (λ i. bit_and (get_or xs i d) (get_or ys i d))
unfolding and_over tabulate
and_over-tabulate [] ys d e = refl
and_over-tabulate (x ∷ xs) [] d e = absurd (omega arith)
and_over-tabulate (x ∷ xs) (y ∷ ys) d e = ap (λ (l : List ℕ). bit_and x y ∷ l) (and_over-tabulate xs ys d (suc_inj e))

-- ---- a comparison
and_left : (t u : Bool) → (t && u) ≡ true → t ≡ true
and_left true u e = refl
and_left false u e = e

and_right : (t u : Bool) → (t && u) ≡ true → u ≡ true
and_right true u e = e
and_right false u e = cc

pub same_refl : (xs : List ℕ) → same xs xs ≡ true
unfolding same
same_refl [] = refl
same_refl (x ∷ xs) = rw (eq-eqb x x refl) (same_refl xs)

-- lists that agree are one list
pub same_true : {xs ys : List ℕ} → same xs ys ≡ true → xs ≡ ys
unfolding same
same_true {xs = []} {ys = []} e = refl
same_true {xs = []} {ys = y ∷ ys} e = cc
same_true {xs = x ∷ xs} {ys = []} e = cc
same_true {xs = x ∷ xs} {ys = y ∷ ys} e =
    let h : x ≡ y = eqb-true x y (and_left (eqb x y) (same xs ys) e) in
    let t : xs ≡ ys = same_true (and_right (eqb x y) (same xs ys) e) in
    cc

-- lists of two lengths do not agree
pub same-lengths : (xs ys : List ℕ) → (length xs ≡ length ys → ⊥) → same xs ys ≡ false
unfolding same
same-lengths [] [] h = absurd (h refl)
same-lengths [] (y ∷ ys) h = refl
same-lengths (x ∷ xs) [] h = refl
same-lengths (x ∷ xs) (y ∷ ys) h = ap (λ (u : Bool). eqb x y && u) (same-lengths xs ys (λ e. h (ap suc e))) ∙ and-false (eqb x y)
