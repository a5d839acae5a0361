-- Laws of the two loops that copy a run of n bytes a turn, n being the lesser of what is left of the ring and of the other slice. A run
-- does not wrap, so it is a plain part of the ring, and behind it all goes on at index 0, unless nothing is left.
-- Assumes nothing.
use mathlib.Core.Path.{◌≡◌, refl, sym, ap, ◌∙◌}
use mathlib.Core.List.{List, [], ◌++◌}
use mathlib.Core.Logic.{⊎_elim}
use Prim.Native.Nat.{ℕ, ◌+◌, ◌-◌, ◌%◌, ◌<◌, ◌≤◌, zero-le, min}
use native.Mathlib.Nat.{add-zero, eq-or-lt_of_le, mod-eq_of_lt, mod-add-mod, mod_self, add_assoc}
use native.Mathlib.Omega.{arith}
use lib.ListN.{length, take, drop, get_or, length-take, length-drop, drop_of_length-le, take-append-drop}
use lib.Seq.{drop-drop}
use Rattle.slices.specs.Lists.{tabulate, splice, ring_read, ring_write}
use Rattle.slices.proofs.Laws.{length-splice, spliced}
use Rattle.slices.proofs.Loops.{Stored, stored-none, stored-run}
use Rattle.slices.proofs.Rings.{ring_read-run, ring_read_mod, ring_write_nil, ring_write-run}

-- ring_read: `done` bytes are stored, and the next lies at index `from`
pub record Reading (ring : List ℕ) (size start : ℕ) (part₀ : List ℕ) (done from : ℕ) (part : List ℕ) : Type 0 where
  pub stored : Stored (λ i. get_or ring ((start + i) % size) 0) part₀ done part
  pub inside : from < size
  pub place : done < length part₀ → from ≡ (start + done) % size

pub reading-none : (ring : List ℕ) (size start : ℕ) (part : List ℕ) → start < size → Reading ring size start part 0 start part
reading-none ring size start part h =
    record {
      stored = stored-none (λ i. get_or ring ((start + i) % size) 0) part;
      inside = h;
      place = λ _. simp add-zero (sym (mod-eq_of_lt h));
    }

-- the next n bytes of a read, as a part of the ring
read_run : (n size start done from : ℕ) (ring : List ℕ) → from + n ≤ size → size ≤ length ring → from ≡ (start + done) % size
    → take n (drop from ring) ≡ tabulate n (λ k. get_or ring ((start + (done + k)) % size) 0)
unfolding ring_read
read_run n size start done from ring h l p =
    sym (ring_read-run n size from ring h l) ∙ ap (λ (m : ℕ). ring_read n size m ring) p ∙ ring_read_mod n size (start + done) ring ∙ simp add_assoc

-- behind a run that ends with the ring, the next byte lies at index 0
read_next : (n size start done from : ℕ) → from + n ≡ size → from ≡ (start + done) % size → 0 ≡ (start + (done + n)) % size
read_next n size start done from e p =
    sym (ap (λ (m : ℕ). m % size) (sym (add_assoc start done n)) ∙ sym (mod-add-mod (start + done) size n)
    ∙ ap (λ (m : ℕ). (m + n) % size) (sym p) ∙ ap (λ (m : ℕ). m % size) e ∙ mod_self size)

pub reading_more : {ring : List ℕ} {size start : ℕ} {part₀ : List ℕ} {done from : ℕ} {part : List ℕ} {n : ℕ} {zs : List ℕ}
    → size ≤ length ring → done < length part → n ≡ min (size - from) (length part - done) → zs ≡ take (from + n - from) (drop from ring)
    → Reading ring size start part₀ done from part
    → Reading ring size start part₀ (done + n) 0 (take done part ++ (zs ++ drop (done + n - done) (drop done part)))
reading_more {ring} {size} {start} {part₀} {done} {from} {part} {n} {zs} l h e z r =
    let p : from ≡ (start + done) % size = r.place (omega (arith, r.stored.long)) in
    let j : from + n - from ≡ n = omega arith in
    let k : done + n - done ≡ n = omega arith in
    record {
      stored = rw k (stored-run n (omega arith) (z ∙ rw j (read_run n size start done from ring (omega arith) l p)) r.stored);
      inside = omega arith;
      place = λ m. read_next n size start done from (omega arith) p;
    }

-- ring_write: what is still to be stored are the bytes behind `done`, from index `at` on
pub record Writing (size start : ℕ) (bytes ring₀ : List ℕ) (done at : ℕ) (ring : List ℕ) : Type 0 where
  pub within : done ≤ length bytes
  pub long : length ring ≡ length ring₀
  pub inside : at < size
  pub left : ring_write size start bytes ring₀ ≡ ring_write size at (drop done bytes) ring

pub writing_none : (size start : ℕ) (bytes ring : List ℕ) → start < size → Writing size start bytes ring 0 start ring
writing_none size start bytes ring h = record { within = zero-le; long = refl; inside = h; left = refl }

-- behind a run all goes on at index 0, unless nothing is left
write_next : (n size at : ℕ) (zs xs : List ℕ) → at + n ≤ size → (at + n < size → zs ≡ []) → ring_write size ((at + n) % size) zs xs ≡ ring_write size 0 zs xs
unfolding ring_write
write_next n size at zs xs h e =
    ⊎_elim
    (λ q. ap (λ (m : ℕ). ring_write size m zs xs) (ap (λ (m : ℕ). m % size) q ∙ mod_self size))
    (λ q. rw (e q) refl)
    (eq-or-lt_of_le h)

pub writing_more : {size start : ℕ} {bytes ring₀ : List ℕ} {done at : ℕ} {ring : List ℕ} {n : ℕ} {zs : List ℕ}
    → size ≤ length ring → done < length bytes → n ≡ min (size - at) (length bytes - done) → zs ≡ take (done + n - done) (drop done bytes)
    → Writing size start bytes ring₀ done at ring
    → Writing size start bytes ring₀ (done + n) 0 (take at ring ++ (zs ++ drop (at + n - at) (drop at ring)))
writing_more {size} {start} {bytes} {ring₀} {done} {at} {ring} {n} {zs} l h e z w =
    let j : at + n - at ≡ n = omega arith in
    let k : done + n - done ≡ n = omega arith in
    let ys = take n (drop done bytes) in
    let m : n ≡ length ys = simp (length-take, length-drop) (omega arith) in
    let s : take at ring ++ (zs ++ drop (at + n - at) (drop at ring)) ≡ splice at ys ring =
    rw j (spliced at ring (omega arith) m (z ∙ ap (λ (i : ℕ). take i (drop done bytes)) k))
    in
    record {
      within = omega arith;
      long = ap length s ∙ length-splice at ys ring ∙ w.long;
      inside = omega arith;
      left =
          w.left ∙ ap (λ (t : List ℕ). ring_write size at t ring) (sym (take-append-drop n (drop done bytes)))
          ∙ ring_write-run size at ys (drop n (drop done bytes)) ring w.inside (omega arith)
          ∙ ap (λ (i : ℕ). ring_write size ((at + i) % size) (drop n (drop done bytes)) (splice at ys ring)) (sym m)
          ∙ ap (λ (t : List ℕ). ring_write size ((at + n) % size) t (splice at ys ring)) (drop-drop n done bytes)
          ∙ write_next n size at (drop (done + n) bytes) (splice at ys ring) (omega arith) (λ q. drop_of_length-le bytes {i = done + n} (omega arith))
          ∙ ap (λ (t : List ℕ). ring_write size 0 (drop (done + n) bytes) t) (sym s);
    }

pub writing_all : {size start : ℕ} {bytes ring₀ : List ℕ} {done at : ℕ} {ring : List ℕ}
    → length bytes ≤ done → Writing size start bytes ring₀ done at ring → ring ≡ ring_write size start bytes ring₀
writing_all {size} {bytes = bytes} {at = at} {ring} h w =
    sym (w.left ∙ ap (λ (t : List ℕ). ring_write size at t ring) (drop_of_length-le bytes h) ∙ ring_write_nil size at ring)
