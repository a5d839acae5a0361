-- Parts stored one behind the other from a block's first byte on: together they are one list laid over the block, since a part laid
-- right behind another is the two laid as one.
-- Assumes nothing.
use mathlib.Core.Path.{◌≡◌, refl, sym, ap, ◌∙◌}
use mathlib.Core.List.{List, [], ◌∷◌, ◌++◌, append_assoc}
use Prim.Native.Nat.{ℕ, ◌+◌, ◌≤◌}
use native.Mathlib.Nat.{zero-add}
use native.Mathlib.Omega.{arith}
use lib.ListN.{length, set, take, drop, length-append, length-take, length-drop}
use Rattle.slices.specs.Lists.{over, splice}
use Rattle.state.proofs.Lent.{splice-same}
use Rattle.slices.proofs.Laws.{over_nil, splice-zero, splice_nil, splice_cons, splice_append}

-- `front`, which is n bytes long, is stored: `block` was `xs`
pub record Stored (front xs block : List ℕ) (n : ℕ) : Type 0 where
  pub long : length front ≡ n
  pub same : block ≡ over front xs

pub stored-none : (xs : List ℕ) → Stored [] xs xs 0
stored-none xs = record { long = refl; same = sym (over_nil xs) }

pub stored_more : {front xs block next : List ℕ} {n : ℕ} (part : List ℕ) (k : ℕ) → length part ≡ k → Stored front xs block n → next ≡ splice n part block
    → Stored (front ++ part) xs next (n + k)
stored_more {front} {xs} {block} {next} {n} part k l s e =
    record {
      long = length-append front part ∙ (omega (arith, s.long));
      same =
          e ∙ ap (λ (b : List ℕ). splice n part b) (s.same ∙ sym (splice-zero front xs))
          ∙ ap (λ (m : ℕ). splice m part (splice 0 front xs)) (sym s.long ∙ sym (zero-add (length front)))
          ∙ sym (splice_append 0 front part xs) ∙ splice-zero (front ++ part) xs;
    }

-- one byte stored
pub splice_one : (a y : ℕ) (xs : List ℕ) → set xs a y ≡ splice a (y ∷ []) xs
splice_one a y xs = sym (splice_cons a y [] xs ∙ splice_nil (a + 1) (set xs a y))

-- a part that is there already is stored
pub stored_there : {front xs block : List ℕ} {n : ℕ} (part : List ℕ) (k : ℕ) → n + k ≤ length block → take k (drop n block) ≡ part → Stored front xs block n
    → Stored (front ++ part) xs block (n + k)
stored_there {front} {xs} {block} {n} part k h e s =
    let l : length (take k (drop n block)) ≡ k = simp (length-take, length-drop) (omega arith) in
    stored_more part k (ap length (sym e) ∙ l) s (sym (splice-same n k block h) ∙ ap (λ (t : List ℕ). splice n t block) e)

-- five parts, and four, with the brackets moved to the right
pub five : (a b c d e : List ℕ) → (((a ++ b) ++ c) ++ d) ++ e ≡ a ++ (b ++ (c ++ (d ++ e)))
five a b c d e = simp append_assoc

pub four : (a b c d : List ℕ) → ((a ++ b) ++ c) ++ d ≡ a ++ (b ++ (c ++ d))
four a b c d = simp append_assoc
