-- What a function of the crate learns at one test, as the definition of the whole frame's row has it: each test in the code is the test of
-- one `cond`.
-- Assumes nothing.
use Rattle.commands.specs.declared.Command.{Command}
use Rattle.std.specs.Prelude.{Option}
use mathlib.Core.Path.{◌≡◌, refl, sym, ap, ◌∙◌}
use mathlib.Core.Bool.{Bool, true, false, not, cond}
use mathlib.Core.List.{List, []}
use Prim.Native.Nat.{ℕ, suc, ◌<◌, ◌≤◌}
use native.Mathlib.Omega.{arith}
use lib.ListN.{length, get_or, take, drop, length-take}
use lib.Seq.{drop-cons}
use borrow.Author.Tests.{eq-eqb, ne_eqb, le-leb, lt-leb}
use Rattle.slices.specs.Lists.{same}
use Rattle.slices.proofs.Laws.{same-lengths}
use Rattle.commands.specs.declared.Decoded.{Decoded}
use Rattle.commands.specs.declared.Effect.TheVariants.{Unlisted}
use Rattle.commands.specs.Table.{sequences, sequence_at}
use Rattle.commands.specs.Decode.{unlisted, begins, sequence_in, opened, lookup_of, complete, decode_of}

-- ---- the four bytes
not-not : (b : Bool) → not (not b) ≡ b
not-not true = refl
not-not false = refl

pub begins-short : (f s : List ℕ) → length f < 4 → length s ≡ 4 → false ≡ begins f s
unfolding begins
begins-short f s h e = sym (same-lengths (take 4 f) s (λ p. omega (arith, length-take 4 f)))

pub begins-long : (f s : List ℕ) (d : Bool) → d ≡ not (same (take 4 f) s) → not d ≡ begins f s
unfolding begins
begins-long f s d e = ap not e ∙ not-not (same (take 4 f) s)

-- row k: it is the frame's, or the rows after it are looked at
pub sequence_here : (k : ℕ) (f : List ℕ) (b : Bool) → k < length sequences → b ≡ begins f (sequence_at k).opening → b ≡ true
    → record { lead = (sequence_at k).lead; effect = (sequence_at k).effect } ≡ sequence_in (drop k sequences) f
unfolding sequence_in sequence_at
sequence_here k f b h e t = rw (drop-cons sequences k (record { opening = []; lead = 0; effect = Unlisted }) h) (rw (sym e ∙ t))

pub sequence_next : (k : ℕ) (f : List ℕ) (b : Bool) → k < length sequences → b ≡ begins f (sequence_at k).opening → b ≡ false
    → sequence_in (drop k sequences) f ≡ sequence_in (drop (suc k) sequences) f
unfolding sequence_in sequence_at
sequence_next k f b h e t = rw (drop-cons sequences k (record { opening = []; lead = 0; effect = Unlisted }) h) (rw (sym e ∙ t))

-- ---- the lead
pub complete-full : (n : ℕ) (d : Decoded) → d.lead ≤ n → d ≡ complete n d
unfolding complete
complete-full n d h = sym (ap (λ (b : Bool). cond b d unlisted) (le-leb d.lead n h))

pub complete-short : (n : ℕ) (d : Decoded) → n < d.lead → unlisted ≡ complete n d
unfolding complete
complete-short n d h = sym (ap (λ (b : Bool). cond b d unlisted) (lt-leb d.lead n h))

-- ---- the frame
pub decode_empty : (f : List ℕ) → length f ≡ 0 → unlisted ≡ decode_of f
unfolding decode_of
decode_empty f h = sym (ap (λ (b : Bool). cond b unlisted (complete (length f) (opened (lookup_of (get_or f 0 0)) f))) (eq-eqb (length f) 0 h))

pub decode_opened : (f : List ℕ) (o : Option Command) (r : Decoded) → (length f ≡ 0 → ⊥) → o ≡ lookup_of (get_or f 0 0) → r ≡ complete (length f) (opened o f)
    → r ≡ decode_of f
unfolding decode_of
decode_opened f o r h e k =
    k
    ∙ ap (λ (g : Option Command). complete (length f) (opened g f)) e
    ∙ sym (ap (λ (b : Bool). cond b unlisted (complete (length f) (opened (lookup_of (get_or f 0 0)) f))) (ne_eqb (length f) 0 h))
