-- Laws of the texts: a name has at most 7 characters and what is said of it at most 48, so a text has at most 64; and a text laid
-- behind another makes one text with it.
-- Assumes nothing.
use mathlib.Core.Path.{◌≡◌, sym, ap, subst, ◌∙◌}
use mathlib.Core.List.{List, ◌++◌}
use Prim.Native.Nat.{ℕ, ◌+◌, ◌≤◌}
use native.Mathlib.Omega.{arith}
use lib.ListN.{length, length-append}
use Rattle.slices.specs.Lists.{splice}
use Rattle.slices.proofs.Laws.{splice_append}
use Rattle.words.specs.Letters.{bytes}
use Rattle.faults.specs.Messages.{Put, key_text, name_text, over_text, text_of}
use Rattle.words.specs.declared.Key.{Key}
use Rattle.faults.specs.declared.Name.{Name}
use Rattle.faults.specs.declared.Fault.{Fault}

key_short : (k : Key) → length (key_text k) ≤ 7
unfolding key_text
key_short Key.Limit = omega arith
key_short Key.Script = omega arith
key_short Key.Seed = omega arith
key_short Key.Junk = omega arith
key_short Key.Log = omega arith
key_short Key.Buffer = omega arith
key_short Key.Reply = omega arith
key_short Key.First = omega arith
key_short Key.Last = omega arith
key_short Key.Today = omega arith

name_short : (n : Name) → length (name_text n) ≤ 7
unfolding name_text
name_short Name.Slot = omega arith
name_short Name.Place = omega arith
name_short Name.Hex = omega arith
name_short Name.Seed = omega arith
name_short Name.Level = omega arith
name_short Name.Part = omega arith
name_short (Name.Option k) = key_short k

over-short : (k : Key) → length (over_text k) ≤ 48
unfolding over_text
over-short Key.Limit = omega arith
over-short Key.Script = omega arith
over-short Key.Seed = omega arith
over-short Key.Junk = omega arith
over-short Key.Log = omega arith
over-short Key.Buffer = omega arith
over-short Key.Reply = omega arith
over-short Key.First = omega arith
over-short Key.Last = omega arith
over-short Key.Today = omega arith

two_short : (xs ys : List ℕ) → length xs ≤ 7 → length ys ≤ 48 → length (xs ++ ys) ≤ 64
two_short xs ys h k = simp length-append (omega arith)

text-short : (f : Fault) → length (text_of f) ≤ 64
unfolding text_of
text-short Fault.TooLong = omega arith
text-short Fault.NoCommand = omega arith
text-short Fault.UnknownCommand = omega arith
text-short (Fault.Missing n) = two_short (name_text n) (bytes " is missing") (name_short n) (omega arith)
text-short (Fault.NotNumber n) = two_short (name_text n) (bytes " is not a number") (name_short n) (omega arith)
text-short (Fault.NotDate n) = two_short (name_text n) (bytes " is not a date") (name_short n) (omega arith)
text-short (Fault.TooLarge n) = two_short (name_text n) (bytes " is too large") (name_short n) (omega arith)
text-short (Fault.NotHex n) =
    two_short (name_text n) (bytes " has a character that is not a hexadecimal digit") (name_short n) (omega arith)
text-short (Fault.Odd n) = two_short (name_text n) (bytes " has an odd number of digits") (name_short n) (omega arith)
text-short Fault.NotLevel = omega arith
text-short Fault.NotPart = omega arith
text-short Fault.UnknownOption = omega arith
text-short Fault.TooManyWords = omega arith
text-short Fault.Twice = omega arith
text-short (Fault.Over k) = two_short (key_text k) (over_text k) (key_short k) (over-short k)

-- one text behind another
put_two : (ys zs xs ms os : List ℕ) (a r : ℕ) → Put 0 ys xs ms a → Put a zs ms os r → Put 0 (ys ++ zs) xs os r
put_two ys zs xs ms os a r p q =
    record {
      end = simp length-append (omega (arith, p.end, q.end));
      laid =
          q.laid ∙ ap (λ (n : ℕ). splice n zs ms) p.end ∙ ap (splice (0 + length ys) zs) p.laid ∙ sym (splice_append 0 ys zs xs);
    }

-- both parts of a text together have at most 64 characters
pub parts-short : (xs ys : List ℕ) (f : Fault) → xs ++ ys ≡ text_of f → length xs + length ys ≤ 64
parts-short xs ys f e =
    let t = text-short f in
    let l = ap length e in
    omega (arith, simp length-append at l)

-- the two parts laid one behind the other
pub said : {ys zs : List ℕ} (f : Fault) (xs ms os : List ℕ) (a r : ℕ) → ys ++ zs ≡ text_of f → Put 0 ys xs ms a → Put a zs ms os r → Put 0 (text_of f) xs os r × (r ≤ 64)
said {ys} {zs} f xs ms os a r e p q =
    (subst (λ (t : List ℕ). Put 0 t xs os r) e (put_two ys zs xs ms os a r p q), omega (arith, parts-short ys zs f e, p.end, q.end))
