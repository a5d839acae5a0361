-- The table's rule, proved once: antt computes one test over all rows, and a frame's row is one of them or none.
-- Each opcode stands in one row: the place of row i's opcode, computed for the 31 rows, is i.
-- Assumes nothing.
use Rattle.std.specs.Prelude.{Option, Some}
use mathlib.Core.Path.{◌≡◌, refl, sym, ap, subst, ◌∙◌}
use mathlib.Core.Bool.{Bool, true, false, not, ◌&&◌, ◌||◌, cond}
use mathlib.Core.List.{List, [], ◌∷◌, map}
use mathlib.Core.Logic.{◌⊎◌, inl, inr, ⊎_elim}
use Prim.Native.Nat.{ℕ, ◌<◌, ◌≤◌, zero-le}
use native.Mathlib.Omega.{arith}
use lib.ListN.{length, get_or, replicate}
use lib.Dec.{T, eqb, leb, leb→le, eqb→eq}
use borrow.Author.Tests.{leb-true}
use Rattle.slices.specs.Lists.{same, tabulate}
use Rattle.slices.proofs.Laws.{get_or-tabulate}
use Rattle.commands.specs.declared.Buffer.{Buffer}
use Rattle.commands.specs.declared.Command.{Command}
use Rattle.commands.specs.declared.Decoded.{Decoded}
use Rattle.commands.specs.declared.Effect.TheVariants.{WriteBuffer, ProgramThrough, ProgramProtection, ProgramSecurity}
use Rattle.commands.specs.Table.{Sequence, commands, sequences, row_at}
use Rattle.commands.specs.Decode.{unlisted, place_in, place_of, lookup_in, lookup_of, begins, sequence_in, opened, complete, decode_of}
use Rattle.commands.specs.Room.{room, takes, Ruled, of_command, of_sequence, Each}
use Rattle.commands.proofs.Places.{found_row}

-- ---- the rule of each row
abbrev every : {A : Type 0} → (A → Bool) → List A → Bool
every g [] = true
every g (x ∷ xs) = g x && every g xs

left : (a b : Bool) → T (a && b) → T a
left true b t = tt
left false b t = t

right : (a b : Bool) → T (a && b) → T b
right true b t = t
right false b t = absurd t

each : {A : Type 0} (P : A → Type 0) (g : A → Bool) → ((x : A) → T (g x) → P x) → (xs : List A) → T (every g xs) → Each P xs
each P g p [] t = tt
each P g p (x ∷ xs) t = (p x (left (g x) (every g xs) t), each P g p xs (right (g x) (every g xs) t))

four : (a b c d : Bool) → T (a && (b && (c && d))) → T a × T b × T c × T d
four true true true d t = (tt, tt, tt, t)
four true true false d t = absurd t
four true false c d t = absurd t
four false b c d t = absurd t

then : (a b : Bool) → T (not a || b) → a ≡ true → T b
then true b t e = t
then false b t e = absurd (subst T (sym e) tt)

follows : Decoded → Bool
follows d = leb 1 d.lead && (leb d.lead 8 && (leb (room d.effect) d.lead && (not (takes d.effect) || eqb d.lead 4)))

ruled : (d : Decoded) → T (follows d) → Ruled d
unfolding follows
ruled d t =
    let k = four (leb 1 d.lead) (leb d.lead 8) (leb (room d.effect) d.lead) (not (takes d.effect) || eqb d.lead 4) t in
    record {
      least = leb→le 1 d.lead k.0;
      most = leb→le d.lead 8 k.1;
      address = leb→le (room d.effect) d.lead k.2;
      start = λ e. eqb→eq d.lead 4 (then (takes d.effect) (eqb d.lead 4) k.3 e);
    }

pub commands-ruled : Each (λ (c : Command). Ruled (of_command c)) commands
unfolding follows commands room takes
commands-ruled = each (λ (c : Command). Ruled (of_command c)) (λ c. follows (of_command c)) (λ c t. ruled (of_command c) t) commands tt

pub sequences-ruled : Each (λ (s : Sequence). Ruled (of_sequence s)) sequences
unfolding follows sequences room takes
sequences-ruled = each (λ (s : Sequence). Ruled (of_sequence s)) (λ s. follows (of_sequence s)) (λ s t. ruled (of_sequence s) t) sequences tt

-- ---- a frame's row is one of them, or none
either : (Q : Decoded → Type 0) (b : Bool) (x y : Decoded) → Q x → Q y → Q (cond b x y)
either Q true x y p q = p
either Q false x y p q = q

row_or : (Q : Decoded → Type 0) (b : Bool) (c : Command) (o : Option Command) (f : List ℕ) → Q (of_command c) → Q (opened o f) → Q (opened (cond b (Some c) o) f)
unfolding opened
row_or Q true c o f p q = p
row_or Q false c o f p q = q

module _ (Q : Decoded → Type 0) (none : Q unlisted) (f : List ℕ) where
  in_sequences : (ss : List Sequence) → Each (λ (s : Sequence). Q (of_sequence s)) ss → Q (sequence_in ss f)
  unfolding sequence_in
  in_sequences [] e = none
  in_sequences (s ∷ ss) e = either Q (begins f s.opening) (of_sequence s) (sequence_in ss f) e.0 (in_sequences ss e.1)

  in_commands : (cs : List Command) (op : ℕ) → Each (λ (c : Command). Q (of_command c)) cs → Each (λ (s : Sequence). Q (of_sequence s)) sequences
      → Q (opened (lookup_in cs op) f)
  unfolding lookup_in opened
  in_commands [] op e k = in_sequences sequences k
  in_commands (c ∷ cs) op e k = row_or Q (eqb c.0 op) c (lookup_in cs op) f e.0 (in_commands cs op e.1 k)

  pub decode_each : Each (λ (c : Command). Q (of_command c)) commands → Each (λ (s : Sequence). Q (of_sequence s)) sequences → Q (decode_of f)
  unfolding decode_of complete lookup_of
  decode_each e k =
      let d = opened (lookup_of (get_or f 0 0)) f in
      either Q (eqb (length f) 0) unlisted (complete (length f) d) none
      (either Q (leb d.lead (length f)) d unlisted (in_commands commands (get_or f 0 0) e k) none)

each_is : {A : Type 0} (P Q : A → Type 0) → ((x : A) → P x → Q x) → (xs : List A) → Each P xs → Each Q xs
each_is P Q p [] e = tt
each_is P Q p (x ∷ xs) e = (p x e.0, each_is P Q p xs e.1)

pub decode_ruled : (f : List ℕ) → (decode_of f ≡ unlisted) ⊎ Ruled (decode_of f)
decode_ruled f =
    decode_each (λ d. (d ≡ unlisted) ⊎ Ruled d) (inl refl) f
    (each_is (λ (c : Command). Ruled (of_command c)) (λ c. (of_command c ≡ unlisted) ⊎ Ruled (of_command c)) (λ c r. inr r) commands commands-ruled)
    (each_is (λ (s : Sequence). Ruled (of_sequence s)) (λ s. (of_sequence s ≡ unlisted) ⊎ Ruled (of_sequence s)) (λ s r. inr r) sequences sequences-ruled)

-- ---- a frame's row
full : (n : ℕ) (d : Decoded) (b : Bool) → leb d.lead n ≡ b → (cond b d unlisted).lead ≤ n
full n d true e = leb-true d.lead n e
full n d false e = zero-le

-- the frame holds its row's lead
pub decode_lead : (f : List ℕ) → (decode_of f).lead ≤ length f
unfolding decode_of complete
decode_lead f =
    either (λ d. d.lead ≤ length f) (eqb (length f) 0) unlisted (complete (length f) (opened (lookup_of (get_or f 0 0)) f)) zero-le
    (full (length f) (opened (lookup_of (get_or f 0 0)) f) (leb (opened (lookup_of (get_or f 0 0)) f).lead (length f)) refl)

-- and its address
pub decode_room : (f : List ℕ) → room (decode_of f).effect ≤ length f
unfolding room
decode_room f =
    ⊎_elim
    (λ e. subst (λ (d : Decoded). room d.effect ≤ length f) (sym e) zero-le)
    (λ r. omega (arith, r.address, decode_lead f))
    (decode_ruled f)

-- data begin at byte 4
pub decode_data : (f : List ℕ) → takes (decode_of f).effect ≡ true → (decode_of f).lead ≡ 4
unfolding takes
decode_data f h = ⊎_elim (λ e. absurd (subst T (sym (sym (ap (λ (d : Decoded). takes d.effect) e) ∙ h)) tt)) (λ r. r.start h) (decode_ruled f)

pub write_lead : (f : List ℕ) (b : Buffer) → (decode_of f).effect ≡ WriteBuffer b → (decode_of f).lead ≡ 4
unfolding takes
write_lead f b e = decode_data f (ap takes e)

pub through_lead : (f : List ℕ) (b : Buffer) → (decode_of f).effect ≡ ProgramThrough b → (decode_of f).lead ≡ 4
unfolding takes
through_lead f b e = decode_data f (ap takes e)

pub protection-lead : (f : List ℕ) → (decode_of f).effect ≡ ProgramProtection → (decode_of f).lead ≡ 4
unfolding takes
protection-lead f e = decode_data f (ap takes e)

pub security_lead : (f : List ℕ) → (decode_of f).effect ≡ ProgramSecurity → (decode_of f).lead ≡ 4
unfolding takes
security_lead f e = decode_data f (ap takes e)

-- ---- each opcode once
in_order : tabulate 31 (λ i. place_of (row_at i).0) ≡ tabulate 31 (λ i. i)
unfolding tabulate place_of place_in row_at commands
in_order = refl

row-place : (i : ℕ) → i < 31 → place_of (row_at i).0 ≡ i
row-place i h =
    sym (get_or-tabulate 31 (λ k. place_of (row_at k).0) i 0 h) ∙ ap (λ (l : List ℕ). get_or l i 0) in_order ∙ get_or-tabulate 31 (λ k. k) i 0 h

pub opcodes_distinct : (i j : ℕ) → i < 31 → j < 31 → (row_at i).0 ≡ (row_at j).0 → i ≡ j
opcodes_distinct i j h k e = sym (row-place i h) ∙ ap place_of e ∙ row-place j k

-- so each row is found by its opcode
pub row_found : (i : ℕ) → i < 31 → lookup_of (row_at i).0 ≡ Some (row_at i)
row_found i h = sym (found_row (row_at i).0 i (row_at i) (sym (row-place i h)) h refl)

-- no four-byte opening begins with an opcode, and each is found as its own row
pub openings_apart : map (λ (s : Sequence). place_of (get_or s.opening 0 0)) sequences ≡ replicate 7 31
unfolding place_of place_in commands sequences
openings_apart = refl

pub sequences_found : map (λ (s : Sequence). sequence_in sequences s.opening) sequences ≡ map of_sequence sequences
unfolding sequence_in sequences begins same
sequences_found = refl
