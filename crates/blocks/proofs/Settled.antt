-- A block in which marks, operation and compare bit were stored anew holds the chip that has them: the other parts lie where they lay.
-- Assumes nothing.
use mathlib.Core.Path.{◌≡◌, refl, sym, ap, ◌∙◌}
use mathlib.Core.Bool.{Bool}
use mathlib.Core.List.{List, [], ◌∷◌, ◌++◌, append_assoc}
use Prim.Native.Nat.{ℕ, ◌+◌, ◌≤◌}
use native.Mathlib.Omega.{arith}
use lib.ListN.{length, set, take, drop, get_or, length-set, length-append}
use lib.Dec.{lit≤}
use Rattle.slices.specs.Lists.{splice}
use Rattle.slices.proofs.Laws.{over-whole, length-splice, splice-part, drop-splice}
use Rattle.geometry.specs.Parts.{page_room}
use Rattle.registers.specs.declared.Operation.{Operation}
use Rattle.state.specs.declared.Chip.{Chip}
use Rattle.blocks.specs.Block.{field, flag, flag_byte, head_of, head_bytes, flagged, data_bytes, encode_registers, encode_chip}
use Rattle.blocks.proofs.Lengths.{length-head_bytes, length-data_bytes}
use Rattle.blocks.proofs.Stored.{stored-none, stored_more, stored_there, splice_one}
use Rattle.blocks.proofs.Stores.{part_before}

-- the chip of a block, with other marks and another operation
abbrev pub settled_chip : List ℕ → Bool → Bool → Bool → Bool → Operation → Chip
settled_chip b used protect wp deep o =
    record {
      registers =
          record {
            protection = field 0 16 b;
            lockdown = field 16 16 b;
            user = field 32 64 b;
            factory = field 96 64 b;
            used = used;
            protect = protect;
            wp = wp;
            deep = deep;
            operation = o;
          };
      buffer1 = field 236 page_room b;
      buffer2 = field 500 page_room b;
      compare = flag (get_or b 764 0);
    }

last : (b : List ℕ) (x : ℕ) → length b ≡ 765 → take 1 (drop 764 (set b 764 x)) ≡ x ∷ []
last b x l = ap (λ (t : List ℕ). take 1 (drop 764 t)) (splice_one 764 x b) ∙ splice-part 764 (x ∷ []) b (omega arith)

eight : (a b c d e f g h i : List ℕ) → (((((((a ++ b) ++ c) ++ d) ++ (e ++ f)) ++ g) ++ h) ++ i) ≡ (a ++ (b ++ (c ++ (d ++ (e ++ f))))) ++ (g ++ (h ++ i))
eight a b c d e f g h i = simp append_assoc

pub settled : (b : List ℕ) (p e w d : Bool) (o : Operation) (z : List ℕ) → length b ≡ 765
    → z ≡ splice 160 (head_bytes (flagged p e w d) (head_of o) ++ data_bytes o) (set b 764 (flag_byte (flag (get_or b 764 0))))
    → z ≡ encode_chip (settled_chip b p e w d o)
unfolding encode_chip encode_registers head_bytes
settled b p e w d o z l h =
    let x = flag_byte (flag (get_or b 764 0)) in
    let y = set b 764 x in
    let mid = head_bytes (flagged p e w d) (head_of o) ++ data_bytes o in
    let ly : length y ≡ 765 = length-set b 764 x ∙ l in
    let lm : length mid ≡ 76 = length-append (head_bytes (flagged p e w d) (head_of o)) (data_bytes o) ∙ omega (arith, length-head_bytes (flagged p e w d) (head_of o), length-data_bytes o) in
    let lz : length z ≡ 765 = ap length h ∙ length-splice 160 mid y ∙ ly in
    let after : (a n k : ℕ) → a + (n + k) ≡ 764 → 236 ≤ a → field a n z ≡ field a n b =
    λ a n k s g. ap (λ (t : List ℕ). field a n t) h ∙ ap (λ (t : List ℕ). take n t) (drop-splice a 160 mid y (omega arith)) ∙ ap (λ (m : ℕ). field a n (set b m x)) (sym s) ∙ part_before a n (n + k) b x (omega arith) in
    let s4 =
    stored_there (field 96 64 b) 64 (omega arith) (part_before 96 64 668 b x (lit≤ tt))
    (stored_there (field 32 64 b) 64 (omega arith) (part_before 32 64 732 b x (lit≤ tt))
    (stored_there (field 16 16 b) 16 (omega arith) (part_before 16 16 748 b x (lit≤ tt))
    (stored_there (field 0 16 b) 16 (omega arith) (part_before 0 16 764 b x (lit≤ tt)) (stored-none y))))
    in
    let s8 =
    stored_there (x ∷ []) 1 (omega arith) (ap (λ (t : List ℕ). take 1 (drop 764 t)) h ∙ ap (λ (t : List ℕ). take 1 t) (drop-splice 764 160 mid y (omega arith)) ∙ last b x l)
    (stored_there (field 500 page_room b) page_room (omega arith) (after 500 page_room 0 refl (lit≤ tt))
    (stored_there (field 236 page_room b) page_room (omega arith) (after 236 page_room page_room refl (lit≤ tt))
    (stored_more mid 76 lm s4 h)))
    in
    s8.same ∙ over-whole _ _ (s8.long ∙ sym ly)
    ∙ eight (field 0 16 b) (field 16 16 b) (field 32 64 b) (field 96 64 b) (head_bytes (flagged p e w d) (head_of o)) (data_bytes o) (field 236 page_room b) (field 500 page_room b) (x ∷ [])
