-- The two buffers lent as one list: a buffer laid over its place is that buffer changed, and the other kept.
-- Assumes nothing.
use mathlib.Core.Path.{◌≡◌, refl, sym, ap, ◌∙◌}
use mathlib.Core.Bool.{Bool}
use mathlib.Core.List.{List, ◌++◌}
use Prim.Native.Nat.{ℕ, ◌+◌, ◌≤◌, ◌*◌}
use native.Mathlib.Omega.{arith}
use lib.ListN.{length, take, drop, length-take, length-drop, take-append-drop}
use lib.Seq.{take_at, drop_at, take_all}
use Rattle.slices.specs.Lists.{splice}
use Rattle.slices.proofs.Laws.{spliced, splice-part, take-splice, drop-splice}
use Rattle.geometry.specs.declared.Geometry.{Geometry}
use Rattle.commands.specs.declared.Buffer.{Buffer}
use Rattle.commands.specs.declared.Buffer.TheVariants.{One, Two}
use Rattle.control.specs.declared.Action.{Action}
use Rattle.state.specs.declared.Chip.{Chip}
use Rattle.state.specs.Lent.{buffer_start, lent, memory_in, acted_on}
use Rattle.state.specs.Memory.{buffer_size, memory_of, buffer_in, put_buffer}
use Rattle.state.specs.Frames.{buffer_written, written, acted}
use Rattle.state.proofs.Lengths.{written-length}

-- a part stored where it was
pub splice-same : (a n : ℕ) (xs : List ℕ) → a + n ≤ length xs → splice a (take n (drop a xs)) xs ≡ xs
splice-same a n xs h =
    let l : n ≡ length (take n (drop a xs)) = simp (length-take, length-drop) (omega arith) in
    sym (spliced a xs {k = n} h l refl)
    ∙ ap (λ (t : List ℕ). take a xs ++ t) (take-append-drop n (drop a xs)) ∙ take-append-drop a xs

-- what lies where it was stored
stored : (a n : ℕ) (l xs : List ℕ) → length l ≡ n → a + n ≤ length xs → take n (drop a (splice a l xs)) ≡ l
stored a n l xs e h = ap (λ (k : ℕ). take k (drop a (splice a l xs))) (sym e) ∙ splice-part a l xs (omega arith)

module _ (bs : List ℕ) (long : length bs ≡ 2 * buffer_size) where
  pub lent_length : (b : Buffer) → length (lent b bs) ≡ buffer_size
  lent_length One = simp (length-take, length-drop) (omega arith)
  lent_length Two = simp (length-take, length-drop) (omega arith)

  pub lent_same : (b : Buffer) → splice (buffer_start b) (lent b bs) bs ≡ bs
  lent_same One = splice-same 0 buffer_size bs (omega arith)
  lent_same Two = splice-same buffer_size buffer_size bs (omega arith)

  pub lent-put : (b : Buffer) (l xs : List ℕ) (bit : Bool) → length l ≡ buffer_size → memory_in xs (splice (buffer_start b) l bs) bit ≡ put_buffer b l (memory_in xs bs bit)
  lent-put One l xs bit e = λ i.
      record {
        array = xs;
        buffer1 = stored 0 buffer_size l bs e (omega arith) i;
        buffer2 = take buffer_size (drop-splice buffer_size 0 l bs (omega arith) i);
        compare = bit;
      }
  lent-put Two l xs bit e = λ i.
      record {
        array = xs;
        buffer1 = take-splice buffer_size buffer_size l bs (omega arith) i;
        buffer2 = stored buffer_size buffer_size l bs e (omega arith) i;
        compare = bit;
      }

pub lent_in : (b : Buffer) (xs bs : List ℕ) (bit : Bool) → lent b bs ≡ buffer_in b (memory_in xs bs bit)
lent_in One xs bs bit = refl
lent_in Two xs bs bit = refl

pub acted-lent : (g : Geometry) (a : Action) (bytes xs bs : List ℕ) (bit : Bool) → length bs ≡ 2 * buffer_size
    → memory_in xs (acted_on g a bytes bs) bit ≡ acted g a bytes (memory_in xs bs bit)
unfolding acted_on acted
acted-lent g a bytes xs bs bit long =
    let b = buffer_written a in
    lent-put bs long b (written g a bytes (lent b bs)) xs bit (written-length g a bytes (lent b bs) ∙ lent_length bs long b)
    ∙ ap (λ (l : List ℕ). put_buffer b (written g a bytes l) (memory_in xs bs bit)) (lent_in b xs bs bit)

-- the chip's buffers, joined
pub memory-joined : (c : Chip) (xs : List ℕ) → length c.buffer1 ≡ buffer_size → length c.buffer2 ≡ buffer_size → memory_in xs (c.buffer1 ++ c.buffer2) c.compare ≡ memory_of c xs
memory-joined c xs h k = λ i.
    record {
      array = xs;
      buffer1 = take_at c.buffer1 c.buffer2 buffer_size h i;
      buffer2 = (ap (λ (t : List ℕ). take buffer_size t) (drop_at c.buffer1 c.buffer2 buffer_size h) ∙ take_all buffer_size c.buffer2 (omega arith)) i;
      compare = c.compare;
    }
