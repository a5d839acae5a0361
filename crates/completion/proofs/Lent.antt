-- An operation's work on the memory, whose buffers are lent as one: what is done to array, buffer and compare bit one by one is what the work makes of
-- the whole.
-- Assumes nothing.
use mathlib.Core.Path.{◌≡◌, refl, sym, ap, ◌∙◌}
use mathlib.Core.Bool.{Bool}
use mathlib.Core.List.{List, [], ◌∷◌}
use Prim.Native.Nat.{ℕ, ◌*◌}
use lib.ListN.{length}
use types.Run.{OneOf, miss}
use denote.Enum.Declared.{tag_of}
use Rattle.slices.specs.Lists.{splice}
use Rattle.geometry.specs.declared.Geometry.{Geometry}
use Rattle.geometry.specs.Parts.{page_room}
use Rattle.commands.specs.declared.Buffer.{Buffer}
use Rattle.registers.specs.declared.Operation.{Operation}
use Rattle.registers.specs.declared.Work.{Work}
use Rattle.registers.specs.declared.Work.TheVariants.{Rest, Program, ProgramOver, Transfer, Compare, Erase}
use Rattle.registers.specs.contracts.Work.{the_type}
use Rattle.registers.specs.Facts.{facts_of}
use Rattle.registers.specs.Operations.{buffer_used}
use Rattle.memory.specs.Pages.{programmed, programmed_over, transferred, differing, erased}
use Rattle.memory.proofs.Pages.{length-transferred}
use Rattle.state.specs.Lent.{memory_in, buffer_start, lent}
use Rattle.state.specs.Memory.{buffer_in, put_buffer}
use Rattle.state.specs.Completion.{in_target, page_in, bytes_used, worked, completed_memory}
use Rattle.state.proofs.Lent.{lent_length, lent_same, lent-put, lent_in}
use Rattle.completion.specs.Work.{array_by, buffer_by, bit_by}

-- the tags of the works that `work` does by name, and of the others
abbrev pub others : List ℕ
others = 0 ∷ 5 ∷ []

-- the others leave what is lent
pub idle : (g : Geometry) (page : ℕ) (xs buffer : List ℕ) (bit : Bool) (w : Work) → OneOf others (tag_of the_type w)
    → (xs ≡ array_by g page buffer xs w) × (buffer ≡ buffer_by g page xs buffer w) × (bit ≡ bit_by g page xs buffer bit w)
idle g page xs buffer bit Rest h = (refl, refl, refl)
idle g page xs buffer bit Program h = absurd (miss others 1 tt h)
idle g page xs buffer bit ProgramOver h = absurd (miss others 2 tt h)
idle g page xs buffer bit Transfer h = absurd (miss others 3 tt h)
idle g page xs buffer bit Compare h = absurd (miss others 4 tt h)
idle g page xs buffer bit Erase h = (refl, refl, refl)

module _ (g : Geometry) (o : Operation) (b : Buffer) (page : ℕ) (u : b ≡ buffer_used o) (p : page ≡ page_in o) (xs bs : List ℕ) (bit : Bool) where
  does : (w : Work) → (facts_of o).work ≡ w → worked g o (memory_in xs bs bit) w ≡ completed_memory g o (memory_in xs bs bit)
  unfolding completed_memory
  does w e = ap (worked g o (memory_in xs bs bit)) (sym e)

  used : lent b bs ≡ bytes_used o (memory_in xs bs bit)
  used = lent_in b xs bs bit ∙ ap (λ (k : Buffer). buffer_in k (memory_in xs bs bit)) u

  pub erases : {zs : List ℕ} → (facts_of o).work ≡ Erase → zs ≡ in_target (erased g) g o xs → memory_in zs bs bit ≡ completed_memory g o (memory_in xs bs bit)
  erases e h = ap (λ (z : List ℕ). memory_in z bs bit) h ∙ does Erase e

  module _ (long : length bs ≡ 2 * page_room) where
    made : (w : Work) → (w ≡ Erase → ⊥)
        → memory_in (array_by g page (lent b bs) xs w) (splice (buffer_start b) (buffer_by g page xs (lent b bs) w) bs) (bit_by g page xs (lent b bs) bit w) ≡ worked g o (memory_in xs bs bit) w
    made Rest h = ap (λ (l : List ℕ). memory_in xs l bit) (lent_same bs long b)
    made Program h = λ i. memory_in (programmed g (p i) (used i) xs) (lent_same bs long b i) bit
    made ProgramOver h = λ i. memory_in (programmed_over g (p i) (used i) xs) (lent_same bs long b i) bit
    made Transfer h =
        lent-put bs long b (transferred g page xs (lent b bs)) xs bit (length-transferred g page xs (lent b bs) ∙ lent_length bs long b)
        ∙ (λ i. put_buffer (u i) (transferred g (p i) xs (used i)) (memory_in xs bs bit))
    made Compare h = λ i. memory_in xs (lent_same bs long b i) (differing g (p i) xs (used i))
    made Erase h = absurd (h refl)

    pub works : {ys zs : List ℕ} {r : Bool} (w : Work) → (w ≡ Erase → ⊥) → (facts_of o).work ≡ w
        → ys ≡ array_by g page (lent b bs) xs w → zs ≡ splice (buffer_start b) (buffer_by g page xs (lent b bs) w) bs → r ≡ bit_by g page xs (lent b bs) bit w
        → memory_in ys zs r ≡ completed_memory g o (memory_in xs bs bit)
    works w h e a l t = (λ i. memory_in (a i) (l i) (t i)) ∙ made w h ∙ does w e
