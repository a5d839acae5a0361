-- What an entry point leaves in a block is read back as it is: the chip stays one that a block can hold. Registers and buffers keep their
-- lengths; an operation that a frame starts names something of the part, or has data made of the frame's bytes; any other entry point leaves
-- the operation or none.
-- Assumes nothing.
use Rattle.std.specs.Prelude.{None, Option, Some}
use mathlib.Core.Path.{◌≡◌, refl, sym, ap, subst, subst⁻¹, ◌∙◌}
use mathlib.Core.Bool.{Bool, true}
use mathlib.Core.List.{List, [], ◌∷◌}
use Prim.Native.Nat.{ℕ, zero, suc, ◌+◌, ◌%◌, ◌/◌, ◌^◌, ◌<◌}
use native.Mathlib.Omega.{arith}
use lib.ListN.{length, set, drop, get_or, replicate}
use lib.Seq.{get_or-drop}
use lib.Dec.{lit<}
use lib.Pow.{pow_mono}
use borrow.Author.Tests.{ltb-true}
use Rattle.slices.specs.Lists.{ring_write}
use Rattle.slices.proofs.Words.{word_at-small}
use Rattle.geometry.specs.declared.Geometry.{Geometry}
use Rattle.geometry.specs.Parts.{part_of, register_room, Sized}
use Rattle.geometry.specs.Sectors.{sector_count}
use Rattle.geometry.proofs.Sectors.{sectors_few}
use Rattle.registers.specs.declared.Named.{Named}
use Rattle.registers.specs.declared.Named.TheVariants.{Nothing, Page, Block, Sector, Sectors}
use Rattle.registers.specs.declared.Operation.{Operation}
use Rattle.registers.specs.declared.Registers.{Registers}
use Rattle.registers.specs.Data.{padded, pack16, pack64}
use Rattle.registers.specs.Facts.{facts_of, update_of}
use Rattle.registers.specs.Operations.{has, within}
use Rattle.registers.proofs.Places.{placed_sized}
use Rattle.control.specs.Control.{protection_data, security_data, control}
use Rattle.control.specs.PowerLoss.{reaching}
use Rattle.control.specs.Starts.{Starts, programs, programs-over, transfers, compares, rewrites, erases_page, erases_block, erases_sector, erases_chip, erases_protection, programs-protection, locks_sector, programs_security}
use Rattle.control.proofs.Rows.{control-operation, starts-within}
use Rattle.control.proofs.Ends.{completed-operation, lost-operation}
use Rattle.state.specs.declared.Answer.{Answer}
use Rattle.state.specs.declared.Answer.TheVariants as Answers
use Rattle.state.specs.declared.Chip.{Chip}
use Rattle.state.specs.declared.Outcome.{Outcome}
use Rattle.state.specs.Answers.{number_of}
use Rattle.state.specs.Memory.{State, state_of, chip_in}
use Rattle.state.specs.Outcomes.{Left, left, Leaves, part_in, fresh_registers, fresh_state, fresh_by, fresh_outcome, sent_state, ended_state, end_outcome, pinned_state, pin_outcome, cut_state, cut_outcome}
use Rattle.state.proofs.Accepted.{end_cases, cut_cases}
use Rattle.state.specs.Whole.{Whole}
use Rattle.state.proofs.Whole.{sent-whole, ended-whole, cut-whole}
use Rattle.blocks.specs.Block.{decode_chip, encode_chip}
use Rattle.blocks.specs.Holds.{Words16, Words64, Numbered, Worded, Fitting, Holds}
use Rattle.blocks.specs.Promises.{held_in, stored_by, stored_in, Met, MetFresh, pin_moved, MetPin}
use Rattle.blocks.proofs.RoundTrip.{decode_encode}
use Rattle.blocks.proofs.Stores.{stored-done, stored_same, pin-moved}

-- ---- bytes
abbrev pub Bytes : List ℕ → Type 0
Bytes xs = (k : ℕ) → get_or xs k 0 < 256

bytes-set : (xs : List ℕ) (at y : ℕ) → y < 256 → Bytes xs → Bytes (set xs at y)
bytes-set [] at y l h k = h k
bytes-set (x ∷ xs) zero y l h zero = l
bytes-set (x ∷ xs) zero y l h (suc k) = h (suc k)
bytes-set (x ∷ xs) (suc at) y l h zero = h zero
bytes-set (x ∷ xs) (suc at) y l h (suc k) = bytes-set xs at y l (λ j. h (suc j)) k

bytes_ring : (size at : ℕ) (ys xs : List ℕ) → Bytes ys → Bytes xs → Bytes (ring_write size at ys xs)
unfolding ring_write
bytes_ring size at [] xs h b = b
bytes_ring size at (y ∷ ys) xs h b = bytes_ring size ((at + 1) % size) ys (set xs at y) (λ j. h (suc j)) (bytes-set xs at y (h zero) b)

bytes_fill : (n : ℕ) → Bytes (replicate n 255)
bytes_fill zero k = lit< tt
bytes_fill (suc n) zero = lit< tt
bytes_fill (suc n) (suc k) = bytes_fill n k

-- the data of an FC or a 9B
bytes-padded : (n a : ℕ) (f : List ℕ) → Bytes f → Bytes (padded n (drop a f))
unfolding padded
bytes-padded n a f h = bytes_ring n 0 (drop a f) (replicate n 255) (λ k. subst⁻¹ (λ (x : ℕ). x < 256) (get_or-drop a f k 0) (h (a + k))) (bytes_fill n)

words16 : (g : Geometry) (f : List ℕ) → Bytes f → Words16 (protection_data g f)
unfolding protection_data pack16
words16 g f h =
    let b = bytes-padded g.register 4 f h in
    let w : (a : ℕ) → _ = λ a. word_at-small (padded g.register (drop 4 f)) a (λ k _. b (a + k)) in
    record { a = w 0; b = w 8 }

words64 : (f : List ℕ) → Bytes f → Words64 (security_data f)
unfolding security_data pack64
words64 f h =
    let b = bytes-padded 64 4 f h in
    let w : (a : ℕ) → _ = λ a. word_at-small (padded 64 (drop 4 f)) a (λ k _. b (a + k)) in
    record { a = w 0; b = w 8; c = w 16; d = w 24; e = w 32; f = w 40; g = w 48; h = w 56 }

-- ---- a frame: what is under way behind it fits a block
module _ (g : Geometry) (n : ℕ) (z : Sized g n) where
  numbered : (x : Named) → has g x ≡ true → Numbered x
  numbered Nothing h = tt
  numbered (Page page) h = omega (arith, ltb-true page g.pages h, z.few)
  numbered (Block block) h = omega (arith, ltb-true block (g.pages / 8) h, z.few)
  numbered (Sector s) h = omega (arith, ltb-true s (sector_count g) h, sectors_few g n z)
  numbered (Sectors sectors) h =
      omega (arith, ltb-true sectors (2 ^ sector_count g) h, pow_mono {i = sector_count g} {j = register_room + 1} (sectors_few g n z))

  module _ (r : Registers) (f : List ℕ) (b : Bytes f) where
    worded : (o : Operation) → Starts g r f o → Worded (update_of o)
    worded o (programs x a u) = tt
    worded o (programs-over x a u) = tt
    worded o (transfers x a) = tt
    worded o (compares x a) = tt
    worded o (rewrites x a u) = tt
    worded o (erases_page a u) = tt
    worded o (erases_block a u) = tt
    worded o (erases_sector a u) = tt
    worded o erases_chip = tt
    worded o (erases_protection u) = tt
    worded o (programs-protection u) = words16 g f b
    worded o (locks_sector a) = tt
    worded o (programs_security u) = words64 f b

    control-fits : Fitting r.operation → Fitting (control g r f).registers.operation
    unfolding within
    control-fits u = control-operation g r f Fitting u (λ o y s. (numbered (facts_of o).names (starts-within g n r f o z s), worded o s))

-- ---- the chip that is left
module _ (s : State) (h : Holds (chip_in s)) (g : Geometry) where
  pub sent-holds : (f : List ℕ) → Bytes f → part_in s ≡ Some g → Holds (chip_in (sent_state g f s))
  unfolding sent_state
  sent-holds f b p =
      record {
        whole = sent-whole s h.whole g f;
        operation = control-fits g _ (placed_sized (length s.memory.array) s.registers.operation g p) s.registers f b h.operation;
      }

  pub ended-holds : Holds (chip_in (ended_state g s))
  unfolding ended_state
  ended-holds = record { whole = ended-whole s h.whole g; operation = subst⁻¹ Fitting (completed-operation g s.registers) (tt, tt) }

  pub cut_holds : (junk : List ℕ) → Holds (chip_in (cut_state g junk s))
  unfolding cut_state
  cut_holds junk =
      record {
        whole = cut-whole s h.whole g junk;
        operation = subst⁻¹ Fitting (lost-operation g s.registers (reaching g s.registers.operation junk)) (tt, tt);
      }

-- ---- the block that is left

-- what it holds is what is left
abbrev pub Back : List ℕ → Left → Type 0
Back held o = held_in (stored_in held o) o.state.memory.array ≡ o.state

done_back : (held : List ℕ) (t : State) (reply : List ℕ) → Holds (chip_in t) → Back held (left Answers.Done t reply)
done_back held t reply h = λ i. state_of (stored-done held (chip_in t) h i) t.memory.array

module _ (held xs : List ℕ) (h : Holds (decode_chip held)) where
  same_back : (reply : List ℕ) (a : Answer) → Back held (left a (held_in held xs) reply)
  same_back reply a = λ i. state_of (stored_same held a h i) xs

  pub ended_back : Back held (end_outcome (held_in held xs))
  ended_back = end_cases (held_in held xs) (Back held) (same_back []) (λ g p. done_back held (ended_state g (held_in held xs)) [] (ended-holds (held_in held xs) h g))

  pub cut_back : (junk : List ℕ) → Back held (cut_outcome junk (held_in held xs))
  cut_back junk = cut_cases (held_in held xs) (Back held) junk (same_back []) (λ g p. done_back held (cut_state g junk (held_in held xs)) [] (cut_holds (held_in held xs) h g junk))

-- ---- promises met

pub met-done : {o : Left} {kept xs ys reply : List ℕ} (held : List ℕ) (t : State) → o ≡ left Answers.Done t reply → Holds (chip_in t) → kept ≡ encode_chip (chip_in t)
    → xs ≡ t.memory.array → ys ≡ reply → Met held o 0 kept xs ys
unfolding number_of stored_by
met-done {kept = kept} {xs = xs} {ys = ys} held t e h b x y =
    subst⁻¹ (λ (k : Left). Met held k 0 kept xs ys) e
    (record { answer = refl; block = b; array = x; reply = y; holds = λ i. state_of ((ap decode_chip b ∙ decode_encode (chip_in t) h) i) (x i) })

pub met-refused : {o : Left} {n : ℕ} (a : Answer) (held xs ys : List ℕ) → o ≡ left a (held_in held xs) ys → n ≡ number_of a → held ≡ stored_by held a (decode_chip held)
    → Met held o n held xs ys
met-refused {n = n} a held xs ys e q b = subst⁻¹ (λ (k : Left). Met held k n held xs ys) e (record { answer = q; block = b; array = refl; reply = refl; holds = refl })

-- what a function of crate chip leaves of the chip that was read
pub leaves_read : {c d : Chip} {r : Outcome} {xs ys : List ℕ} (o : Chip → Left) → c ≡ d → Leaves (o c) r xs ys → Leaves (o d) r xs ys
leaves_read {r = r} {xs = xs} {ys = ys} o e = subst (λ (k : Chip). Leaves (o k) r xs ys) e

-- .. stored
pub met-stored : {kept xs ys : List ℕ} {o : Left} {c : Outcome} {r : ℕ} (held : List ℕ) → Leaves o c xs ys → r ≡ number_of c.answer → kept ≡ stored_by held c.answer c.chip
    → Back held o → Met held o r kept xs ys
met-stored held l a b h =
    let k = b ∙ (λ i. stored_by held (l.answer i) (l.chip i)) in
    record { answer = a ∙ ap number_of l.answer; block = k; array = l.array; reply = l.reply; holds = (λ i. held_in (k i) (l.array i)) ∙ h }

-- a fresh chip
pub met_fresh : {kept xs : List ℕ} {c : Outcome} {r : ℕ} (held factory array : List ℕ) → Whole c.chip → Leaves (fresh_outcome factory array) c xs [] → r ≡ number_of c.answer
    → kept ≡ stored_by held c.answer c.chip → MetFresh held (fresh_outcome factory array) r kept xs
unfolding fresh_outcome fresh_by fresh_state fresh_registers number_of
met_fresh held factory array w l a b =
    let k = b ∙ (λ i. stored_by held (l.answer i) (l.chip i)) in
    let e = a ∙ ap number_of l.answer in
    record { answer = e; block = k; array = l.array; holds = λ z. (λ i. held_in (k i) (l.array i)) ∙ go (part_of (length array)) (subst Whole l.chip w) (sym e ∙ z) }
  where
    go : (p : Option Geometry) → Whole (chip_in (fresh_by p factory array).state) → number_of (fresh_by p factory array).answer ≡ 0 → Back held (fresh_by p factory array)
    go None v z = absurd (omega arith)
    go (Some g) v z = done_back held (fresh_state factory (replicate (length array) 255)) [] (record { whole = v; operation = (tt, tt) })

-- a pin move
pub met-pin : {kept : List ℕ} (held : List ℕ) (high : Bool) → length held ≡ 765 → kept ≡ pin_moved held high → MetPin held high 0 kept
unfolding pin_outcome pinned_state
met-pin held high l e = record { answer = refl; block = e; holds = λ xs. (λ i. state_of ((ap decode_chip e ∙ pin-moved held high l) i) xs) }
