-- WHAT A CALL LEAVES: an undisturbed call comes to its end, so its slot is written as `Stores` has it, every other page is spared, and byte by byte the array
-- is the old one with the slot's bytes in their place.
-- Assumes nothing.
use Rattle.state.specs.declared.Answer.{Answer}
use Rattle.std.specs.Prelude.{Option, Some}
use Prim.Native.Nat.{ℕ, ◌+◌, ◌-◌, ◌*◌, ◌/◌, ◌%◌, ◌<◌, ◌≤◌}
use native.Mathlib.Omega.{arith}
use native.Mathlib.Nat.{mul_comm, add-mul, div-add-mod', mod-lt, mul-le-mul_left}
use mathlib.Core.Path.{◌≡◌, refl, sym, ap, subst, ◌∙◌}
use mathlib.Core.Bool.{Bool, true, false, cond}
use mathlib.Core.List.{List, []}
use mathlib.Core.Logic.{◌⊎◌, inl, inr}
use lib.ListN.{length, get_or, length-replicate}
use lib.Seq.{ext_get_or}
use lib.Dec.{eqb, ltb}
use borrow.Author.Tests.{eqb-true, eqb-false, ltb-true, ltb-false}
use Rattle.slices.specs.Lists.{tabulate, splice}
use Rattle.slices.proofs.Laws.{length-tabulate, get_or-tabulate, tabulate-same, tabulate-get_or, length-splice, splice_before, splice_in, splice-after}
use Rattle.geometry.specs.declared.Geometry.{Geometry}
use Rattle.geometry.specs.Parts.{Sized, page_of, page_start, slot_room}
use Rattle.geometry.proofs.Pages.{sized_own, length-page_of, get_or-page_of, page_few, start_mono, start-next, start_add}
use Rattle.geometry.specs.Sectors.{sector_of}
use Rattle.registers.specs.declared.Operation.{Operation}
use Rattle.registers.specs.declared.Operation.TheVariants.{Idle}
use Rattle.registers.specs.Operations.{writes}
use Rattle.registers.proofs.Operations.{writes_idle}
use Rattle.registers.proofs.Places.{placed_sized}
use Rattle.state.specs.Answers.{number_of}
use Rattle.slots.specs.declared.Kind.{Kind}
use Rattle.slots.specs.declared.Kind.TheVariants.{Put, Patch, Get, Wipe}
use Rattle.state.specs.Memory.{State, chip_in}
use Rattle.state.specs.Outcomes.{part_in, cut_state}
use Rattle.state.specs.Whole.{Whole}
use Rattle.slots.specs.Plans.{Asked, plan_by}
use Rattle.slots.specs.Records.{slot_size, image, changed, patch_verdict, head_size}
use Rattle.slots.specs.Driver.{verdict_answer, weighed, told_by}
use Rattle.slots.specs.Calls.{Request, Secret, refusal_of, start_closed, ran, reached, out_from, answer_in, call_out, call_next}
use Rattle.slots.specs.Lists.{call, asking, asks, secret, call_by, out_of, called_by, next_of}
use Rattle.slots.specs.Exchanges.{Undisturbed}
use Rattle.slots.specs.Quiet.{page_in, KeptSlot}
use Rattle.slots.specs.Leaves.{slot_byte, verdict_for, left_in, Leaves}
use Rattle.slots.proofs.Steady.{array_steady, ran_keeps}
use Rattle.slots.proofs.Accepted.{accepted}
use Rattle.slots.proofs.Listed.{EndsWell, ends_well}
use Rattle.slots.proofs.Kept.{idle_spares, end_kept}
use Rattle.slots.proofs.Stores.{Writer, Wrote, Lawful, cold, call_stores}
use Rattle.slots.proofs.Written.{put_writer, put_lawful, patch_writer, patch_lawful, wipe_writer, wipe_lawful}
use Rattle.slots.proofs.Gets.{call-reads}
use Rattle.slots.proofs.Elsewhere.{call-spares}
use Rattle.slots.specs.declared.Detail.{Detail}
use Rattle.slots.specs.Details.{aim_of, period_of}

-- ---- arrays by their pages

module _ (g : Geometry) (slot : ℕ) where
  -- byte i of page q of the slot is byte size * (q mod 8) + i of the slot
  slot-byte : (q i : ℕ) → 8 * slot ≤ q → q < 8 * slot + 8 → page_start g (8 * slot) + (g.size * (q % 8) + i) ≡ page_start g q + i
  unfolding page_start
  slot-byte q i l u =
      let e : 8 * slot + q % 8 ≡ q = omega arith in
      let m = add-mul (8 * slot) (q % 8) g.size in
      let c = mul_comm (q % 8) g.size in
      let f : q * g.size ≡ 8 * slot * g.size + g.size * (q % 8) = ap (λ (n : ℕ). n * g.size) (sym e) ∙ m ∙ ap (λ (n : ℕ). 8 * slot * g.size + n) c in
      omega (arith, f)

  -- a page of the slot, by the slot's bytes
  pub page_in_slot : (xs : List ℕ) (q : ℕ) → Sized g (length xs) → 8 * slot + 8 ≤ g.pages → 8 * slot ≤ q → q < 8 * slot + 8
      → page_of g q xs ≡ tabulate g.size (λ i. get_or xs (page_start g (8 * slot) + (g.size * (q % 8) + i)) 0)
  page_in_slot xs q z fits l u =
      sym (tabulate-get_or (page_of g q xs) 0) ∙ ap (λ (n : ℕ). tabulate n (λ i. get_or (page_of g q xs) i 0)) (length-page_of g q xs z (omega arith))
      ∙ tabulate-same g.size (λ i. get_or (page_of g q xs) i 0) (λ i. get_or xs (page_start g (8 * slot) + (g.size * (q % 8) + i)) 0)
      (λ i k. get_or-page_of g q xs i k ∙ ap (λ (n : ℕ). get_or xs n 0) (sym (slot-byte q i l u)))

  module _ (xs ys : List ℕ) (b : ℕ → ℕ) (z : Sized g (length xs)) (same : length ys ≡ length xs) (fits : 8 * slot + 8 ≤ g.pages)
      (inside : (q : ℕ) → 8 * slot ≤ q → q < 8 * slot + 8 → page_of g q ys ≡ tabulate g.size (λ i. b (g.size * (q % 8) + i)))
      (outside : (q : ℕ) → q < g.pages → (q / 8 ≡ slot → ⊥) → page_of g q ys ≡ page_of g q xs) where
    abbrev zs : List ℕ
    zs = tabulate (8 * g.size) b

    abbrev start : ℕ
    start = page_start g (8 * slot)

    some : 0 < g.size
    some = omega (arith, z.some)

    -- byte k is byte k mod size of page k div size
    page_byte : (ws : List ℕ) (k : ℕ) → get_or ws k 0 ≡ get_or (page_of g (k / g.size) ws) (k % g.size) 0
    unfolding page_start
    page_byte ws k = ap (λ (n : ℕ). get_or ws n 0) (sym (div-add-mod' k g.size)) ∙ sym (get_or-page_of g (k / g.size) ws (k % g.size) (mod-lt k some))

    each : (k : ℕ) → k < length ys → get_or ys k 0 ≡ get_or (splice start zs xs) k 0
    unfolding page_start
    each k l = go (eqb (k / g.size / 8) slot) refl
      where
        q : ℕ
        q = k / g.size

        i : ℕ
        i = k % g.size

        few : q < g.pages
        few = page_few g k some (omega (arith, z.whole, same, l))

        here : page_start g q + i ≡ k
        here = div-add-mod' k g.size

        long : length zs ≡ 8 * g.size
        long = length-tabulate (8 * g.size) b

        at : 8 * slot ≤ q → q < 8 * slot + 8 → start + (g.size * (q % 8) + i) ≡ k
        at a c = slot-byte q i a c ∙ here

        small : g.size * (q % 8) + i < 8 * g.size
        small = let m : g.size * (q % 8 + 1) ≤ g.size * 8 = mul-le-mul_left g.size (omega arith) in let n = mod-lt k some in omega (arith, m, n)

        go : (x : Bool) → eqb (q / 8) slot ≡ x → get_or ys k 0 ≡ get_or (splice start zs xs) k 0
        go true e =
            let s = eqb-true (q / 8) slot e in
            let a : 8 * slot ≤ q = omega (arith, s) in
            let c : q < 8 * slot + 8 = omega (arith, s) in
            let o = at a c in
            let d : k - start ≡ g.size * (q % 8) + i = omega (arith, o) in
            page_byte ys k ∙ ap (λ (w : List ℕ). get_or w i 0) (inside q a c) ∙ get_or-tabulate g.size (λ j. b (g.size * (q % 8) + j)) i 0 (mod-lt k some)
            ∙ sym (splice_in start zs xs k 0 (omega (arith, o)) (omega (arith, o, long, small)) (omega (arith, same, l))
            ∙ ap (λ (n : ℕ). get_or zs n 0) d ∙ get_or-tabulate (8 * g.size) b (g.size * (q % 8) + i) 0 small)
        go false e =
            let f = eqb-false (q / 8) slot e in
            page_byte ys k ∙ ap (λ (w : List ℕ). get_or w i 0) (outside q few f) ∙ sym (page_byte xs k) ∙ sym (spliced f)
          where
            spliced : (q / 8 ≡ slot → ⊥) → get_or (splice start zs xs) k 0 ≡ get_or xs k 0
            spliced f = side (ltb q (8 * slot)) refl
              where
                side : (x : Bool) → ltb q (8 * slot) ≡ x → get_or (splice start zs xs) k 0 ≡ get_or xs k 0
                side true y =
                    let m = start_mono g (q + 1) (8 * slot) (omega (arith, ltb-true q (8 * slot) y)) in
                    splice_before start zs xs k 0 (omega (arith, m, start-next g q, here, mod-lt k some))
                side false y =
                    let o = ltb-false q (8 * slot) y in
                    let m = start_mono g (8 * slot + 8) q (omega (arith, o, f)) in
                    splice-after start zs xs k 0 (omega (arith, m, start_add g (8 * slot) 8, here, long))

    pub array_written : ys ≡ splice start zs xs
    array_written = ext_get_or 0 ys (splice start zs xs) (same ∙ sym (length-splice start zs xs)) each

-- ---- an undisturbed call

-- what the array holds of the slot, on an idle chip
slot_kept : (g : Geometry) (slot : ℕ) (s : State) → part_in s ≡ Some g → s.registers.operation ≡ Idle → 8 * slot + 8 ≤ g.pages → KeptSlot g slot (slot_byte g slot s.memory.array) s
slot_kept g slot s k i fits =
    let n = length s.memory.array in
    record {
      part = k;
      fits = fits;
      spares = idle_spares g (8 * slot) (8 * slot + 8) s.registers.operation i;
      bytes = λ q l u. page_in_slot g slot s.memory.array q (placed_sized n s.registers.operation g k) fits l u;
    }

module _ (g : Geometry) (slot limit : ℕ) (detail : Detail) (payload junk log lent : List ℕ) (s : State) (whole : Whole (chip_in s)) (k : part_in s ≡ Some g) where
  abbrev n : ℕ
  n = length s.memory.array

  abbrev old : ℕ → ℕ
  old = slot_byte g slot s.memory.array

  abbrev x : Secret
  x = secret payload detail junk lent

  abbrev v : Kind → Request
  v K = asks g (asking K slot limit) detail [] payload junk log lent

  sizes : Sized g n
  sizes = placed_sized n s.registers.operation g k

  module _ (K : Kind) (u : Undisturbed g (asking K slot limit) s.registers) (e : eqb (number_of (refusal_of g n (v K))) 0 ≡ true) where
    well : EndsWell g (asking K slot limit) (v K) x s
    well = ends_well g sizes.short (asking K slot limit) (length log) (length junk) (v K).flaws x s u e

    fits : 8 * slot + 8 ≤ g.pages
    fits = (accepted g n (v K) e).asked.fits

    few : Sized g (g.pages * g.size)
    few = sized_own g _ sizes

    -- an end without a cut
    next_is : call_next g (v K) x s ≡ reached (ran g (v K) x s)
    unfolding call_next
    next_is = ap (λ (b : Bool). cond b (cut_state g junk (reached (ran g (v K) x s))) (reached (ran g (v K) x s))) well.uncut

    -- all but the slot is spared
    spared : (q : ℕ) → q < g.pages → (K ≡ Get) ⊎ (q / 8 ≡ slot → ⊥) → page_of g q (ran g (v K) x s).1.memory.array ≡ page_of g q s.memory.array
    unfolding next_of called_by
    spared q l far =
        ap (λ (t : State). page_of g q t.memory.array) (sym next_is)
        ∙ ap (λ (p : Option Geometry). page_of g q (called_by p (asking K slot limit) detail [] payload junk log lent s).memory.array) (sym k)
        ∙ call-spares (asking K slot limit) detail [] payload junk log lent s g q k l far
        (ap (λ (o : Operation). writes g o q) u.ready.0 ∙ writes_idle g q)

    -- what is left, where the slot's pages are b's
    leaves : (b : ℕ → ℕ) → ((q : ℕ) → 8 * slot ≤ q → q < 8 * slot + 8 → page_of g q (ran g (v K) x s).1.memory.array ≡ page_in g b q)
        → (call_next g (v K) x s).memory.array ≡ splice (page_start g (8 * slot)) (tabulate (8 * g.size) b) s.memory.array
    leaves b inside =
        ap (λ (t : State). t.memory.array) next_is
        ∙ array_written g slot s.memory.array (ran g (v K) x s).1.memory.array b sizes
        (ran_keeps (λ r m. length m.array ≡ n) (array_steady (λ i. i ≡ n)) g (v K) x s refl) fits inside (λ q l f. spared q l (inr f))

    answer_is : (call_out g (v K) x s).answer ≡ verdict_answer (ran g (v K) x s).1.holding.verdict
    unfolding call_out out_from told_by answer_in weighed number_of
    answer_is = ap (λ (t : Option Answer). answer_in (told_by t (ran g (v K) x s).1.holding.verdict)) well.stage

    -- the run of a call that writes its slot
    stored : (W : Writer g K slot) → Lawful g K slot W fits few cold (plan_by K g slot) → W.Opens s.registers s.memory → W.Fresh (8 * slot) (start_closed x s.memory).holding
        → Wrote g K slot W (ran g (v K) x s)
    stored W law o f = call_stores g (v K) W x s k (omega (arith, sizes.most, whole.buffer1)) e fits few law o f well.stage

  -- by the call
  leaves_by : (K : Kind) → Undisturbed g (asking K slot limit) s.registers → eqb (number_of (refusal_of g n (v K))) 0 ≡ true
      → Leaves g (asking K slot limit) (aim_of detail) payload s (call_out g (v K) x s) (call_next g (v K) x s)
  unfolding left_in verdict_for put_writer patch_writer wipe_writer start_closed slot_size aim_of
  leaves_by Put u e =
      let w = stored Put u e (put_writer g slot (period_of detail.term) payload) (put_lawful g slot (period_of detail.term) payload (fits Put u e) (few Put u e)) tt (refl, refl, refl) in
      record {
        answer = answer_is Put u e ∙ ap verdict_answer w.fresh.2;
        array = leaves Put u e (image (period_of detail.term) payload) w.pages;
        registers = ap (λ (t : State). t.registers) (next_is Put u e) ∙ (well Put u e).registers;
      }
  leaves_by Patch u e =
      let one : 1 ≤ g.size = omega (arith, sizes.some) in
      let place = detail.place in
      let w = stored Patch u e (patch_writer g slot place payload old one) (patch_lawful g slot place payload old one (fits Patch u e) (few Patch u e)) (end_kept (slot_kept g slot s k u.ready.0 (fits Patch u e))).bytes
      (record { payload = refl; places = refl; verdict = λ f. absurd (f refl); version = λ f. absurd (f refl); room = omega (arith, sizes.most, length-replicate {A = ℕ} slot_room 0) }) in
      record {
        answer = answer_is Patch u e ∙ ap verdict_answer (w.fresh.verdict (λ f. absurd (omega (arith, f))));
        array = leaves Patch u e (λ i. changed (patch_verdict g (place + length payload) (page_in g old 0)) (head_size (old 0)) place payload (old i) i) w.pages;
        registers = ap (λ (t : State). t.registers) (next_is Patch u e) ∙ (well Patch u e).registers;
      }
  leaves_by Get u e =
      let o = slot_kept g slot s k u.ready.0 (fits Get u e) in
      let got = call-reads g slot limit [] (length log) (length junk) (v Get).flaws old x s (omega (arith, sizes.some)) o e (well Get u e).stage in
      record {
        answer = answer_is Get u e ∙ ap verdict_answer got.verdict;
        array = leaves Get u e old (λ q l j. spared Get u e q (omega (arith, fits Get u e, j)) (inl refl) ∙ o.bytes q l j);
        registers = ap (λ (t : State). t.registers) (next_is Get u e) ∙ (well Get u e).registers;
      }
  leaves_by Wipe u e =
      let w = stored Wipe u e (wipe_writer g slot) (wipe_lawful g slot (fits Wipe u e) (few Wipe u e)) tt refl in
      record {
        answer = answer_is Wipe u e ∙ ap verdict_answer w.fresh;
        array = leaves Wipe u e (λ _. 255) w.pages;
        registers = ap (λ (t : State). t.registers) (next_is Wipe u e) ∙ (well Wipe u e).registers;
      }

-- WHAT A CALL LEAVES, where it is undisturbed
pub call-leaves : (g : Geometry) (a : Asked) (detail : Detail) (payload junk log lent : List ℕ) (s : State) → Whole (chip_in s) → part_in s ≡ Some g → Undisturbed g a s.registers
    → eqb (number_of (refusal_of g (length s.memory.array) (asks g a detail [] payload junk log lent))) 0 ≡ true
    → Leaves g a (aim_of detail) payload s (out_of (call a detail [] payload junk log lent) s) (next_of (call a detail [] payload junk log lent) s)
unfolding out_of call_by next_of called_by
call-leaves g a detail payload junk log lent s w k u e =
    subst (λ (p : Option Geometry). Leaves g a (aim_of detail) payload s (call_by p a detail [] payload junk log lent s) (called_by p a detail [] payload junk log lent s)) (sym k)
    (leaves_by g a.slot a.limit detail payload junk log lent s w k a.kind u e)
