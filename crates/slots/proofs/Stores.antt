-- A put, patch or wipe that comes to its end has written its slot: after a ready status the chip is idle and awake, a sector that the driver takes for
-- open is open, so each 84 and 83, or the 50, is obeyed; and the next ready status tells that it has ended. The 60 then finds page and buffer
-- alike, so that the wait after it hands up no compare bit.
-- Assumes nothing.
use Rattle.std.specs.Prelude.{Some, None}
use Prim.Native.Nat.{ℕ, zero, suc, ◌+◌, ◌-◌, ◌*◌, ◌/◌, ◌%◌, ◌<◌, ◌≤◌}
use native.Mathlib.Omega.{arith}
use mathlib.Core.Path.{◌≡◌, refl, sym, ap, subst, ◌∙◌}
use mathlib.Core.Bool.{Bool, true, false, cond, ◌&&◌, ◌||◌}
use mathlib.Core.List.{List, [], ◌∷◌, ◌++◌}
use mathlib.Core.Logic.{◌⊎◌, inl, inr}
use lib.ListN.{length, get_or, take, replicate}
use lib.Dec.{eqb, lit<}
use borrow.Author.Tests.{eqb-true, eqb-false}
use Rattle.slices.specs.Lists.{tabulate}
use Rattle.slices.proofs.Laws.{length-tabulate, tabulate-same, tabulate_const}
use Rattle.geometry.specs.declared.Geometry.{Geometry}
use Rattle.geometry.specs.Parts.{part_of, register_room, Sized, page_of, run}
use Rattle.geometry.specs.Sectors.{sector_of}
use Rattle.geometry.proofs.Pages.{sized}
use Rattle.geometry.proofs.Runs.{pages-run}
use Rattle.geometry.proofs.Sectors.{block_sector, sector_served}
use Rattle.commands.specs.declared.Buffer.TheVariants.{One}
use Rattle.registers.specs.declared.Operation.{Operation}
use Rattle.registers.specs.declared.Operation.TheVariants as O
use Rattle.registers.specs.declared.Registers.{Registers}
use Rattle.registers.specs.Fields.{with_operation}
use Rattle.registers.specs.Protection.{has_bits, guarded, sealed}
use Rattle.registers.proofs.Places.{placed_known}
use Rattle.control.specs.Completion.{completed, completed_by}
use Rattle.control.specs.Starts.{Ready}
use Rattle.memory.proofs.Pages.{erased_page}
use Rattle.state.specs.declared.Answer.TheVariants as Answers
use Rattle.state.specs.Answers.{number_of}
use Rattle.state.specs.Memory.{Memory, State}
use Rattle.state.specs.Frames.{is_idle, reply_of, sent_memory}
use Rattle.state.specs.Completion.{completed_memory}
use Rattle.state.proofs.Lengths.{sent-array}
use Rattle.state.proofs.Loads.{protection-memory, lockdown-memory, load_first, program_page, program_other, program_rest, compare_same, compare-rest, erase_block-array}
use Rattle.slots.specs.declared.Course.{Course}
use Rattle.slots.specs.declared.Kind.{Kind}
use Rattle.slots.specs.declared.Command.TheVariants as C
use Rattle.slots.specs.declared.Step.{Step}
use Rattle.slots.specs.declared.Step.TheVariants.{Wait, Protection, Lockdown, Read, Load, Send}
use Rattle.state.specs.Outcomes.{part_in}
use Rattle.slots.specs.Plans.{pages, plan_of, bound, step_at, is_end}
use Rattle.slots.specs.Driver.{Holding, shape_of, frame_byte, frame_of, stored_by, loaded, register_in, heard, moved, noted, course_by, read_in, marred, taken_by, is_ended}
use Rattle.slots.specs.Calls.{Request, Secret, Open, Closed, first_course, refusal_of, start_open, start_closed, ran}
use Rattle.slots.specs.Quiet.{page_in}
use Rattle.slots.proofs.Places.{never, known, rest_at, rest-zero, rest-first}
use Rattle.slots.proofs.Blind.{load_registers, filler, protection_form, lockdown_form, protection-registers, lockdown-registers}
use Rattle.slots.proofs.Bound.{begin_ok}
use Rattle.slots.proofs.Sent.{read_keeps, read_memory, load_form, page_told, operation_of, poll_compare, protection-free, lockdown-free}
use Rattle.slots.proofs.Steady.{Steady, array_steady, buffer_steady, both_steady}
use Rattle.slots.proofs.Track.{Facts, Next, Turned, idle_stays, stop, carry, wait_next, sent-next, run_tracked}

-- ---- sealed or not

and_none : (b : Bool) → (b && false) ≡ false
and_none true = refl
and_none false = refl

free : (g : Geometry) (r : Registers) (s : ℕ) → has_bits g r.lockdown s ≡ false → (has_bits g r.protection s ≡ false) ⊎ (guarded r ≡ false) → sealed g r s ≡ false
unfolding sealed
free g r s e (inl f) = λ i. e i || (f i && guarded r)
free g r s e (inr f) = (λ i. e i || (has_bits g r.protection s && f i)) ∙ and_none (has_bits g r.protection s)

neither : (a b c : Bool) → (a || (b && c)) ≡ false → (a ≡ false) × ((b ≡ false) ⊎ (c ≡ false))
neither true b c e = never (sym e)
neither false true true e = never (sym e)
neither false true false e = (refl, inr refl)
neither false false c e = (refl, inl refl)

-- a slot's pages lie in its sector
pub slot-inside : (g : Geometry) (slot : ℕ) → Sized g (g.pages * g.size) → 8 * slot + 8 ≤ g.pages → (p : ℕ) → 8 * slot ≤ p → p < 8 * slot + 8 → (p < g.pages) × (sector_of g p ≡ sector_of g (8 * slot))
slot-inside g slot z h p l u =
    let e : 8 * slot + (p - 8 * slot) ≡ p = omega arith in
    (omega arith, subst (λ (q : ℕ). sector_of g q ≡ sector_of g (8 * slot)) e (block_sector g z.wide slot (p - 8 * slot) z.parted (omega arith)))

-- ---- what is written

-- the memory is the part's, and buffer 1 holds a page
abbrev pub Room : Geometry → Memory → Type 0
Room g m = (part_of (length m.array) ≡ Some g) × (g.size ≤ length m.buffer1)

pub room_steady : (g : Geometry) → Steady (λ r m. Room g m)
room_steady g =
    both_steady (λ r m. part_of (length m.array) ≡ Some g) (λ r m. g.size ≤ length m.buffer1) (array_steady (λ n. part_of n ≡ Some g)) (buffer_steady (λ n. g.size ≤ n))

-- what a call writes: whether it loads pages at all; byte i of the slot; what page p holds before it is programmed; what holds while the first wait lasts; and of the driver's data
-- before a page's first frame, and before its 84
pub record Writer (g : Geometry) (K : Kind) (slot : ℕ) : Type 1 where
  pub Loads : Type 0
  pub bytes : ℕ → ℕ
  pub Was : ℕ → List ℕ → Type 0
  pub Opens : Registers → Memory → Type 0
  pub Fresh : ℕ → Holding → Type 0
  pub Filled : ℕ → Holding → Type 0
  pub ends : (r : Registers) (m : Memory) → Opens r m → Opens (completed g r) (completed_memory g r.operation m)
  pub rests : (r : Registers) (m : Memory) → Ready r → Opens r m → (p : ℕ) → 8 * slot ≤ p → p < 8 * slot + 8 → Was p (page_of g p m.array)
  pub reads : Loads → (p : ℕ) (h : Holding) (page : List ℕ) → 8 * slot ≤ p → p < 8 * slot + 8 → Was p page → Fresh p h → Filled p (read_in g K p h page)
  pub loads : Loads → (p : ℕ) (h : Holding) → 8 * slot ≤ p → p < 8 * slot + 8 → Filled p h → (i : ℕ) → i < g.size → stored_by K h (g.size * (p % 8) + i) ≡ bytes (g.size * (p % 8) + i)
  pub next : (p : ℕ) (h : Holding) → Filled p h → Fresh (suc p) h

pub data Know : Type 0 where
  cold : Know
  opened : Know
  asked : Know
  fresh : (p : ℕ) → Know
  filled : (p : ℕ) → Know
  buffered : (p : ℕ) → Know
  wrote : (p : ℕ) → Know
  written : (p : ℕ) → Know
  compared : (p : ℕ) → Know
  erased : Know

module _ (g : Geometry) (K : Kind) (slot : ℕ) (W : Writer g K slot) (fits : 8 * slot + 8 ≤ g.pages) (few : Sized g (g.pages * g.size)) where
  abbrev first : ℕ
  first = 8 * slot

  abbrev end : ℕ
  end = 8 * slot + 8

  abbrev S : ℕ
  S = sector_of g (8 * slot)

  served : S < register_room + 1
  served = sector_served g (g.pages * g.size) (8 * slot) few (omega arith)

  abbrev In : ℕ → Type 0
  In p = (first ≤ p) × (p < end)

  -- plans that write their pages in order, or erase them at once
  pub data Lawful : Know → List Step → Type 0 where
    opens : {xs : List Step} → Lawful opened xs → Lawful cold (Wait false ∷ xs)
    lists : {xs : List Step} → Lawful asked xs → Lawful opened (Protection ∷ xs)
    frees : {xs : List Step} → Lawful (fresh first) xs → Lawful asked (Lockdown ∷ xs)
    reads : {p : ℕ} {xs : List Step} → W.Loads → In p → Lawful (filled p) xs → Lawful (fresh p) (Read p ∷ xs)
    loads : {p : ℕ} {xs : List Step} → W.Loads → In p → Lawful (buffered p) xs → Lawful (filled p) (Load p ∷ xs)
    puts : {p : ℕ} {xs : List Step} → W.Loads → In p → ((h : Holding) → W.Fresh p h → W.Filled p h) → Lawful (buffered p) xs → Lawful (fresh p) (Load p ∷ xs)
    programs : {p : ℕ} {xs : List Step} → In p → Lawful (wrote p) xs → Lawful (buffered p) (Send C.Program p ∷ xs)
    waited : {p : ℕ} {xs : List Step} → Lawful (written p) xs → Lawful (wrote p) (Wait false ∷ xs)
    compares : {p : ℕ} {xs : List Step} → In p → Lawful (compared p) xs → Lawful (written p) (Send C.Compare p ∷ xs)
    checks : {p : ℕ} {xs : List Step} → Lawful (fresh (suc p)) xs → Lawful (compared p) (Wait true ∷ xs)
    erases : {xs : List Step} → ((i : ℕ) → W.bytes i ≡ 255) → ((h : Holding) → W.Fresh first h → W.Fresh end h) → Lawful erased xs
        → Lawful (fresh first) (Send C.Erase first ∷ xs)
    blanks : {xs : List Step} → Lawful (fresh end) xs → Lawful erased (Wait false ∷ xs)
    finish : Lawful (fresh end) []

  -- the pages before n are written, those from n on as they were
  abbrev pub Stored : ℕ → Memory → Type 0
  Stored n m = (q : ℕ) → first ≤ q → q < n → page_of g q m.array ≡ page_in g W.bytes q

  abbrev Left : ℕ → Memory → Type 0
  Left n m = (q : ℕ) → n ≤ q → q < end → W.Was q (page_of g q m.array)

  abbrev Unsealed : Registers → Type 0
  Unsealed r = sealed g r S ≡ false

  abbrev Loaded : ℕ → Memory → Type 0
  Loaded p m = take g.size m.buffer1 ≡ page_in g W.bytes p

  abbrev Holds : Know → Bool → Bool → Registers → Memory → Holding → Type 0
  Holds cold l d r m h = W.Opens r m × W.Fresh first h
  Holds opened l d r m h = Ready r × (d ≡ guarded r) × Left first m × W.Fresh first h
  Holds asked l d r m h = Ready r × (d ≡ guarded r) × (l ≡ false → has_bits g r.protection S ≡ false) × Left first m × W.Fresh first h
  Holds (fresh p) l d r m h = Ready r × Unsealed r × Stored p m × Left p m × W.Fresh p h
  Holds (filled p) l d r m h = Ready r × Unsealed r × Stored p m × Left p m × W.Filled p h
  Holds (buffered p) l d r m h = Ready r × Unsealed r × Stored p m × Left p m × W.Fresh (suc p) h × Loaded p m
  Holds (wrote p) l d r m h =
      In p × (r.deep ≡ false) × Unsealed r × Left (suc p) m × W.Fresh (suc p) h
      × Loaded p m × (((r.operation ≡ O.Idle) × Stored (suc p) m) ⊎ ((r.operation ≡ O.Program One p) × Stored p m))
  Holds (written p) l d r m h = Ready r × Unsealed r × Stored (suc p) m × Left (suc p) m × W.Fresh (suc p) h × Loaded p m
  Holds (compared p) l d r m h =
      In p × (r.deep ≡ false) × Unsealed r × Stored (suc p) m × Left (suc p) m × W.Fresh (suc p) h × Loaded p m
      × (((r.operation ≡ O.Idle) × (m.compare ≡ false)) ⊎ (r.operation ≡ O.Compare One p))
  Holds erased l d r m h =
      (r.deep ≡ false) × Unsealed r × W.Fresh end h × (((r.operation ≡ O.Idle) × Stored end m) ⊎ ((r.operation ≡ O.EraseBlock slot) × ((i : ℕ) → W.bytes i ≡ 255)))

  abbrev pub facts : Facts
  facts = record { Room = Room g; steady = room_steady g; Know = Know; Holds = Holds; Lawful = Lawful }

  -- ---- a busy end

  module _ (p : ℕ) (m : Memory) (i : In p) (b : Room g m) where
    abbrev done : Memory
    done = completed_memory g (O.Program One p) m

    done-left : Left (suc p) m → Left (suc p) done
    done-left w q l u = subst (W.Was q) (sym (program_other g One p m q (λ e. absurd (omega arith)))) (w q l u)

    done-stored : Stored p m → Loaded p m → Stored (suc p) done
    done-stored s f q l u = go (eqb q p) refl
      where
        go : (x : Bool) → eqb q p ≡ x → page_of g q done.array ≡ page_in g W.bytes q
        go true e =
            subst (λ (n : ℕ). page_of g n done.array ≡ page_in g W.bytes n) (sym (eqb-true q p e))
            (program_page g One p m (sized (length m.array) g b.0) (slot-inside g slot few fits p i.0 i.1).0 b.1 ∙ f)
        go false e = let x = eqb-false q p e in program_other g One p m q x ∙ s q l (omega (arith, x))

  blank-stored : (m : Memory) → Room g m → ((i : ℕ) → W.bytes i ≡ 255) → Stored end (completed_memory g (O.EraseBlock slot) m)
  blank-stored m b f q l u =
      ap (page_of g q) (erase_block-array g slot m)
      ∙ erased_page g (run (8 * slot) 8) m.array q (sized (length m.array) g b.0) (slot-inside g slot few fits q l u).0 (pages-run (run (8 * slot) 8) q l u)
      ∙ sym (tabulate_const g.size 255)
      ∙ sym (tabulate-same g.size (λ i. W.bytes (g.size * (q % 8) + i)) (λ _. 255) (λ i _. f (g.size * (q % 8) + i)))

  stays : (k : Know) (l d : Bool) (r : Registers) (m : Memory) (h : Holding) → Room g m → Holds k l d r m h → Holds k l d (completed g r) (completed_memory g r.operation m) h
  unfolding completed completed_by sealed
  stays cold l d r m h b u = (W.ends r m u.0, u.1)
  stays opened l d r m h b u = idle_stays g r m (λ t n. Holds opened l d t n h) u.0.0 u
  stays asked l d r m h b u = idle_stays g r m (λ t n. Holds asked l d t n h) u.0.0 u
  stays (fresh p) l d r m h b u = idle_stays g r m (λ t n. Holds (fresh p) l d t n h) u.0.0 u
  stays (filled p) l d r m h b u = idle_stays g r m (λ t n. Holds (filled p) l d t n h) u.0.0 u
  stays (buffered p) l d r m h b u = idle_stays g r m (λ t n. Holds (buffered p) l d t n h) u.0.0 u
  stays (wrote p) l d r m h b (i, a, s, w, f, o, inl e) = idle_stays g r m (λ t n. Holds (wrote p) l d t n h) e.0 (i, a, s, w, f, o, inl e)
  stays (wrote p) l d r m h b (i, a, s, w, f, o, inr e) =
      subst (λ (x : Operation). Holds (wrote p) l d (with_operation (completed_by g x r) O.Idle) (completed_memory g x m) h) (sym e.0)
      (i, a, s, done-left p m i b w, f, ap (take g.size) (program_rest g One p m).0 ∙ o, inl (refl, done-stored p m i b e.1 o))
  stays (written p) l d r m h b u = idle_stays g r m (λ t n. Holds (written p) l d t n h) u.0.0 u
  stays (compared p) l d r m h b (i, a, s, t, w, f, o, inl e) = idle_stays g r m (λ t n. Holds (compared p) l d t n h) e.0 (i, a, s, t, w, f, o, inl e)
  stays (compared p) l d r m h b (i, a, s, t, w, f, o, inr e) =
      let same : page_of g p m.array ≡ take g.size m.buffer1 = t p i.0 (omega arith) ∙ sym o in
      subst (λ (x : Operation). Holds (compared p) l d (with_operation (completed_by g x r) O.Idle) (completed_memory g x m) h) (sym e) (
        i,
        a,
        s,
        (λ q x y. ap (page_of g q) (compare-rest g One p m).0 ∙ t q x y),
        (λ q x y. subst (λ (z : List ℕ). W.Was q (page_of g q z)) (sym (compare-rest g One p m).0) (w q x y)),
        f,
        ap (take g.size) (compare-rest g One p m).1 ∙ o,
        inl (refl, compare_same g One p m same),
      )
  stays erased l d r m h b (a, s, f, inl e) = idle_stays g r m (λ t n. Holds erased l d t n h) e.0 (a, s, f, inl e)
  stays erased l d r m h b (a, s, f, inr e) =
      subst (λ (x : Operation). Holds erased l d (with_operation (completed_by g x r) O.Idle) (completed_memory g x m) h) (sym e.0)
      (a, s, f, inl (refl, blank-stored m b e.1))

  -- ---- one step

  module _ (limit : ℕ) (plan : List Step) (c : Course) (r : Registers) (m : Memory) (h : Holding) (b : Room g m) (live : is_ended c.stage ≡ false) where
    abbrev rest : List Step
    rest = rest_at plan (suc c.place)

    abbrev next : Step
    next = step_at plan (suc c.place)

    abbrev replied : Step → List ℕ
    replied x = reply_of g r m (frame_of g K h x)

    abbrev Goes : Step → Type 0
    Goes x = Turned facts g K S limit plan c r m h x

    -- an 84: the buffer holds the page, all else is as it was
    load_next : W.Loads → (p : ℕ) → In p → Ready r → Unsealed r → Stored p m → Left p m → W.Filled p h → Lawful (buffered p) rest → Goes (Load p)
    unfolding taken_by course_by loaded
    load_next o p i y s t w f l = λ _. (
      buffered p,
      subst (λ (z : Registers). Holds (buffered p) c.listed c.guarded z (sent_memory g r (frame_of g K h (Load p)) m) h) (sym (load_registers g r K p h))
          (y, s, (λ q a u. ap (page_of g q) xs ∙ t q a u), (λ q a u. subst (λ (z : List ℕ). W.Was q (page_of g q z)) (sym xs) (w q a u)), W.next p h f, first-bytes),
      l,
    )
      where
        xs : (sent_memory g r (frame_of g K h (Load p)) m).array ≡ m.array
        xs = sent-array g r (frame_of g K h (Load p)) m

        first-bytes : take g.size (sent_memory g r (frame_of g K h (Load p)) m).buffer1 ≡ page_in g W.bytes p
        first-bytes =
            let z = sized (length m.array) g b.0 in
            ap (λ (f : List ℕ). take g.size (sent_memory g r f m).buffer1) (load_form g K h p)
            ∙ load_first g r m (tabulate g.size (loaded g K h (Load p))) y (omega (arith, z.some)) (length-tabulate g.size (loaded g K h (Load p))) b.1
            ∙ tabulate-same g.size (loaded g K h (Load p)) (λ i. W.bytes (g.size * (p % 8) + i)) (W.loads o p h i.0 i.1 f)

    -- the chip is idle, so what was under way has ended
    ended_program : (p : ℕ) → ((((r.operation ≡ O.Idle) × Stored (suc p) m) ⊎ ((r.operation ≡ O.Program One p) × Stored p m))) → Ready r → Stored (suc p) m
    unfolding is_idle
    ended_program p (inl e) y = e.1
    ended_program p (inr e) y = let z : O.Program One p ≡ O.Idle = sym e.0 ∙ y.0 in never (λ i. is_idle (z i))

    ended_erase : (((r.operation ≡ O.Idle) × Stored end m) ⊎ ((r.operation ≡ O.EraseBlock slot) × ((i : ℕ) → W.bytes i ≡ 255))) → Ready r → Stored end m
    unfolding is_idle
    ended_erase (inl e) y = e.1
    ended_erase (inr e) y = let z : O.EraseBlock slot ≡ O.Idle = sym e.0 ∙ y.0 in never (λ i. is_idle (z i))

    -- the wait after a 60 hands up no compare bit: the chip is busy, or found page and buffer alike
    compare-told : (p : ℕ) → r.deep ≡ false → ((r.operation ≡ O.Idle) × (m.compare ≡ false)) ⊎ (r.operation ≡ O.Compare One p) → taken_by (Wait true) g K h (replied (Wait true)) ≡ h
    unfolding taken_by shape_of frame_byte tabulate is_idle
    compare-told p a o = λ i. cond ((poll_compare g r m a ∙ none o) i) (marred h) h
      where
        none : ((r.operation ≡ O.Idle) × (m.compare ≡ false)) ⊎ (r.operation ≡ O.Compare One p) → (is_idle r.operation && m.compare) ≡ false
        none (inl e) = (λ i. is_idle r.operation && e.1 i) ∙ and_none (is_idle r.operation)
        none (inr e) = λ i. is_idle (e i) && m.compare

    -- the sector that the replies tell open
    open_told : (l d : Bool) → Ready r → d ≡ guarded r → (l ≡ false → has_bits g r.protection S ≡ false) → (has_bits g (register_in g (replied Lockdown)) S || (l && d)) ≡ false → sealed g r S ≡ false
    unfolding shape_of frame_byte tabulate
    open_told l d y e f z =
        let n = neither (has_bits g (register_in g (replied Lockdown)) S) l d z in
        free g r S (lockdown-free g r m K h S served few.short y n.0) (either n.1)
      where
        either : (l ≡ false) ⊎ (d ≡ false) → (has_bits g r.protection S ≡ false) ⊎ (guarded r ≡ false)
        either (inl z) = inl (f z)
        either (inr z) = inr (sym e ∙ z)

    pub turned : {x : Step} {k : Know} → is_end x ≡ false → rest_at plan c.place ≡ x ∷ rest → Lawful k (x ∷ rest) → Holds k c.listed c.guarded r m h → Goes x
    unfolding shape_of frame_byte tabulate heard course_by taken_by operation_of is_end number_of sealed
    turned some e (opens l) v = wait_next facts g K S limit plan c r m h false cold opened live e (opens l) v l (λ y. (y, refl, W.rests r m y v.0, v.1)) refl
    turned some e (lists l) v =
        carry facts g K S limit plan c r m h Protection (moved next limit (noted (has_bits g (register_in g (replied Protection)) S) c)) h (protection-registers g r K h) (ap (λ (f : List ℕ). sent_memory g r f m) (protection_form g K h) ∙ protection-memory g r m 0 0 0 (filler g K h Protection))
        (λ _. (asked, (v.0, v.1, protection-free g r m K h S served few.short v.0, v.2, v.3), l))
    turned some e (frees l) v =
        carry facts g K S limit plan c r m h Lockdown (course_by Lockdown next limit c (heard g Lockdown S (replied Lockdown))) h (lockdown-registers g r K h) (ap (λ (f : List ℕ). sent_memory g r f m) (lockdown_form g K h) ∙ lockdown-memory g r m 0 0 0 (filler g K h Lockdown))
        (known (λ d. Next facts plan d r m h) (has_bits g (register_in g (replied Lockdown)) S || (c.listed && c.guarded)) (λ _. stop facts g K S limit plan c r m h Answers.Sealed r m h (lit< tt, lit< tt))
        (λ z _. (fresh first, (v.0, open_told c.listed c.guarded v.0 v.1 v.2 z, (λ q a u. absurd (omega arith)), v.3, v.4), l)))
    turned some e (reads {p} o i l) v =
        let page = tabulate g.size (λ j. get_or (replied (Read p)) (8 + j) 255) in
        let told = page_told g r m K h p v.0 b.0 (slot-inside g slot few fits p i.0 i.1).0 in
        let f : W.Filled p (read_in g K p h page) = W.reads o p h page i.0 i.1 (subst (W.Was p) (sym told) (v.3 p (omega arith) i.1)) v.4 in
        carry facts g K S limit plan c r m h (Read p) (moved next limit c) (read_in g K p h page) (read_keeps g r K h p) (read_memory g r m K h p) (λ _. (filled p, (v.0, v.1, v.2, v.3, f), l))
    turned some e (loads {p} o i l) v = load_next o p i v.0 v.1 v.2 v.3 v.4 l
    turned some e (puts {p} o i f l) v = load_next o p i v.0 v.1 v.2 v.3 (f h v.4) l
    turned some e (programs {p} i l) v =
        let n = slot-inside g slot few fits p i.0 i.1 in
        sent-next facts g K S limit plan c r m h C.Program p (wrote p) b.0 v.0 n.0 (ap (sealed g r) n.1 ∙ v.1)
        (i, v.0.1, v.1, (λ q a u. v.3 q (omega arith) u), v.4, v.5, inr (refl, v.2)) l
    turned some e (waited {p} l) v =
        wait_next facts g K S limit plan c r m h false (wrote p) (written p) live e (waited l) v l (λ y. (y, v.2, ended_program p v.6 y, v.3, v.4, v.5)) refl
    turned some e (compares {p} i l) v =
        let n = slot-inside g slot few fits p i.0 i.1 in
        sent-next facts g K S limit plan c r m h C.Compare p (compared p) b.0 v.0 n.0 (ap (sealed g r) n.1 ∙ v.1)
        (i, v.0.1, v.1, v.2, v.3, v.4, v.5, inr refl) l
    turned some e (checks {p} l) v =
        wait_next facts g K S limit plan c r m h true (compared p) (fresh (suc p)) live e (checks l) v l (λ y. (y, v.2, v.3, v.4, v.5)) (compare-told p v.1 v.7)
    turned some e (erases f w l) v =
        let n = slot-inside g slot few fits (8 * slot) (omega arith) (omega arith) in
        let k : 8 * slot / 8 ≡ slot = omega arith in
        sent-next facts g K S limit plan c r m h C.Erase (8 * slot) erased b.0 v.0 n.0 v.1
        (v.0.1, v.1, w h v.4, inr (ap (λ (x : ℕ). O.EraseBlock x) k, f)) l
    turned some e (blanks l) v =
        wait_next facts g K S limit plan c r m h false erased (fresh end) live e (blanks l) v l (λ y. (y, v.1, ended_erase v.3 y, (λ q a u. absurd (omega arith)), v.2)) refl

  -- ---- the end

  at_finish : {k : Know} {xs : List Step} (l d : Bool) (r : Registers) (m : Memory) (h : Holding) → Lawful k xs → is_end (step_at xs 0) ≡ true → Holds k l d r m h → Ready r × Stored end m × W.Fresh end h
  unfolding step_at is_end
  at_finish l d r m h finish e u = (u.0, u.2, u.4)
  at_finish l d r m h (opens z) e u = never e
  at_finish l d r m h (lists z) e u = never e
  at_finish l d r m h (frees z) e u = never e
  at_finish l d r m h (reads o i z) e u = never e
  at_finish l d r m h (loads o i z) e u = never e
  at_finish l d r m h (puts o i f z) e u = never e
  at_finish l d r m h (programs i z) e u = never e
  at_finish l d r m h (waited z) e u = never e
  at_finish l d r m h (compares i z) e u = never e
  at_finish l d r m h (checks z) e u = never e
  at_finish l d r m h (erases f w z) e u = never e
  at_finish l d r m h (blanks z) e u = never e

  -- ---- plans

  pub pages_lawful : (f : ℕ → List Step) → ((p : ℕ) (xs : List Step) → In p → Lawful (fresh (suc p)) xs → Lawful (fresh p) (f p ++ xs))
      → (n k : ℕ) → first ≤ k → k + n ≡ end → Lawful (fresh k) (pages n k f)
  unfolding pages
  pages_lawful f e zero k l h = let z : k ≡ end = omega arith in subst (λ (n : ℕ). Lawful (fresh n) []) (sym z) finish
  pages_lawful f e (suc n) k l h = e k (pages n (suc k) f) (l, omega arith) (pages_lawful f e n (suc k) (omega arith) (omega arith))

-- ---- a call

-- what the run of a call that writes its slot leaves, once it has come to its plan's end
pub record Wrote (g : Geometry) (K : Kind) (slot : ℕ) (W : Writer g K slot) (z : Open × Closed) : Type 0 where
  pub uncut : z.0.cut ≡ false
  pub ready : Ready z.0.registers
  pub room : Room g z.1.memory
  pub pages : (q : ℕ) → 8 * slot ≤ q → q < 8 * slot + 8 → page_of g q z.1.memory.array ≡ page_in g W.bytes q
  pub fresh : W.Fresh (8 * slot + 8) z.1.holding

module _ (g : Geometry) (v : Request) (W : Writer g v.asked.kind v.asked.slot) where
  pub call_stores : (x : Secret) (s : State) → part_in s ≡ Some g → g.size ≤ length s.memory.buffer1
      → eqb (number_of (refusal_of g (length s.memory.array) v)) 0 ≡ true
      → (fits : 8 * v.asked.slot + 8 ≤ g.pages) (few : Sized g (g.pages * g.size))
      → Lawful g v.asked.kind v.asked.slot W fits few cold (plan_of g v.asked)
      → W.Opens s.registers s.memory → W.Fresh (8 * v.asked.slot) (start_closed x s.memory).holding
      → (ran g v x s).0.course.stage ≡ Some Answers.Done → Wrote g v.asked.kind v.asked.slot W (ran g v x s)
  unfolding ran start_open start_closed first_course is_ended
  call_stores x s p b e fits few law o f stage =
      let n = length s.memory.array in
      let part = (placed_known n s.registers.operation g p).0 in
      let F = facts g v.asked.kind v.asked.slot W fits few in
      let t = run_tracked F g v (stays g v.asked.kind v.asked.slot W fits few)
      (λ c r m h b live x k some z l u. turned g v.asked.kind v.asked.slot W fits few v.asked.limit (plan_of g v.asked) c r m h b live {x = x} {k = k} some z l u)
      (bound g v.asked) (start_open g n v s.registers) (start_closed x s.memory) (begin_ok g n v e)
      (record {
        room = (part, b);
        here = λ _. (cold, (o, f), subst (Lawful g v.asked.kind v.asked.slot W fits few cold) (sym (rest-zero (plan_of g v.asked))) law);
        uncut = λ _. refl;
        over = λ h. never (ap is_ended (sym (ap (λ (b : Bool). cond b None (Some (refusal_of g n v))) e)) ∙ ap is_ended h);
      }) in
      let z = ran g v x s in
      let k = t.here (inr stage) in
      let fin = at_finish g v.asked.kind v.asked.slot W fits few z.0.course.listed z.0.course.guarded z.0.registers z.1.memory z.1.holding k.2
      (ap is_end (rest-first (plan_of g v.asked) z.0.course.place) ∙ t.over stage) k.1 in
      record { uncut = t.uncut stage; ready = fin.0; room = t.room; pages = fin.1; fresh = fin.2 }
