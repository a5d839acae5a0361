-- What frames and busy ends do to the memory, for the frames that the slot driver sends: 84 stores its data in buffer 1, a program's
-- busy end makes a page of the buffer, that of a 60 finds page and buffer alike where they are, and D7, 32, 35, D2, 83 and 50 leave the memory as it is; a
-- busy end of an idle chip changes nothing.
-- Assumes nothing.
use Rattle.std.specs.Prelude.{Some}
use mathlib.Core.Path.{◌≡◌, refl, sym, ap, subst, ◌∙◌}
use mathlib.Core.Bool.{Bool, true, false, cond, not}
use mathlib.Core.List.{List, [], ◌∷◌}
use Prim.Native.Nat.{ℕ, ◌*◌, ◌/◌, ◌%◌, ◌<◌, ◌≤◌}
use native.Mathlib.Nat.{zero-mod}
use native.Mathlib.Omega.{arith}
use lib.ListN.{length, take, drop}
use Rattle.slices.specs.Lists.{over, ring_write, same}
use Rattle.slices.proofs.Laws.{splice-zero, splice-part, same_refl}
use Rattle.slices.proofs.Rings.{ring_write-splice, ring_write-whole}
use Rattle.geometry.specs.declared.Geometry.{Geometry}
use Rattle.geometry.specs.Parts.{Sized, address_at, page_at, byte_at, page_of, run}
use Rattle.geometry.specs.Sectors.{sector_of}
use Rattle.commands.specs.declared.Buffer.{Buffer}
use Rattle.commands.specs.declared.Buffer.TheVariants.{One}
use Rattle.commands.specs.declared.Decoded.{Decoded}
use Rattle.commands.specs.declared.Effect.{Effect}
use Rattle.commands.specs.declared.Effect.TheVariants as E
use Rattle.commands.specs.Decode.{decode_of}
use Rattle.commands.proofs.Frames.{decode_status, decode_protection, decode_lockdown, decode_program, decode_erase, decode_page}
use Rattle.registers.specs.declared.Operation.{Operation}
use Rattle.registers.specs.declared.Operation.TheVariants.{Idle, Program, Compare, EraseBlock}
use Rattle.registers.specs.declared.Registers.{Registers}
use Rattle.registers.specs.Operations.{buffer_used, run_of, sectors_of}
use Rattle.registers.specs.Protection.{sealed}
use Rattle.control.specs.declared.Action.TheVariants as A
use Rattle.control.specs.declared.Decision.{Decision}
use Rattle.control.specs.Control.{decided, ignored, started_on, row_decided, row_of, control}
use Rattle.control.specs.Starts.{Ready}
use Rattle.control.proofs.Rows.{control_cases}
use Rattle.control.proofs.Frames.{load_obeyed}
use Rattle.control.proofs.Ends.{completed_idle}
use Rattle.memory.specs.Pages.{programmed, differing, erased}
use Rattle.memory.proofs.Pages.{programmed_page, programmed_other}
use Rattle.memory.proofs.Sectors.{in_sectors-none}
use Rattle.state.specs.declared.Answer.TheVariants as Answers
use Rattle.state.specs.Memory.{Memory, State, buffer_in, put_buffer}
use Rattle.state.specs.Frames.{buffer_written, written, acted, sent_memory}
use Rattle.state.specs.Completion.{in_target, completed_memory}
use Rattle.state.specs.Outcomes.{left, part_in, ended_state, end_outcome}
use Rattle.state.proofs.Accepted.{end-done}

-- ---- 84
module _ (g : Geometry) (r : Registers) (m : Memory) where
  -- the memory after a frame, by what control decided of it
  pub sent-decided : (f : List ℕ) (d : Decision) → control g r f ≡ d → sent_memory g r f m ≡ acted g d.action (drop d.lead f) m
  unfolding sent_memory
  sent-decided f d e = λ i. acted g (e i).action (drop (e i).lead f) m

  -- whatever the address
  pub load_memory : (a b c : ℕ) (t : List ℕ) → Ready r
      → sent_memory g r (0x84 ∷ a ∷ b ∷ c ∷ t) m ≡ put_buffer One (ring_write g.size (byte_at g (address_at (0x84 ∷ a ∷ b ∷ c ∷ t) 1)) t m.buffer1) m
  unfolding acted buffer_written written
  load_memory a b c t y =
      sent-decided (0x84 ∷ a ∷ b ∷ c ∷ t) (decided r (A.WriteBuffer One (byte_at g (address_at (0x84 ∷ a ∷ b ∷ c ∷ t) 1))) 4) (load_obeyed g r a b c t y)

  byte-zero : (t : List ℕ) → byte_at g (address_at (0x84 ∷ 0 ∷ 0 ∷ 0 ∷ t) 1) ≡ 0
  unfolding byte_at address_at
  byte-zero t = ap (λ (x : ℕ). x % g.size) (zero-mod g.field) ∙ zero-mod g.size

  load_zero : (t : List ℕ) → Ready r → sent_memory g r (0x84 ∷ 0 ∷ 0 ∷ 0 ∷ t) m ≡ put_buffer One (ring_write g.size 0 t m.buffer1) m
  load_zero t y = load_memory 0 0 0 t y ∙ ap (λ (s : ℕ). put_buffer One (ring_write g.size s t m.buffer1) m) (byte-zero t)

  -- a page's length of data, from byte 0 on: laid over buffer 1
  pub load_over : (t : List ℕ) → Ready r → 0 < g.size → length t ≡ g.size → sent_memory g r (0x84 ∷ 0 ∷ 0 ∷ 0 ∷ t) m ≡ put_buffer One (over t m.buffer1) m
  load_over t y s l =
      load_zero t y ∙ ap (λ (b : List ℕ). put_buffer One b m) (ring_write-splice g.size 0 t m.buffer1 s (omega arith) ∙ splice-zero t m.buffer1)

  -- so that the buffer's first bytes are the data
  pub load_first : (t : List ℕ) → Ready r → 0 < g.size → length t ≡ g.size → g.size ≤ length m.buffer1
      → take g.size (sent_memory g r (0x84 ∷ 0 ∷ 0 ∷ 0 ∷ t) m).buffer1 ≡ t
  load_first t y s l h =
      ap (λ (k : Memory). take g.size k.buffer1) (load_over t y s l)
      ∙ ap (λ (n : ℕ). take n (over t m.buffer1)) (sym l)
      ∙ ap (take (length t)) (sym (splice-zero t m.buffer1))
      ∙ splice-part 0 t m.buffer1 (omega arith)

  -- and a buffer as long as a page is the data
  pub load_whole : (t : List ℕ) → Ready r → 0 < g.size → length t ≡ g.size → length m.buffer1 ≡ g.size
      → sent_memory g r (0x84 ∷ 0 ∷ 0 ∷ 0 ∷ t) m ≡ put_buffer One t m
  load_whole t y s l h = load_zero t y ∙ ap (λ (b : List ℕ). put_buffer One b m) (ring_write-whole g.size t m.buffer1 (sym l) (sym h) s)

-- ---- frames that leave the memory
module _ (g : Geometry) (r : Registers) (m : Memory) where
  silent : (bytes : List ℕ) → acted g A.Silent bytes m ≡ m
  unfolding acted buffer_written written
  silent bytes = refl

  -- a frame whose row leaves the memory leaves it, obeyed or not
  row-leaves : (f : List ℕ) (lead : ℕ) (e : Effect) → decode_of f ≡ record { lead = lead; effect = e }
      → ((bytes : List ℕ) → acted g (row_of g r f lead e).action bytes m ≡ m) → sent_memory g r f m ≡ m
  unfolding sent_memory
  row-leaves f lead e h k =
      control_cases g r f (λ (d : Decision). acted g d.action (drop d.lead f) m ≡ m) (silent (drop 0 f))
      (λ o. subst (λ (x : Decoded). (bytes : List ℕ) → acted g (row_of g r f x.lead x.effect).action bytes m ≡ m) (sym h) k
      (drop (row_of g r f (decode_of f).lead (decode_of f).effect).lead f))

  -- a program or erase only starts
  started_silent : (page : ℕ) (o : Operation) (bytes : List ℕ) → acted g (started_on g r page o).action bytes m ≡ m
  unfolding started_on
  started_silent page o bytes = go (sealed g r (sector_of g page))
    where
      go : (b : Bool) → acted g (cond b (ignored r) (decided (record { protection = r.protection; lockdown = r.lockdown; user = r.user; factory = r.factory; used = r.used; protect = r.protect; wp = r.wp; deep = r.deep; operation = o }) A.Silent 0)).action bytes m ≡ m
      go true = silent bytes
      go false = silent bytes

  pub status-memory : (t : List ℕ) → sent_memory g r (0xD7 ∷ t) m ≡ m
  unfolding row_decided acted buffer_written written
  status-memory t = row-leaves (0xD7 ∷ t) 1 E.ReadStatus (decode_status t) (λ bytes. refl)

  pub protection-memory : (a b c : ℕ) (t : List ℕ) → sent_memory g r (0x32 ∷ a ∷ b ∷ c ∷ t) m ≡ m
  unfolding row_decided acted buffer_written written
  protection-memory a b c t = row-leaves (0x32 ∷ a ∷ b ∷ c ∷ t) 4 E.ReadProtection (decode_protection a b c t) (λ bytes. refl)

  pub lockdown-memory : (a b c : ℕ) (t : List ℕ) → sent_memory g r (0x35 ∷ a ∷ b ∷ c ∷ t) m ≡ m
  unfolding row_decided acted buffer_written written
  lockdown-memory a b c t = row-leaves (0x35 ∷ a ∷ b ∷ c ∷ t) 4 E.ReadLockdown (decode_lockdown a b c t) (λ bytes. refl)

  pub page_memory : (a b c h i j k : ℕ) (t : List ℕ) → sent_memory g r (0xD2 ∷ a ∷ b ∷ c ∷ h ∷ i ∷ j ∷ k ∷ t) m ≡ m
  unfolding row_decided acted buffer_written written
  page_memory a b c h i j k t = row-leaves (0xD2 ∷ a ∷ b ∷ c ∷ h ∷ i ∷ j ∷ k ∷ t) 8 E.ReadPage (decode_page a b c h i j k t) (λ bytes. refl)

  pub program_memory : (a b c : ℕ) (t : List ℕ) → sent_memory g r (0x83 ∷ a ∷ b ∷ c ∷ t) m ≡ m
  unfolding row_decided
  program_memory a b c t =
      row-leaves (0x83 ∷ a ∷ b ∷ c ∷ t) 4 (E.Program One) (decode_program a b c t)
      (started_silent (page_at g (address_at (0x83 ∷ a ∷ b ∷ c ∷ t) 1)) (Program One (page_at g (address_at (0x83 ∷ a ∷ b ∷ c ∷ t) 1))))

  pub erase_memory : (a b c : ℕ) (t : List ℕ) → sent_memory g r (0x50 ∷ a ∷ b ∷ c ∷ t) m ≡ m
  unfolding row_decided
  erase_memory a b c t =
      row-leaves (0x50 ∷ a ∷ b ∷ c ∷ t) 4 E.EraseBlock (decode_erase a b c t)
      (started_silent (page_at g (address_at (0x50 ∷ a ∷ b ∷ c ∷ t) 1)) (EraseBlock (page_at g (address_at (0x50 ∷ a ∷ b ∷ c ∷ t) 1) / 8)))

-- ---- a busy end
-- in an idle chip a busy end keeps the memory
pub idle_memory : (g : Geometry) (o : Operation) (m : Memory) → o ≡ Idle → completed_memory g o m ≡ m
unfolding completed_memory
idle_memory g o m e = λ i. completed_memory g (e i) m

pub end_idle : (s : State) (g : Geometry) → part_in s ≡ Some g → s.registers.operation ≡ Idle → end_outcome s ≡ left Answers.Done s []
unfolding ended_state
end_idle s g p e =
    end-done s g p
    ∙ (λ i. left Answers.Done (record { registers = completed_idle g s.registers e i; memory = idle_memory g s.registers.operation s.memory e i }) [])

-- 83/86, 82/85: the page is the buffer, the other pages, the buffers and the compare bit are as they were
module _ (g : Geometry) (b : Buffer) (page : ℕ) (m : Memory) where
  pub program_array : (completed_memory g (Program b page) m).array ≡ programmed g page (buffer_in b m) m.array
  unfolding completed_memory buffer_used
  program_array = refl

  pub program_page : Sized g (length m.array) → page < g.pages → g.size ≤ length (buffer_in b m)
      → page_of g page (completed_memory g (Program b page) m).array ≡ take g.size (buffer_in b m)
  program_page z l h = ap (page_of g page) program_array ∙ programmed_page g page (buffer_in b m) m.array z l h

  pub program_other : (q : ℕ) → (q ≡ page → ⊥) → page_of g q (completed_memory g (Program b page) m).array ≡ page_of g q m.array
  program_other q d = ap (page_of g q) program_array ∙ programmed_other g page (buffer_in b m) m.array q d

pub program_rest : (g : Geometry) (b : Buffer) (page : ℕ) (m : Memory)
    → ((completed_memory g (Program b page) m).buffer1 ≡ m.buffer1) × ((completed_memory g (Program b page) m).buffer2 ≡ m.buffer2) × ((completed_memory g (Program b page) m).compare ≡ m.compare)
unfolding completed_memory
program_rest g b page m = (refl, refl, refl)

-- 60/61: the compare bit is 0 where page and buffer are the same, and nothing else changes
pub compare_same : (g : Geometry) (b : Buffer) (page : ℕ) (m : Memory) → page_of g page m.array ≡ take g.size (buffer_in b m)
    → (completed_memory g (Compare b page) m).compare ≡ false
unfolding completed_memory buffer_used differing
compare_same g b page m e =
    ap (λ (l : List ℕ). not (same (take g.size (buffer_in b m)) l)) e ∙ ap not (same_refl (take g.size (buffer_in b m)))

pub compare-rest : (g : Geometry) (b : Buffer) (page : ℕ) (m : Memory)
    → ((completed_memory g (Compare b page) m).array ≡ m.array) × ((completed_memory g (Compare b page) m).buffer1 ≡ m.buffer1)
unfolding completed_memory
compare-rest g b page m = (refl, refl)

-- 50: the block's pages are FFh
pub erase_block-array : (g : Geometry) (block : ℕ) (m : Memory) → (completed_memory g (EraseBlock block) m).array ≡ erased g (run (8 * block) 8) m.array
unfolding completed_memory in_target run_of sectors_of
erase_block-array g block m = in_sectors-none (erased g) g (erased g (run (8 * block) 8) m.array)
