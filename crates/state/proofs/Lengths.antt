-- The array and both buffers keep their lengths, whatever a frame, a busy end or a cut does: bytes are replaced, none is added or taken.
-- Assumes nothing.
use mathlib.Core.Path.{◌≡◌, refl, ◌∙◌}
use mathlib.Core.List.{List}
use Prim.Native.Nat.{ℕ}
use lib.ListN.{length, drop}
use Rattle.slices.proofs.Laws.{length_over}
use Rattle.slices.proofs.Rings.{length-ring_write}
use Rattle.geometry.specs.declared.Geometry.{Geometry}
use Rattle.geometry.specs.declared.Run.{Run}
use Rattle.commands.specs.declared.Buffer.{Buffer}
use Rattle.commands.specs.declared.Buffer.TheVariants.{One, Two}
use Rattle.registers.specs.declared.Operation.{Operation}
use Rattle.registers.specs.declared.Registers.{Registers}
use Rattle.registers.specs.declared.Work.{Work}
use Rattle.registers.specs.declared.Work.TheVariants.{Rest, Program, ProgramOver, Transfer, Compare, Erase}
use Rattle.registers.specs.Data.{bytes16, bytes64}
use Rattle.registers.specs.Facts.{facts_of}
use Rattle.registers.specs.Operations.{run_of, sectors_of, buffer_used}
use Rattle.control.specs.declared.Action.{Action}
use Rattle.control.specs.declared.Action.TheVariants.{Silent, ReadPage, ReadArray, ReadBuffer, WriteBuffer, LoadProtection, LoadSecurity, ReadProtection, ReadLockdown, ReadSecurity, ReadStatus, ReadId}
use Rattle.control.specs.Control.{control}
use Rattle.memory.specs.Pages.{transferred, erased, junked}
use Rattle.memory.proofs.Pages.{length-programmed, length-programmed_over, length-erased, length-junked, length-transferred, length-junk_buffer}
use Rattle.memory.proofs.Sectors.{length-in_sectors}
use Rattle.memory.proofs.Replies.{length-replied}
use Rattle.state.specs.Memory.{Memory, either}
use Rattle.state.specs.Frames.{data_of, reply_of, buffer_written, written, acted, sent_memory}
use Rattle.state.specs.Completion.{in_target, page_in, bytes_used, worked, completed_memory}
use Rattle.state.specs.PowerLoss.{array_lost, lost_memory}

-- ---- a frame
pub written-length : (g : Geometry) (a : Action) (bytes buffer : List ℕ) → length (written g a bytes buffer) ≡ length buffer
unfolding written
written-length g Silent bytes buffer = refl
written-length g (ReadPage page start) bytes buffer = refl
written-length g (ReadArray start) bytes buffer = refl
written-length g (ReadBuffer b start) bytes buffer = refl
written-length g (WriteBuffer b start) bytes buffer = length-ring_write g.size start bytes buffer
written-length g (LoadProtection d) bytes buffer = length_over (bytes16 d) buffer
written-length g (LoadSecurity d) bytes buffer = length_over (bytes64 d) buffer
written-length g ReadProtection bytes buffer = refl
written-length g ReadLockdown bytes buffer = refl
written-length g ReadSecurity bytes buffer = refl
written-length g ReadStatus bytes buffer = refl
written-length g ReadId bytes buffer = refl

-- the buffer meant, changed by something that keeps its length
changed-first : (b : Buffer) (f : List ℕ → List ℕ) (l k : List ℕ) → ((s : List ℕ) → length (f s) ≡ length s) → length (either b (f (either b l k)) l) ≡ length l
changed-first One f l k h = h l
changed-first Two f l k h = refl

changed_second : (b : Buffer) (f : List ℕ → List ℕ) (l k : List ℕ) → ((s : List ℕ) → length (f s) ≡ length s) → length (either b k (f (either b l k))) ≡ length k
changed_second One f l k h = refl
changed_second Two f l k h = h k

module _ (g : Geometry) (r : Registers) (f : List ℕ) (m : Memory) where
  -- a frame never changes the array, nor the compare bit
  pub sent-array : (sent_memory g r f m).array ≡ m.array
  unfolding sent_memory acted
  sent-array = refl

  pub sent-compare : (sent_memory g r f m).compare ≡ m.compare
  unfolding sent_memory acted
  sent-compare = refl

  pub sent-first-length : length (sent_memory g r f m).buffer1 ≡ length m.buffer1
  unfolding sent_memory acted
  sent-first-length =
      changed-first (buffer_written (control g r f).action) (written g (control g r f).action (drop (control g r f).lead f)) m.buffer1 m.buffer2
      (written-length g (control g r f).action (drop (control g r f).lead f))

  pub sent_second_length : length (sent_memory g r f m).buffer2 ≡ length m.buffer2
  unfolding sent_memory acted
  sent_second_length =
      changed_second (buffer_written (control g r f).action) (written g (control g r f).action (drop (control g r f).lead f)) m.buffer1 m.buffer2
      (written-length g (control g r f).action (drop (control g r f).lead f))

  -- a reply is as long as its frame
  pub reply-length : length (reply_of g r m f) ≡ length f
  unfolding reply_of
  reply-length = length-replied (length f) (control g r f).lead (data_of g r m (control g r f).action)

-- ---- a busy end

-- n has lists as long as those of m
record Long (m n : Memory) : Type 0 where
  array : length n.array ≡ length m.array
  buffer1 : length n.buffer1 ≡ length m.buffer1
  buffer2 : length n.buffer2 ≡ length m.buffer2

-- f done to what an operation writes, where f keeps lengths
target_length : (f : Run → List ℕ → List ℕ) → ((r : Run) (xs : List ℕ) → length (f r xs) ≡ length xs) → (g : Geometry) (o : Operation) (xs : List ℕ)
    → length (in_target f g o xs) ≡ length xs
unfolding in_target
target_length f h g o xs = length-in_sectors f h g (sectors_of o) (f (run_of g o) xs) ∙ h (run_of g o) xs

module _ (g : Geometry) (o : Operation) (m : Memory) where
  worked-long : (w : Work) → Long m (worked g o m w)
  worked-long Rest = record { array = refl; buffer1 = refl; buffer2 = refl }
  worked-long Program = record { array = length-programmed g (page_in o) (bytes_used o m) m.array; buffer1 = refl; buffer2 = refl }
  worked-long ProgramOver = record { array = length-programmed_over g (page_in o) (bytes_used o m) m.array; buffer1 = refl; buffer2 = refl }
  worked-long Transfer =
      record {
        array = refl;
        buffer1 = changed-first (buffer_used o) (transferred g (page_in o) m.array) m.buffer1 m.buffer2 (length-transferred g (page_in o) m.array);
        buffer2 = changed_second (buffer_used o) (transferred g (page_in o) m.array) m.buffer1 m.buffer2 (length-transferred g (page_in o) m.array);
      }
  worked-long Compare = record { array = refl; buffer1 = refl; buffer2 = refl }
  worked-long Erase = record { array = target_length (erased g) (length-erased g) g o m.array; buffer1 = refl; buffer2 = refl }

  pub completed-array-length : length (completed_memory g o m).array ≡ length m.array
  unfolding completed_memory
  completed-array-length = (worked-long (facts_of o).work).array

  pub completed-first-length : length (completed_memory g o m).buffer1 ≡ length m.buffer1
  unfolding completed_memory
  completed-first-length = (worked-long (facts_of o).work).buffer1

  pub completed_second_length : length (completed_memory g o m).buffer2 ≡ length m.buffer2
  unfolding completed_memory
  completed_second_length = (worked-long (facts_of o).work).buffer2

-- ---- a cut
module _ (g : Geometry) (o : Operation) (junk : List ℕ) (m : Memory) where
  pub lost-array-length : length (lost_memory g o junk m).array ≡ length m.array
  unfolding lost_memory array_lost
  lost-array-length = target_length (junked g junk) (length-junked g junk) g o m.array

  pub lost-first-length : length (lost_memory g o junk m).buffer1 ≡ length m.buffer1
  unfolding lost_memory
  lost-first-length = length-junk_buffer g junk 0 m.buffer1

  pub lost_second_length : length (lost_memory g o junk m).buffer2 ≡ length m.buffer2
  unfolding lost_memory
  lost_second_length = length-junk_buffer g junk g.size m.buffer2
