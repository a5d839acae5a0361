-- What a frame does to the memory, and its reply: given what control decided of the frame.
-- Assumes nothing.
use Rattle.std.specs.Prelude.{ℕ, ◌+◌, Bool, true, false, cond, List, [], ◌∷◌, ◌++◌, length, drop}
use Rattle.slices.specs.Lists.{over, ring_write}
use Rattle.geometry.specs.declared.Geometry.{Geometry}
use Rattle.geometry.specs.Parts.{page_of}
use Rattle.commands.specs.declared.Buffer.{Buffer}
use Rattle.commands.specs.declared.Buffer.TheVariants.{One}
use Rattle.registers.specs.declared.Operation.{Operation}
use Rattle.registers.specs.declared.Registers.{Registers}
use Rattle.registers.specs.declared.Usage.{Usage}
use Rattle.registers.specs.declared.Usage.TheVariants.{Free, Uses, NoBuffer, Exclusive}
use Rattle.registers.specs.Data.{bytes16, bytes64}
use Rattle.registers.specs.Facts.{facts_of}
use Rattle.registers.specs.Protection.{register_of, guarded}
use Rattle.control.specs.declared.Action.{Action}
use Rattle.control.specs.declared.Action.TheVariants.{Silent, ReadPage, ReadArray, ReadBuffer, WriteBuffer, LoadProtection, LoadSecurity, ReadProtection, ReadLockdown, ReadSecurity, ReadStatus, ReadId}
use Rattle.control.specs.Control.{control}
use Rattle.memory.specs.Replies.{replied, no_data, once_data, ring_data}
use Rattle.state.specs.Memory.{Memory, buffer_in, put_buffer}

-- Aid: no operation is under way
abbrev pub is_free : Usage → Bool
is_free Free = true
is_free (Uses b) = false
is_free NoBuffer = false
is_free Exclusive = false

-- (2.6) the chip is idle
unfoldable pub is_idle : Operation → Bool
is_idle o = is_free (facts_of o).usage

-- (3.21) the status: bit 7 idle, bit 6 compare bit, bits 5-2 at 1001, bit 1 guarded, bit 0 by the part
unfoldable pub status_of : Geometry → Bool → Bool → Bool → ℕ
status_of g ready compare protect = cond ready 0x80 0 + cond compare 0x40 0 + 0x24 + cond protect 0x02 0 + cond g.binary 0x01 0

-- (3.22) the bytes that 9F reads
abbrev pub identity : List ℕ
identity = 0x1F ∷ 0x25 ∷ 0x00 ∷ 0x00 ∷ []

-- (3.16) byte i of the data that a frame reads: of a page
-- (3.17) of the array
-- (3.18) of a buffer
-- (3.19) of protection, lockdown, security
-- (3.20) the status each time
unfoldable pub data_of : Geometry → Registers → Memory → Action → ℕ → ℕ
data_of g r m Silent = no_data
data_of g r m (ReadPage page start) = ring_data g.size start (page_of g page m.array)
data_of g r m (ReadArray start) = ring_data (length m.array) start m.array
data_of g r m (ReadBuffer b start) = ring_data g.size start (buffer_in b m)
data_of g r m (WriteBuffer b start) = no_data
data_of g r m (LoadProtection d) = no_data
data_of g r m (LoadSecurity d) = no_data
data_of g r m ReadProtection = once_data (register_of g r.protection)
data_of g r m ReadLockdown = once_data (register_of g r.lockdown)
data_of g r m ReadSecurity = once_data (r.user ++ r.factory)
data_of g r m ReadStatus = λ i. status_of g (is_idle r.operation) m.compare (guarded r)
data_of g r m ReadId = once_data identity

-- (3.12) the reply to a frame, from registers and memory as they were before it
unfoldable pub reply_of : Geometry → Registers → Memory → List ℕ → List ℕ
reply_of g r m f = replied (length f) (control g r f).lead (data_of g r m (control g r f).action)

-- (6.11) the buffer that an action writes; One where it writes none
unfoldable pub buffer_written : Action → Buffer
buffer_written Silent = One
buffer_written (ReadPage page start) = One
buffer_written (ReadArray start) = One
buffer_written (ReadBuffer b start) = One
buffer_written (WriteBuffer b start) = b
buffer_written (LoadProtection d) = One
buffer_written (LoadSecurity d) = One
buffer_written ReadProtection = One
buffer_written ReadLockdown = One
buffer_written ReadSecurity = One
buffer_written ReadStatus = One
buffer_written ReadId = One

-- (6.2) a buffer written with a frame's data, in a ring
-- (6.10) buffer 1 with the data of an FC or 9B over its first bytes
unfoldable pub written : Geometry → Action → List ℕ → List ℕ → List ℕ
written g Silent bytes buffer = buffer
written g (ReadPage page start) bytes buffer = buffer
written g (ReadArray start) bytes buffer = buffer
written g (ReadBuffer b start) bytes buffer = buffer
written g (WriteBuffer b start) bytes buffer = ring_write g.size start bytes buffer
written g (LoadProtection d) bytes buffer = over (bytes16 d) buffer
written g (LoadSecurity d) bytes buffer = over (bytes64 d) buffer
written g ReadProtection bytes buffer = buffer
written g ReadLockdown bytes buffer = buffer
written g ReadSecurity bytes buffer = buffer
written g ReadStatus bytes buffer = buffer
written g ReadId bytes buffer = buffer

-- (6.11) that buffer written, all else as it was
unfoldable pub acted : Geometry → Action → List ℕ → Memory → Memory
acted g a bytes m = put_buffer (buffer_written a) (written g a bytes (buffer_in (buffer_written a) m)) m

-- (6.11) the memory after a frame
unfoldable pub sent_memory : Geometry → Registers → List ℕ → Memory → Memory
sent_memory g r f m = acted g (control g r f).action (drop (control g r f).lead f) m
