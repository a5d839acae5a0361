-- `frames::act` meets its contract: each arm is a clause of `written`.
-- Assumes nothing.
use borrow.Author.Rules.{rules}
use mathlib.Core.List.{List, ◌++◌, append_assoc}
use mathlib.Core.Path.{◌≡◌, refl, sym, ap, ◌∙◌}
use Prim.Native.Nat.{ℕ, ◌*◌, ◌≤◌}
use native.Mathlib.Omega.{arith}
use lib.ListN.{length, take, drop, take-append-drop}
use lib.Seq.{length-take-le, drop-append-le}
use Rattle.slices.specs.Lists.{over, splice}
use Rattle.slices.proofs.Laws.{over_append, length_over, splice-zero}
use Rattle.geometry.specs.declared.Geometry.{Geometry}
use Rattle.geometry.specs.Parts.{page_room}
use Rattle.commands.specs.declared.Buffer.{Buffer}
use Rattle.commands.specs.declared.Buffer.TheVariants.{One}
use Rattle.control.specs.declared.Action.{Action}
use Rattle.control.specs.declared.Action.TheVariants.{Silent, ReadPage, ReadArray, ReadBuffer, WriteBuffer, LoadProtection, LoadSecurity, ReadProtection, ReadLockdown, ReadSecurity, ReadStatus, ReadId}
use Rattle.registers.specs.declared.Data16.{Data16}
use Rattle.registers.specs.declared.Data64.{Data64}
use Rattle.registers.specs.Data.{bytes16, bytes64}
use Rattle.registers.proofs.Data.{length-bytes16, length-bytes64}
use Rattle.state.specs.Lent.{acted_on}
use Rattle.state.specs.Frames.{buffer_written, written}
use Rattle.state.proofs.Arms.{names_write}
use Rattle.state.proofs.Lent.{lent_same}
use Rattle.frames.proofs.act.Goals as goal

-- the beginning of buffer 1 is the beginning of both
lent-begun : (d bs : List ℕ) → length d ≤ page_room → length bs ≡ 2 * page_room → over d bs ≡ splice 0 (over d (take page_room bs)) bs
lent-begun d bs h long =
    let n = length-take-le page_room bs (omega arith) in
    let x = over d (take page_room bs) in
    let e : over d (take page_room bs) ≡ d ++ drop (length d) (take page_room bs) = over_append d (take page_room bs) (omega arith) in
    let l : length (over d (take page_room bs)) ≡ page_room = length_over d (take page_room bs) ∙ n in
    over_append d bs (omega arith)
    ∙ ap (λ (t : List ℕ). d ++ drop (length d) t) (sym (take-append-drop page_room bs))
    ∙ ap (λ (t : List ℕ). d ++ t) (drop-append-le (length d) (take page_room bs) (drop page_room bs) (omega arith))
    ∙ sym (append_assoc d (drop (length d) (take page_room bs)) (drop page_room bs))
    ∙ (λ i. sym e i ++ drop (sym l i) bs)
    ∙ sym (over_append x bs (omega arith)) ∙ sym (splice-zero x bs)

-- an action that writes no buffer
untouched : (g : Geometry) (a : Action) (bytes bs : List ℕ) → ((b : Buffer) (s : ℕ) → a ≡ WriteBuffer b s → ⊥) → ((d : Data16) → a ≡ LoadProtection d → ⊥)
    → ((d : Data64) → a ≡ LoadSecurity d → ⊥) → length bs ≡ 2 * page_room → bs ≡ acted_on g a bytes bs
unfolding acted_on buffer_written written
untouched g Silent bytes bs wb lp ls long = sym (lent_same bs long One)
untouched g (ReadPage p s) bytes bs wb lp ls long = sym (lent_same bs long One)
untouched g (ReadArray s) bytes bs wb lp ls long = sym (lent_same bs long One)
untouched g (ReadBuffer b s) bytes bs wb lp ls long = sym (lent_same bs long One)
untouched g (WriteBuffer b s) bytes bs wb lp ls long = absurd (wb b s refl)
untouched g (LoadProtection d) bytes bs wb lp ls long = absurd (lp d refl)
untouched g (LoadSecurity d) bytes bs wb lp ls long = absurd (ls d refl)
untouched g ReadProtection bytes bs wb lp ls long = sym (lent_same bs long One)
untouched g ReadLockdown bytes bs wb lp ls long = sym (lent_same bs long One)
untouched g ReadSecurity bytes bs wb lp ls long = sym (lent_same bs long One)
untouched g ReadStatus bytes bs wb lp ls long = sym (lent_same bs long One)
untouched g ReadId bytes bs wb lp ls long = sym (lent_same bs long One)

pub write_buffer-requires : goal.write_buffer-requires
write_buffer-requires c = (c.requires.0, names_write c.args.g c.args.a _ _ c.in-WriteBuffer.is c.requires.1, c.requires.2)

pub lay-requires : goal.lay-requires
lay-requires c =
    let k : length c.unpacked16.result ≡ 16 = search rules in
    omega (arith, c.requires.2)

pub lay-requires-in-LoadSecurity : goal.lay-requires-in-LoadSecurity
lay-requires-in-LoadSecurity c =
    let k : length c.unpacked64.result ≡ 64 = search rules in
    omega (arith, c.requires.2)

pub returns-in-WriteBuffer : goal.returns-in-WriteBuffer
unfolding acted_on buffer_written written
returns-in-WriteBuffer c = rw c.in-WriteBuffer.is c.write_buffer.ensures

pub returns-in-LoadProtection : goal.returns-in-LoadProtection
unfolding acted_on buffer_written written
returns-in-LoadProtection c =
    let d = c.in-LoadProtection.data in
    rw c.in-LoadProtection.is
    (c.lay.ensures ∙ ap (λ (l : List ℕ). over l c.args.buffers.now) c.unpacked16.ensures
    ∙ lent-begun (bytes16 d) c.args.buffers.now (omega (arith, length-bytes16 d)) c.requires.2)

pub returns-in-LoadSecurity : goal.returns-in-LoadSecurity
unfolding acted_on buffer_written written
returns-in-LoadSecurity c =
    let d = c.in-LoadSecurity.data in
    rw c.in-LoadSecurity.is
    (c.lay-in-LoadSecurity.ensures ∙ ap (λ (l : List ℕ). over l c.args.buffers.now) c.unpacked64.ensures
    ∙ lent-begun (bytes64 d) c.args.buffers.now (omega (arith, length-bytes64 d)) c.requires.2)

pub returns-in_default : goal.returns-in_default
returns-in_default c = untouched c.args.g c.args.a c.args.bytes.now c.args.buffers.now c.in_default.not-WriteBuffer c.in_default.not-LoadProtection c.in_default.not-LoadSecurity c.requires.2
