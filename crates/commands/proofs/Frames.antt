-- The rows of the frames that the slot driver sends, whatever follows their lead: each is `decode_row` at the row's number.
-- Assumes nothing.
use Rattle.std.specs.Prelude.{Some}
use mathlib.Core.Path.{◌≡◌, refl, sym}
use mathlib.Core.List.{List, [], ◌∷◌}
use Prim.Native.Nat.{ℕ, suc, ◌<◌, ◌≤◌}
use native.Mathlib.Omega.{arith}
use lib.ListN.{length}
use lib.Dec.{lit<}
use Rattle.commands.specs.declared.Buffer.TheVariants.{One}
use Rattle.commands.specs.declared.Effect.TheVariants.{ReadPage, WriteBuffer, Program, EraseBlock, Compare, ReadProtection, ReadLockdown, ReadStatus}
use Rattle.commands.specs.Table.{commands, row_at}
use Rattle.commands.specs.Decode.{unlisted, opened, decode_of}
use Rattle.commands.proofs.Rules.{row_found}
use Rattle.commands.proofs.Steps.{complete-full, decode_opened}

-- a frame that opens with row i's opcode and holds its lead
pub decode_row : (i : ℕ) (t : List ℕ) → i < 31 → (row_at i).1 ≤ suc (length t)
    → decode_of ((row_at i).0 ∷ t) ≡ record { lead = (row_at i).1; effect = (row_at i).2 }
unfolding opened
decode_row i t h l =
    sym (decode_opened ((row_at i).0 ∷ t) (Some (row_at i)) (record { lead = (row_at i).1; effect = (row_at i).2 }) (λ e. omega arith)
    (sym (row_found i h))
    (complete-full (suc (length t)) (record { lead = (row_at i).1; effect = (row_at i).2 }) l))

-- room for the lead
one : (n : ℕ) → 1 ≤ suc n
one n = omega arith

four : (n : ℕ) → 4 ≤ suc (suc (suc (suc n)))
four n = omega arith

eight : (n : ℕ) → 8 ≤ suc (suc (suc (suc (suc (suc (suc (suc n)))))))
eight n = omega arith

pub decode_none : decode_of [] ≡ unlisted
unfolding decode_of
decode_none = refl

pub decode_status : (t : List ℕ) → decode_of (0xD7 ∷ t) ≡ record { lead = 1; effect = ReadStatus }
unfolding row_at commands
decode_status t = decode_row 27 t (lit< tt) (one (length t))

pub decode_protection : (a b c : ℕ) (t : List ℕ) → decode_of (0x32 ∷ a ∷ b ∷ c ∷ t) ≡ record { lead = 4; effect = ReadProtection }
unfolding row_at commands
decode_protection a b c t = decode_row 24 (a ∷ b ∷ c ∷ t) (lit< tt) (four (length t))

pub decode_lockdown : (a b c : ℕ) (t : List ℕ) → decode_of (0x35 ∷ a ∷ b ∷ c ∷ t) ≡ record { lead = 4; effect = ReadLockdown }
unfolding row_at commands
decode_lockdown a b c t = decode_row 25 (a ∷ b ∷ c ∷ t) (lit< tt) (four (length t))

pub decode_write : (a b c : ℕ) (t : List ℕ) → decode_of (0x84 ∷ a ∷ b ∷ c ∷ t) ≡ record { lead = 4; effect = WriteBuffer One }
unfolding row_at commands
decode_write a b c t = decode_row 7 (a ∷ b ∷ c ∷ t) (lit< tt) (four (length t))

pub decode_program : (a b c : ℕ) (t : List ℕ) → decode_of (0x83 ∷ a ∷ b ∷ c ∷ t) ≡ record { lead = 4; effect = Program One }
unfolding row_at commands
decode_program a b c t = decode_row 9 (a ∷ b ∷ c ∷ t) (lit< tt) (four (length t))

pub decode_erase : (a b c : ℕ) (t : List ℕ) → decode_of (0x50 ∷ a ∷ b ∷ c ∷ t) ≡ record { lead = 4; effect = EraseBlock }
unfolding row_at commands
decode_erase a b c t = decode_row 16 (a ∷ b ∷ c ∷ t) (lit< tt) (four (length t))

pub decode_compare : (a b c : ℕ) (t : List ℕ) → decode_of (0x60 ∷ a ∷ b ∷ c ∷ t) ≡ record { lead = 4; effect = Compare One }
unfolding row_at commands
decode_compare a b c t = decode_row 20 (a ∷ b ∷ c ∷ t) (lit< tt) (four (length t))

pub decode_page : (a b c d e f g : ℕ) (t : List ℕ)
    → decode_of (0xD2 ∷ a ∷ b ∷ c ∷ d ∷ e ∷ f ∷ g ∷ t) ≡ record { lead = 8; effect = ReadPage }
unfolding row_at commands
decode_page a b c d e f g t = decode_row 0 (a ∷ b ∷ c ∷ d ∷ e ∷ f ∷ g ∷ t) (lit< tt) (eight (length t))
