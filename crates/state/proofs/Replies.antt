-- What the slot driver reads in replies: to D7 the status byte, to 32 and 35 the register's bytes, to D2 the page. Control decides the
-- action of such a frame, and a reply is the action's data after the lead.
-- Assumes nothing.
use mathlib.Core.Path.{◌≡◌, refl, sym, ap, ◌∙◌}
use mathlib.Core.Bool.{true, false}
use mathlib.Core.List.{List, [], ◌∷◌}
use Prim.Native.Nat.{ℕ, zero, suc, ◌+◌, ◌-◌, ◌*◌, ◌/◌, ◌%◌, ◌<◌, ◌≤◌}
use native.Mathlib.Nat.{not-suc-le-zero, le_of_suc-le-suc}
use native.Mathlib.Omega.{arith}
use lib.ListN.{length, get_or, drop, replicate, length-replicate}
use lib.Seq.{drop_at, length-take-le}
use Rattle.slices.specs.Lists.{tabulate, ring_read}
use Rattle.slices.proofs.Rings.{ring_read-whole}
use Rattle.geometry.specs.declared.Geometry.{Geometry}
use Rattle.geometry.specs.Parts.{Sized, address_at, page_at, byte_at, page_of}
use Rattle.geometry.proofs.Addresses.{page_named_lem, page_address, byte-address, address-bytes}
use Rattle.geometry.proofs.Pages.{length-page_of}
use Rattle.registers.specs.declared.Registers.{Registers}
use Rattle.registers.specs.Protection.{register_of, guarded}
use Rattle.registers.proofs.Protection.{byte_of}
use Rattle.control.specs.declared.Action.TheVariants as A
use Rattle.control.specs.declared.Decision.{Decision}
use Rattle.control.specs.Control.{decided, ignored, control}
use Rattle.control.specs.Starts.{Ready}
use Rattle.control.proofs.Frames.{status-obeyed, status-ignored, protection-obeyed, lockdown-obeyed, page_obeyed}
use Rattle.memory.specs.Replies.{replied, once_data, ring_data}
use Rattle.memory.proofs.Replies.{replied_data, replied_nothing, replied-parts}
use Rattle.state.specs.Memory.{Memory}
use Rattle.state.specs.Frames.{is_idle, status_of, data_of, reply_of}

-- a byte that a list has is read whatever stands for bytes past its end
get_or_any : (l : List ℕ) (k d e : ℕ) → k < length l → get_or l k d ≡ get_or l k e
get_or_any [] k d e h = absurd (not-suc-le-zero h)
get_or_any (x ∷ l) zero d e h = refl
get_or_any (x ∷ l) (suc k) d e h = get_or_any l k d e (le_of_suc-le-suc h)

module _ (g : Geometry) (r : Registers) (m : Memory) where
  -- the reply to a frame, by what control decided of it
  pub reply-decided : (f : List ℕ) (d : Decision) → control g r f ≡ d → reply_of g r m f ≡ replied (length f) d.lead (data_of g r m d.action)
  unfolding reply_of
  reply-decided f d e = λ i. replied (length f) (e i).lead (data_of g r m (e i).action)

  -- an ignored frame's
  pub reply-ignored : (f : List ℕ) → control g r f ≡ ignored r → reply_of g r m f ≡ replicate (length f) 255
  unfolding data_of
  reply-ignored f e = reply-decided f (ignored r) e ∙ replied_nothing (length f) 0

  -- ---- D7: every byte after the first is the status byte; a deep chip tells nothing
  pub reply-status : (t : List ℕ) → r.deep ≡ false
      → reply_of g r m (0xD7 ∷ t) ≡ replied (suc (length t)) 1 (λ i. status_of g (is_idle r.operation) m.compare (guarded r))
  unfolding data_of
  reply-status t h = reply-decided (0xD7 ∷ t) (decided r A.ReadStatus 1) (status-obeyed g r t h)

  pub status-byte : (t : List ℕ) (i d : ℕ) → r.deep ≡ false → 1 ≤ i → i < suc (length t)
      → get_or (reply_of g r m (0xD7 ∷ t)) i d ≡ status_of g (is_idle r.operation) m.compare (guarded r)
  status-byte t i d h a l =
      ap (λ (s : List ℕ). get_or s i d) (reply-status t h)
      ∙ replied_data (suc (length t)) 1 (λ _. status_of g (is_idle r.operation) m.compare (guarded r)) i d a l

  pub reply-status_deep : (t : List ℕ) → r.deep ≡ true → reply_of g r m (0xD7 ∷ t) ≡ replicate (suc (length t)) 255
  reply-status_deep t h = reply-ignored (0xD7 ∷ t) (status-ignored g r t h)

  -- ---- 32 and 35: after the lead the register's bytes, then FFh
  module _ (a b c : ℕ) (t : List ℕ) (y : Ready r) where
    pub reply-protection : reply_of g r m (0x32 ∷ a ∷ b ∷ c ∷ t) ≡ replied (length (0x32 ∷ a ∷ b ∷ c ∷ t)) 4 (once_data (register_of g r.protection))
    unfolding data_of
    reply-protection = reply-decided (0x32 ∷ a ∷ b ∷ c ∷ t) (decided r A.ReadProtection 4) (protection-obeyed g r a b c t y)

    pub reply-lockdown : reply_of g r m (0x35 ∷ a ∷ b ∷ c ∷ t) ≡ replied (length (0x35 ∷ a ∷ b ∷ c ∷ t)) 4 (once_data (register_of g r.lockdown))
    unfolding data_of
    reply-lockdown = reply-decided (0x35 ∷ a ∷ b ∷ c ∷ t) (decided r A.ReadLockdown 4) (lockdown-obeyed g r a b c t y)

    register_byte : (reply bytes : List ℕ) (n : ℕ) → reply ≡ replied n 4 (once_data bytes) → (j d : ℕ) → 4 + j < n → j < length bytes → get_or reply (4 + j) d ≡ get_or bytes j 0
    register_byte reply bytes n e j d h l =
        let k : 4 + j - 4 ≡ j = omega arith in
        ap (λ (s : List ℕ). get_or s (4 + j) d) e ∙ replied_data n 4 (once_data bytes) (4 + j) d (omega arith) h
        ∙ ap (λ (x : ℕ). get_or bytes x 255) k ∙ get_or_any bytes j 255 0 l

    pub protection-byte : (j d : ℕ) → j < length t → j < g.register → g.register ≤ length r.protection → get_or (reply_of g r m (0x32 ∷ a ∷ b ∷ c ∷ t)) (4 + j) d ≡ get_or r.protection j 0
    protection-byte j d h k l =
        register_byte (reply_of g r m (0x32 ∷ a ∷ b ∷ c ∷ t)) (register_of g r.protection) (length (0x32 ∷ a ∷ b ∷ c ∷ t)) reply-protection j d (omega arith)
        (omega (arith, length-take-le g.register r.protection l))
        ∙ byte_of g r.protection j k

    pub lockdown-byte : (j d : ℕ) → j < length t → j < g.register → g.register ≤ length r.lockdown → get_or (reply_of g r m (0x35 ∷ a ∷ b ∷ c ∷ t)) (4 + j) d ≡ get_or r.lockdown j 0
    lockdown-byte j d h k l =
        register_byte (reply_of g r m (0x35 ∷ a ∷ b ∷ c ∷ t)) (register_of g r.lockdown) (length (0x35 ∷ a ∷ b ∷ c ∷ t)) reply-lockdown j d (omega arith)
        (omega (arith, length-take-le g.register r.lockdown l))
        ∙ byte_of g r.lockdown j k

  -- ---- D2: after the lead the page from the byte on, wrapping
  module _ (a b c h i j k : ℕ) (t : List ℕ) (y : Ready r) where
    abbrev pub page_frame : List ℕ
    page_frame = 0xD2 ∷ a ∷ b ∷ c ∷ h ∷ i ∷ j ∷ k ∷ t

    pub reply_page : reply_of g r m page_frame
        ≡ replied (length page_frame) 8 (ring_data g.size (byte_at g (address_at page_frame 1)) (page_of g (page_at g (address_at page_frame 1)) m.array))
    unfolding data_of
    reply_page =
        reply-decided page_frame (decided r (A.ReadPage (page_at g (address_at page_frame 1)) (byte_at g (address_at page_frame 1))) 8)
        (page_obeyed g r a b c h i j k t y)

    -- a page's length of bytes, from byte 0 on: the page
    pub page_bytes : Sized g (length m.array) → length t ≡ g.size → byte_at g (address_at page_frame 1) ≡ 0
        → drop 8 (reply_of g r m page_frame) ≡ page_of g (page_at g (address_at page_frame 1)) m.array
    unfolding ring_read
    page_bytes z l s =
        let page = page_of g (page_at g (address_at page_frame 1)) m.array in
        let n : length page ≡ g.size = length-page_of g (page_at g (address_at page_frame 1)) m.array z (page_named_lem g (address_at page_frame 1) (omega (arith, z.blocks))) in
        let q : length page_frame - 8 ≡ length t = omega arith in
        ap (drop 8) (reply_page ∙ ap (λ (at : ℕ). replied (length page_frame) 8 (ring_data g.size at page)) s)
        ∙ ap (drop 8) (replied-parts (length page_frame) 8 (ring_data g.size 0 page) (omega arith))
        ∙ drop_at (replicate 8 255) (tabulate (length page_frame - 8) (ring_data g.size 0 page)) 8 (length-replicate {A = ℕ} 8 255)
        ∙ ap (λ (x : ℕ). tabulate x (ring_data g.size 0 page)) q
        ∙ ring_read-whole (length t) g.size page (l ∙ sym n) (sym n)

  -- the same of a page's own address: `field` times its number
  pub page_read : (page h i j k : ℕ) (t : List ℕ) → Ready r → Sized g (length m.array) → length t ≡ g.size → page < g.pages → g.field * page < 16777216
      → drop 8 (reply_of g r m (0xD2 ∷ (g.field * page) / 65536 % 256 ∷ (g.field * page) / 256 % 256 ∷ (g.field * page) % 256 ∷ h ∷ i ∷ j ∷ k ∷ t)) ≡ page_of g page m.array
  page_read page h i j k t y z l p w =
      let n = g.field * page in
      let e = address-bytes 0xD2 n (h ∷ i ∷ j ∷ k ∷ t) w in
      page_bytes (n / 65536 % 256) (n / 256 % 256) (n % 256) h i j k t y z l (ap (byte_at g) e ∙ byte-address g page)
      ∙ ap (λ (x : ℕ). page_of g x m.array) (ap (page_at g) e ∙ page_address g page p z.addressed)
