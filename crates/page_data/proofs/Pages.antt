-- The page that an 84 carries, and the one that a reply to D2 carries: each is a part of the slot's bytes, computed byte by byte.
-- Assumes nothing.
use Prim.Native.Nat.{ℕ, zero, suc, ◌+◌, ◌-◌, ◌*◌, ◌%◌, ◌<◌, ◌≤◌}
use native.Mathlib.Nat.{mul-le-mul, mul-zero}
use native.Mathlib.Omega.{arith}
use mathlib.Core.Path.{◌≡◌, refl, sym, ap, ◌∙◌}
use mathlib.Core.Bool.{Bool, true, false, cond}
use mathlib.Core.Logic.{◌⊎◌, inl, inr}
use mathlib.Core.List.{List, ◌++◌}
use lib.Dec.{eqb}
use mir.Val.{Fits}
use mir.Syntax.{w64}
use lib.ListN.{length, get_or, take, drop, replicate}
use borrow.Author.Tests.{eq-eqb, ne_eqb}
use Rattle.geometry.specs.Parts.{slot_room, page_room}
use Rattle.slices.specs.Lists.{tabulate, splice}
use Rattle.slices.proofs.Laws.{tabulate_const, length-tabulate, get_or-tabulate, tabulate-get_or, tabulate-same, tabulate_append, tabulate-part, length-splice, spliced, splice-part, run_length, run-part}
use Rattle.geometry.specs.declared.Geometry.{Geometry}
use Rattle.slots.specs.declared.Aim.{Aim}
use Rattle.slots.specs.declared.Period.{Period}
use Rattle.slots.specs.declared.Kind.{Kind}
use Rattle.slots.specs.declared.Kind.TheVariants.{Patch, Get, Wipe}
use Rattle.slots.specs.declared.Verdict.{Verdict}
use Rattle.slots.specs.Records.{head_size, version_of, head_of, version_in, changed, image, patched}
use Rattle.slots.specs.Driver.{Holding, stored_by, judged, read_in}
use Rattle.records.specs.Held.{held, Pages}
use Rattle.slots.proofs.Image.{head-length, head-most, image-head, image-byte}
use Rattle.page_data.proofs.Bytes.{rest-long, two_parts}

-- ---- where a page lies

pub page_within : (size n : ℕ) → size ≤ page_room → n ≤ 7 → size * n + size ≤ slot_room
page_within size n h l = omega (arith, mul-le-mul h l)

-- and is a number of 64 bits
pub page_small : (size n : ℕ) → size ≤ page_room → n ≤ 7 → Fits w64 (size * n)
page_small size n h l = omega (arith, page_within size n h l)

-- every page but a slot's first begins behind the head
page_least : (size page : ℕ) → 64 ≤ size → 64 ≤ size * suc page
page_least size page h =
    let n : 1 ≤ suc page = omega arith in
    mul-le-mul h n

pub page_apart : (size page : ℕ) → 64 ≤ size → 0 < size * page → 11 ≤ size * page
page_apart size zero h l = absurd (omega arith)
page_apart size (suc page) h l = omega (arith, page_least size page h)

page_zero : (size page : ℕ) → 64 ≤ size → size * page ≡ 0 → page ≡ 0
page_zero size zero h e = refl
page_zero size (suc page) h e = absurd (omega (arith, page_least size page h))

-- ---- a get and a wipe

-- they load zeros
pub zeros : {k : Kind} {n size : ℕ} (h : Holding) (start : ℕ) → (k ≡ Get) ⊎ (k ≡ Wipe) → n ≡ size → replicate n 0 ≡ tabulate size (λ i. stored_by k h (start + i))
unfolding stored_by
zeros {n = n} h start (inl e) l = sym (tabulate_const n 0) ∙ (λ i. tabulate (l i) (λ j. stored_by (sym e i) h (start + j)))
zeros {n = n} h start (inr e) l = sym (tabulate_const n 0) ∙ (λ i. tabulate (l i) (λ j. stored_by (sym e i) h (start + j)))

-- ---- a put

-- a slot's first page: the head, and then the recipe
image-first : (period : Period) (recipe : List ℕ) (n start : ℕ) → head_size (version_of period) ≤ n → start ≡ 0
    → head_of period (length recipe) ++ tabulate (n - head_size (version_of period)) (λ i. get_or recipe (0 + i) 0) ≡ tabulate n (λ i. image period recipe (start + i))
image-first period recipe n start h e =
    (λ i. heads i ++ tabulate-same (n - k) (λ i. get_or recipe (0 + i) 0) (λ i. image period recipe (0 + (k + i))) (λ i l. body i) i)
    ∙ sym (tabulate_append k (n - k) (λ i. image period recipe (0 + i)))
    ∙ (λ i. tabulate (all i) (λ j. image period recipe (sym e i + j)))
  where
    k : ℕ
    k = head_size (version_of period)

    head : List ℕ
    head = head_of period (length recipe)

    all : k + (n - k) ≡ n
    all = omega arith

    heads : head ≡ tabulate k (λ i. image period recipe (0 + i))
    heads =
        sym (tabulate-get_or head 0) ∙ ap (λ (m : ℕ). tabulate m (λ i. get_or head i 0)) (head-length period (length recipe))
        ∙ tabulate-same k (λ i. get_or head i 0) (λ i. image period recipe (0 + i)) (λ i l. let z : i ≡ 0 + i = omega arith in sym (image-head period recipe i l) ∙ ap (image period recipe) z)

    body : (i : ℕ) → get_or recipe (0 + i) 0 ≡ image period recipe (0 + (k + i))
    body i =
        let m : 0 + i ≡ 0 + (k + i) - k = omega arith in
        ap (λ (j : ℕ). get_or recipe j 0) m ∙ sym (image-byte period recipe (0 + (k + i)) (omega arith))

-- as its two parts come back
pub image_made : (period : Period) (recipe part ys zs : List ℕ) (start k : ℕ) → 11 ≤ length part → k ≡ head_size (version_of period) → start ≡ 0
    → ys ≡ head_of period (length recipe)
    → zs ≡ tabulate (length (take (length (ys ++ drop k part) - k) (drop k (ys ++ drop k part)))) (λ i. get_or recipe (0 + i) 0)
    → take k (ys ++ drop k part) ++ (zs ++ drop (length (ys ++ drop k part) - k) (drop k (ys ++ drop k part))) ≡ tabulate (length part) (λ i. image period recipe (start + i))
image_made period recipe part ys zs start k h w e q r =
    let l : k ≤ length part = omega (arith, w, head-most period) in
    let y : length ys ≡ k = ap length q ∙ head-length period (length recipe) ∙ sym w in
    let m : length (take (length (ys ++ drop k part) - k) (drop k (ys ++ drop k part))) ≡ length part - head_size (version_of period) = omega (arith, rest-long k part ys l y, w) in
    two_parts k part ys zs l y ∙ (λ i. q i ++ (r ∙ ap (λ (j : ℕ). tabulate j (λ i. get_or recipe (0 + i) 0)) m) i)
    ∙ image-first period recipe (length part) start (omega (arith, head-most period)) e

-- another page
pub image_later : (period : Period) (recipe : List ℕ) (n start k : ℕ) → k ≡ head_size (version_of period) → 11 ≤ start
    → tabulate n (λ i. get_or recipe (start - k + i) 0) ≡ tabulate n (λ i. image period recipe (start + i))
image_later period recipe n start k w h =
    tabulate-same n (λ i. get_or recipe (start - k + i) 0) (λ i. image period recipe (start + i))
    (λ i l. let m : start - k + i ≡ start + i - head_size (version_of period) = omega (arith, w, head-most period) in ap (λ (j : ℕ). get_or recipe j 0) m
    ∙ sym (image-byte period recipe (start + i) (omega (arith, head-most period))))

-- ---- a patch

-- whether it changes what it has read, as the code has it
abbrev pub Changing : Verdict → Bool → Type 0
Changing v b = (head place : ℕ) (bytes : List ℕ) (old i : ℕ) → cond b (patched head place bytes old i) old ≡ changed v head place bytes old i

-- the part of the bytes read that begins at `start` came back as `part`
module _ (v : Verdict) (aim : Aim) (payload staged : List ℕ) (start size : ℕ) (fits : start + size ≤ length staged)
    (part : List ℕ) (read : part ≡ take (start + size - start) (drop start staged)) where
  as_read : part ≡ tabulate size (λ i. get_or staged (start + i) 0)
  as_read = read ∙ run-part start size staged ∙ sym (tabulate-part size start staged 0 fits)

  -- what an 84 carries
  abbrev laden : List ℕ
  laden = tabulate size (λ i. stored_by Patch (held v aim payload staged) (start + i))

  -- a byte of it, by whether the verdict lets the patch change it
  byte_by : {b x : Bool} → Changing v b → b ≡ x → (i : ℕ)
      → cond x (patched (head_size (version_in staged)) aim.place payload (get_or staged (start + i) 0) (start + i)) (get_or staged (start + i) 0)
      ≡ stored_by Patch (held v aim payload staged) (start + i)
  unfolding stored_by
  byte_by h e i =
      let old = get_or staged (start + i) 0 in
      let k = head_size (version_in staged) in
      ap (λ (y : Bool). cond y (patched k aim.place payload old (start + i)) old) (sym e) ∙ h k aim.place payload old (start + i)

  -- the page stays
  pub patch-kept : {b : Bool} → Changing v b → b ≡ false → part ≡ laden
  patch-kept h e =
      as_read ∙ tabulate-same size (λ i. get_or staged (start + i) 0) (λ i. stored_by Patch (held v aim payload staged) (start + i)) (λ i l. byte_by h e i)

  -- or the patch is laid over it
  pub patch-laid : {b : Bool} (head : ℕ) (ys : List ℕ) → Changing v b → b ≡ true → head ≡ head_size (version_in staged)
      → ys ≡ tabulate (length part) (λ i. patched head aim.place payload (get_or part i 0) (start + i)) → ys ≡ laden
  patch-laid head ys h e w q =
      q ∙ ap (λ (n : ℕ). tabulate n (λ i. patched head aim.place payload (get_or part i 0) (start + i))) long
      ∙ tabulate-same size (λ i. patched head aim.place payload (get_or part i 0) (start + i))
      (λ i. stored_by Patch (held v aim payload staged) (start + i))
      (λ i l. (λ j. patched (w j) aim.place payload (byte i l j) (start + i)) ∙ byte_by h e i)
    where
      long : length part ≡ size
      long = ap length as_read ∙ length-tabulate size (λ i. get_or staged (start + i) 0)

      byte : (i : ℕ) → i < size → get_or part i 0 ≡ get_or staged (start + i) 0
      byte i l = ap (λ (xs : List ℕ). get_or xs i 0) as_read ∙ get_or-tabulate size (λ j. get_or staged (start + j) 0) i 0 l

-- ---- a reply to D2: the page came back as ys

module _ {g : Geometry} (s : Pages g) (kind : Kind) (v : Verdict) (aim : Aim) (page : ℕ) (payload staged : List ℕ) (start : ℕ)
    (at : start ≡ g.size * (page % 8)) (long : length staged ≡ slot_room)
    (reply ys : List ℕ) (copied : ys ≡ tabulate (length (take (start + g.size - start) (drop start staged))) (λ i. get_or reply (8 + i) 255)) where
  fits : start + g.size ≤ length staged
  fits = omega (arith, page_within g.size (page % 8) s.most (omega arith))

  abbrev told : List ℕ
  told = tabulate g.size (λ i. get_or reply (8 + i) 255)

  length-told : length told ≡ g.size
  length-told = length-tabulate g.size (λ i. get_or reply (8 + i) 255)

  -- the bytes read, with the page among them
  abbrev back : List ℕ
  back = take start staged ++ (ys ++ drop (start + g.size - start) (drop start staged))

  back_spliced : back ≡ splice start told staged
  back_spliced =
      let k : start + g.size - start ≡ g.size = omega arith in
      spliced start staged (omega (arith, fits)) (k ∙ sym length-told)
      (copied ∙ ap (λ (n : ℕ). tabulate n (λ i. get_or reply (8 + i) 255)) (run_length start g.size staged fits))

  pub read_room : g.size ≤ length back
  read_room = omega (arith, ap length back_spliced, length-splice start told staged, fits)

  -- the data after the reply, whose verdict is this
  abbrev left : Verdict → Holding
  left w = record { payload = payload; aim = aim; staged = splice (g.size * (page % 8)) told staged; verdict = w }

  abbrev judging : Bool → Holding
  judging b = left (cond b (judged g kind (held v aim payload staged) told) v)

  read_as : (w : Verdict) (b : Bool) → eqb (page % 8) 0 ≡ b → w ≡ cond b (judged g kind (held v aim payload staged) told) v
      → held w aim payload back ≡ read_in g kind page (held v aim payload staged) told
  unfolding read_in
  read_as w b z e =
      (λ i. held (e i) aim payload ((back_spliced ∙ ap (λ (a : ℕ). splice a told staged) at) i)) ∙ ap (λ (c : Bool). judging c) (sym z)

  -- a slot's first page is judged by its bytes, which stand at the beginning
  pub read_first : (w : Verdict) → start ≡ 0 → w ≡ judged g kind (held v aim payload staged) (take g.size back)
      → held w aim payload back ≡ read_in g kind page (held v aim payload staged) told
  read_first w z e =
      let p : page % 8 ≡ 0 = page_zero g.size (page % 8) s.some (sym at ∙ z) in
      let t : take g.size back ≡ told =
      (λ i. take (sym length-told i) ((back_spliced ∙ ap (λ (a : ℕ). splice a told staged) z) i))
      ∙ splice-part 0 told staged (omega (arith, length-told, fits)) in
      read_as w _ (eq-eqb (page % 8) 0 p) (e ∙ ap (λ (l : List ℕ). judged g kind (held v aim payload staged) l) t)

  -- no other page is
  pub read_later : (start ≡ 0 → ⊥) → held v aim payload back ≡ read_in g kind page (held v aim payload staged) told
  read_later z = read_as v _ (ne_eqb (page % 8) 0 (λ e. z (at ∙ ap (λ (n : ℕ). g.size * n) e ∙ mul-zero g.size))) refl
