-- Laws of what is printed. A line goes behind the text that waits, or to the start of the buffer once that text is written; either way
-- what is written and what waits are, together, what was due before and the line. Lines in a row add up.
-- Assumes nothing.
use mathlib.Core.Path.{◌≡◌, refl, sym, ap, subst, ◌∙◌}
use mathlib.Core.List.{List, [], ◌∷◌, ◌++◌, append-nil, append_assoc}
use mathlib.Core.Bool.{true, false, true≢false}
use Prim.Native.Nat.{ℕ, zero, suc, ◌+◌, ◌*◌, ◌-◌, ◌/◌, ◌≤◌, ◌<◌, min}
use native.Mathlib.Numerals.{add-one}
use native.Mathlib.Omega.{arith}
use lib.ListN.{length, take, drop, length-append, length-drop}
use Rattle.std.proofs.lemmas.List.{drop-drop, drop_at}
use lib.Seq.{take_at, take_all, take-add, take-append-le, length-take-le}
use lib.Bits.{bit_xor}
use lib.Dec.{ltb}
use borrow.Author.Tests.{ltb-false}
use Rattle.io.specs.Counts.{IsPrefixLen}
use Rattle.slices.specs.Lists.{splice}
use Rattle.slices.proofs.Laws.{take-splice, splice-part}
use Rattle.checksum.specs.Checksum.{crc_bits, crc_of}
use Rattle.lines.specs.Texts.{Stands, frame_text}
use Rattle.lines.proofs.Laws.{stood}
use Rattle.printing.specs.declared.Output.{Output}
use Rattle.printing.specs.Held.{Held, Printed, Flushed}
use Rattle.printing.specs.Texts.{frames_text}

-- what stands behind the first bytes
stands_behind : {at e : ℕ} {l xs ys : List ℕ} → Stands at l e xs ys → at + length l ≤ length xs → take e ys ≡ take at xs ++ l
stands_behind {at} {e} {l} {xs} {ys} s h =
    rw (s.end, s.text, take-add at (length l) (splice at l xs), take-splice at at l xs (omega arith), splice-part at l xs h) refl

-- what was begun is begun of more
begun_more : (n : ℕ) (due l : List ℕ) → n ≤ length due → n ≤ length (due ++ l)
begun_more n due l h = simp length-append (omega arith)

pub printed_behind : {o r : Output} {at e : ℕ} {l xs ys : List ℕ} → at ≡ min o.waiting (length xs) → length l ≤ length xs - at
    → Stands at l e xs ys → r ≡ record { waiting = e; written = o.written; failed = o.failed } → Printed l o xs r ys
printed_behind {o} {r} {at} {e} {l} {xs} {ys} m h t k = record { held = λ due b. subst (λ (z : Output). Held (due ++ l) z ys) (sym k) (go due b) }
  where
    go : (due : List ℕ) → Held due o xs → Held (due ++ l) (record { waiting = e; written = o.written; failed = o.failed }) ys
    go due b =
        let w : at ≡ o.waiting = omega (arith, m, b.fits) in
        record {
          fits = omega (arith, t.end, t.long, m);
          begun = begun_more o.written due l b.begun;
          whole = λ f.
              ap (λ (z : List ℕ). z ++ take e ys) (take-append-le o.written due l b.begun)
              ∙ ap (λ (z : List ℕ). take o.written due ++ z) (stands_behind t (omega arith) ∙ ap (λ (n : ℕ). take n xs ++ l) w)
              ∙ sym (append_assoc (take o.written due) (take o.waiting xs) l) ∙ ap (λ (z : List ℕ). z ++ l) (b.whole f);
        }

pub printed_first : {o p r : Output} {e : ℕ} {l xs ys : List ℕ} → Flushed o xs p → p.failed ≡ false → length l ≤ length xs → Stands 0 l e xs ys
    → r ≡ record { waiting = e; written = p.written; failed = p.failed } → Printed l o xs r ys
printed_first {o} {p} {r} {e} {l} {xs} {ys} q n h t k =
    record { held = λ due b. subst (λ (z : Output). Held (due ++ l) z ys) (sym k) (go due (q.held due b)) }
  where
    go : (due : List ℕ) → Held due p xs → Held (due ++ l) (record { waiting = e; written = p.written; failed = p.failed }) ys
    go due b =
        record {
          fits = omega (arith, t.end, t.long);
          begun = begun_more p.written due l b.begun;
          whole = λ f.
              ap (λ (z : List ℕ). z ++ take e ys) (take-append-le p.written due l b.begun)
              ∙ ap (λ (z : List ℕ). take p.written due ++ z) (stood t h)
              ∙ ap (λ (z : List ℕ). z ++ l) (sym (append-nil (take p.written due)) ∙ ap (λ (j : ℕ). take p.written due ++ take j xs) (sym (q.all n)) ∙ b.whole n);
        }

-- where writing has failed nothing is kept, and what was written is a beginning all the same
pub printed_lost : {o p : Output} {l xs : List ℕ} → Flushed o xs p → p.failed ≡ true → Printed l o xs p xs
printed_lost {o} {p} {l} {xs} q n =
    record {
      held = λ due b.
          record { fits = (q.held due b).fits; begun = begun_more p.written due l (q.held due b).begun; whole = λ f. absurd (true≢false (sym n ∙ f)) };
    }

pub printed_none : (o : Output) (xs : List ℕ) → Printed [] o xs o xs
printed_none o xs = record { held = λ due b. subst (λ (z : List ℕ). Held z o xs) (sym (append-nil due)) b }

pub printed_more : {o r t : Output} {l m xs ys zs : List ℕ} → Printed l o xs r ys → Printed m r ys t zs → Printed (l ++ m) o xs t zs
printed_more {o} {r} {t} {l} {m} {xs} {ys} {zs} a b =
    record { held = λ due h. subst (λ (z : List ℕ). Held z t zs) (append_assoc due l m) (b.held (due ++ l) (a.held due h)) }

pub printed_as : {o r : Output} {l m xs ys : List ℕ} → Printed l o xs r ys → l ≡ m → Printed m o xs r ys
printed_as {o} {r} {l} {m} {xs} {ys} p e = subst (λ (k : List ℕ). Printed k o xs r ys) e p

-- ---- writing

-- nothing is done where writing has failed
pub flushed_none : {o : Output} {xs : List ℕ} → o.failed ≡ true → Flushed o xs o
flushed_none {o} {xs} e = record { held = λ due b. b; all = λ f. absurd (true≢false (sym e ∙ f)) }

-- it stops, with nothing written
pub flushed_stopped : {o r : Output} {xs : List ℕ} → r ≡ record { waiting = o.waiting; written = o.written; failed = true } → Flushed o xs r
flushed_stopped {o} {r} {xs} e =
    subst (λ (z : Output). Flushed o xs z) (sym e)
    (record { held = λ due b. record { fits = b.fits; begun = b.begun; whole = λ f. absurd (true≢false f) }; all = λ f. absurd (true≢false f) })

-- the text is as long as what was written and what waits
due-long : {o : Output} {due xs : List ℕ} → Held due o xs → o.failed ≡ false → length due ≡ o.written + o.waiting
due-long {o} {due} {xs} b f =
    ap length (sym (b.whole f)) ∙ length-append (take o.written due) (take o.waiting xs)
    ∙ (λ i. length-take-le o.written due b.begun i + length-take-le o.waiting xs b.fits i)

-- k of the n bytes were taken
pub flushed_taken : {o : Output} {n k : ℕ} {xs : List ℕ} → o.failed ≡ false → n ≡ min o.waiting (length xs) → k ≤ n
    → Flushed o xs (record { waiting = n - k; written = o.written + k; failed = ltb k n })
flushed_taken {o} {n} {k} {xs} f m h =
    record {
      held = λ due b.
          let d : length due ≡ o.written + o.waiting = due-long b f in
          record {
            fits = omega arith;
            begun = omega (arith, b.fits);
            whole = λ g.
                let l : n ≤ k = ltb-false k n g in
                let z : n - k ≡ 0 = omega arith in
                ap (λ (j : ℕ). take (o.written + k) due ++ take j xs) z ∙ append-nil (take (o.written + k) due)
                ∙ take_all (o.written + k) due (omega (arith, b.fits));
          };
      all = λ g. omega (arith, ltb-false k n g);
    }

-- ---- texts

-- the line that a buffer holds from its start on
pub line_of : {r : ℕ} {l xs ys : List ℕ} → Stands 0 l r xs ys → IsPrefixLen r ys → take r ys ≡ l
line_of {r} {l} {xs} {ys} s c = stood s (omega (arith, s.end, s.long, c.0))

-- the frame that comes behind the first i, and what is left behind it
pub next_frame : (i : ℕ) (log x rest : List ℕ) → drop (6 * i) log ≡ x ++ rest → length x ≡ 6
    → (frames_text i log ++ frame_text x ≡ frames_text (i + 1) log) × (rest ≡ drop (6 * (i + 1)) log) × (6 * (i + 1) ≤ length log)
unfolding frames_text
next_frame i log x rest e l =
    let t : take 6 (drop (6 * i) log) ≡ x = ap (take 6) e ∙ take_at x rest 6 l in
    let s : 6 * (i + 1) ≡ 6 * i + 6 = omega arith in
    let d : drop (6 * (i + 1)) log ≡ rest = ap (λ (k : ℕ). drop k log) s ∙ sym (drop-drop 6 (6 * i) log) ∙ ap (drop 6) e ∙ drop_at x rest 6 l in
    let n : length (drop (6 * i) log) ≡ 6 + length rest = ap length e ∙ length-append x rest ∙ ap (λ (k : ℕ). k + length rest) l in
    (rw (add-one i, t) refl, sym d, omega (arith, length-drop (6 * i) log))

-- the frames end where enough are told, or the log has no more
pub last_frame : (i n c : ℕ) (log : List ℕ) → c + i ≡ n → 6 * i ≤ length log → (0 < c → length (drop (6 * i) log) < 6) → i ≡ min n (length log / 6)
last_frame i n zero log e h f = omega arith
last_frame i n (suc c) log e h f = omega (arith, f (omega arith), length-drop (6 * i) log)

-- a checksum over two pieces, one after the other
pub crc_append : (s : ℕ) (xs ys : List ℕ) → crc_of s (xs ++ ys) ≡ crc_of (crc_of s xs) ys
unfolding crc_of
crc_append s [] ys = refl
crc_append s (x ∷ xs) ys = crc_append (crc_bits 8 (bit_xor s x)) xs ys
