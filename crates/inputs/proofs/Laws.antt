-- Laws of the input. A line is kept up to one character more than the longest has, and what a longer one says does not depend on the rest; bytes
-- read in pieces are read in a row.
-- Assumes nothing.
use Rattle.std.specs.Prelude.{Err}
use mathlib.Core.Path.{◌≡◌, refl, sym, ap, subst, ◌∙◌}
use mathlib.Core.List.{List, [], ◌∷◌, ◌++◌, append-nil}
use mathlib.Core.Bool.{Bool, true, false, cond, true≢false}
use Prim.Native.Nat.{ℕ, zero, suc, ◌+◌, ◌-◌, ◌≤◌, ◌<◌, min}
use native.Mathlib.Omega.{arith}
use native.Mathlib.Numerals.{add-one}
use lib.ListN.{length, take, drop, set, get_or, length-append, length-set}
use lib.Seq.{take_all, take-append-le, length-take-le, take-set-le}
use lib.Dec.{leb, ltb, eqb}
use borrow.Author.Tests.{leb-true, leb-false, lt-ltb, eqb-true, eq-eqb}
use Rattle.faults.specs.declared.Fault.TheVariants as Fault
use Rattle.orders.specs.Lines.{read_of}
use Rattle.printing.specs.declared.Output.{Output}
use Rattle.printing.specs.Held.{Held, Flushed}
use Rattle.obeying.specs.declared.Session.{Session}
use Rattle.obeying.specs.Desk.{Desk, desk_of}
use Rattle.obeying.specs.Orders.{after_reading, reading_text, after_line, line_text}
use Rattle.obeying.specs.Promises.{Obeyed, with_output}
use Rattle.inputs.specs.declared.Reader.{Reader}
use Rattle.inputs.specs.Output.{Progress, ended, grown, fed, fed_all, finished}
use Rattle.inputs.specs.Places.{line_room, Place, place, Kept, Keeps, At, Reads, Ends, Finishes, reader_with}

-- ---- a line longer than the longest

-- it is cut, and says the same
too_long : (xs : List ℕ) → 8192 < length xs → read_of xs ≡ Err Fault.TooLong
unfolding read_of
too_long xs h = rw (lt-ltb 8192 (length xs) h) refl

cut-length : (xs : List ℕ) → line_room ≤ length xs → length (take line_room xs) ≡ line_room
cut-length xs h = length-take-le line_room xs h

pub cut-after : (xs : List ℕ) (d : Desk) → after_line (take line_room xs) d ≡ after_line xs d
unfolding after_line
cut-after xs d = go (leb (length xs) line_room) refl
  where
    go : (b : Bool) → leb (length xs) line_room ≡ b → after_line (take line_room xs) d ≡ after_line xs d
    go true e = ap (λ (z : List ℕ). after_line z d) (take_all line_room xs (leb-true (length xs) line_room e))
    go false e =
        let h : line_room < length xs = leb-false (length xs) line_room e in
        rw (too_long (take line_room xs) (omega (arith, cut-length xs (omega arith))), too_long xs (omega arith)) refl

pub cut-text : (xs : List ℕ) (d : Desk) → line_text (take line_room xs) d ≡ line_text xs d
unfolding line_text
cut-text xs d = go (leb (length xs) line_room) refl
  where
    go : (b : Bool) → leb (length xs) line_room ≡ b → line_text (take line_room xs) d ≡ line_text xs d
    go true e = ap (λ (z : List ℕ). line_text z d) (take_all line_room xs (leb-true (length xs) line_room e))
    go false e =
        let h : line_room < length xs = leb-false (length xs) line_room e in
        rw (too_long (take line_room xs) (omega (arith, cut-length xs (omega arith))), too_long xs (omega arith)) refl

-- ---- characters kept

-- no line yet
pub kept-none : (line : List ℕ) → Kept [] 0 line
kept-none line = record { count = refl; text = refl }

-- one more, where there is room
take_set_at : (n x : ℕ) (ys : List ℕ) → n < length ys → take (suc n) (set ys n x) ≡ take n ys ++ (x ∷ [])
take_set_at zero x [] h = absurd (omega arith)
take_set_at zero x (y ∷ ys) h = refl
take_set_at (suc n) x [] h = absurd (omega arith)
take_set_at (suc n) x (y ∷ ys) h = ap (λ (z : List ℕ). y ∷ z) (take_set_at n x ys (omega arith))

pub kept_more : (xs : List ℕ) {n : ℕ} (x : ℕ) (line : List ℕ) → length line ≡ line_room → n < length line → Kept xs n line → Kept (xs ++ (x ∷ [])) (n + 1) (set line n x)
kept_more xs {n} x line l h k =
    let e : n ≡ length xs = omega (arith, k.count) in
    let t : xs ≡ take n line = sym (take_all line_room xs (omega arith)) ∙ sym k.text in
    record {
      count = simp length-append (omega arith);
      text =
          ap (λ (m : ℕ). take m (set line n x)) (add-one n) ∙ take_set_at n x line h ∙ ap (λ (z : List ℕ). z ++ (x ∷ [])) (sym t)
          ∙ sym (take_all line_room (xs ++ (x ∷ [])) (simp length-append (omega arith)));
    }

-- one more, where there is none
pub kept_full : (xs : List ℕ) {n : ℕ} (x : ℕ) (line : List ℕ) → length line ≡ line_room → length line ≤ n → Kept xs n line → Kept (xs ++ (x ∷ [])) n line
kept_full xs {n} x line l h k =
    let m : line_room ≤ length xs = omega (arith, k.count) in
    record { count = simp length-append (omega (arith, k.count)); text = k.text ∙ sym (take-append-le line_room xs (x ∷ []) m) }

-- ---- the line ends

pub line-ended : {r t : Reader} {block array log out text line block' array' log' out' text' : List ℕ} {s : Session} {n : ℕ} → length line ≡ line_room
    → n ≡ min r.filled (length line)
    → Obeyed (after_line (take n line) (desk_of r.session block array log out)) (line_text (take n line) (desk_of r.session block array log out)) r.session text s block' array' log' out' text'
    → t ≡ record { session = s; filled = 0 } → Ends (place r block array log out text line) (place t block' array' log' out' text' line)
unfolding ended
line-ended {r} {t} {block} {array} {log} {out} {text} {line} {block'} {array'} {log'} {out'} {text'} {s} {n} h m q e p a =
    subst (λ (z : Reader). At (ended p) (place z block' array' log' out' text' line)) (sym e)
    (record {
      desk = q.desk ∙ (λ i. after_line (same i) (a.desk i)) ∙ cut-after p.pending p.desk;
      held =
          subst (λ (z : List ℕ). Held (p.told ++ z) s.output text') ((λ i. line_text (same i) (a.desk i)) ∙ cut-text p.pending p.desk)
          (q.shows.held p.told a.held);
      kept = kept-none line;
    })
  where
    same : take n line ≡ take line_room p.pending
    same = ap (λ (k : ℕ). take k line) {x = n} {y = r.filled} (omega (arith, m, h, a.kept.count)) ∙ a.kept.text

-- ---- bytes

-- LF
pub fed-end : (x : ℕ) {y z : Place} → eqb x 10 ≡ true → Ends y z → Reads (x ∷ []) y z
unfolding fed fed_all
fed-end x {y} {z} e f p a = subst (λ (b : Bool). At (cond b (ended p) (grown x p)) z) (sym e) (f p a)

-- any other
pub fed-kept : (r : Reader) {t : Reader} (x : ℕ) {n : ℕ} {block array log out text line line' : List ℕ} → eqb x 10 ≡ false → Keeps x r.filled line n line'
    → t ≡ record { session = r.session; filled = n } → Reads (x ∷ []) (place r block array log out text line) (place t block array log out text line')
unfolding fed fed_all grown
fed-kept r {t} x {n} {block} {array} {log} {out} {text} {line} {line'} e f k p a =
    subst (λ (b : Bool). At (cond b (ended p) (grown x p)) (place t block array log out text line')) (sym e)
    (subst (λ (z : Reader). At (grown x p) (place z block array log out text line')) (sym k)
    (record { desk = a.desk; held = a.held; kept = f p.pending a.kept }))

pub reads_none : {x : Place} → Reads [] x x
unfolding fed_all
reads_none p a = a

fed_append : (xs ys : List ℕ) (p : Progress) → fed_all (xs ++ ys) p ≡ fed_all ys (fed_all xs p)
unfolding fed_all
fed_append [] ys p = refl
fed_append (x ∷ xs) ys p = fed_append xs ys (fed x p)

pub reads_more : {x y z : Place} (xs ys : List ℕ) → Reads xs x y → Reads ys y z → Reads (xs ++ ys) x z
reads_more {x} {y} {z} xs ys f g p a = subst (λ (q : Progress). At q z) (sym (fed_append xs ys p)) (g (fed_all xs p) (f p a))

pub reads_as : {x y : Place} {xs ys : List ℕ} → Reads xs x y → xs ≡ ys → Reads ys x y
reads_as {x} {y} {xs} {ys} f e = subst (λ (zs : List ℕ). Reads zs x y) e f

-- ---- the end of the input

pub ends_last : (r : Reader) {block array log out text line : List ℕ} {z : Place} → eqb r.filled 0 ≡ false → Ends (place r block array log out text line) z
    → Finishes (place r block array log out text line) z
unfolding finished
ends_last r {block} {array} {log} {out} {text} {line} {z} e f p a = go (eqb (length p.pending) 0) refl
  where
    not-zero : (n : ℕ) → eqb n 0 ≡ false → n ≡ 0 → ⊥
    not-zero n e h = true≢false (sym (eq-eqb n 0 h) ∙ e)

    go : (b : Bool) → eqb (length p.pending) 0 ≡ b → At (finished p) z
    go true h = absurd (not-zero r.filled e (omega (arith, eqb-true (length p.pending) 0 h, a.kept.count)))
    go false h = subst (λ (b : Bool). At (cond b p (ended p)) z) (sym h) (f p a)

pub ends-none : (r : Reader) {block array log out text line : List ℕ} → r.filled ≡ 0 → Finishes (place r block array log out text line) (place r block array log out text line)
unfolding finished
ends-none r {block} {array} {log} {out} {text} {line} e p a =
    subst (λ (b : Bool). At (cond b p (ended p)) (place r block array log out text line)) (sym (eq-eqb (length p.pending) 0 (omega (arith, a.kept.count)))) a

-- ---- what waits is written

pub written_out : {r t : Reader} (block array log out : List ℕ) {text : List ℕ} (line : List ℕ) → Flushed r.session.output text t.session.output
    → t ≡ reader_with r t.session.output → Reads [] (place r block array log out text line) (place t block array log out text line)
unfolding fed_all
written_out {r} {t} block array log out {text} line f e p a =
    record {
      desk = ap (λ (z : Reader). desk_of z.session block array log out) e ∙ a.desk;
      held = f.held p.told a.held;
      kept = subst (λ (n : ℕ). Kept p.pending n line) (sym (ap (λ (z : Reader). z.filled) e)) a.kept;
    }

pub output_kept : (r : Reader) {t : Reader} {s : Session} {o : Output} {text : List ℕ} → Flushed r.session.output text o → s ≡ with_output r.session o
    → t ≡ record { session = s; filled = r.filled } → Flushed r.session.output text t.session.output × (t ≡ reader_with r t.session.output)
output_kept r {t} {s} {o} {text} f e k =
    let w : t.session.output ≡ o = ap (λ (z : Reader). z.session.output) k ∙ ap (λ (z : Session). z.output) e in
    (subst (Flushed r.session.output text) (sym w) f, k ∙ (λ i. record { session = (e ∙ ap (with_output r.session) (sym w)) i; filled = r.filled }))

-- one byte more
pub byte_more : (i : ℕ) (xs : List ℕ) → i < length xs → take i xs ++ (get_or xs i 0 ∷ []) ≡ take (i + 1) xs
byte_more i xs h = go i xs h ∙ sym (ap (λ (n : ℕ). take n xs) (add-one i))
  where
    go : (i : ℕ) (xs : List ℕ) → i < length xs → take i xs ++ (get_or xs i 0 ∷ []) ≡ take (suc i) xs
    go zero [] h = absurd (omega arith)
    go zero (x ∷ xs) h = refl
    go (suc i) [] h = absurd (omega arith)
    go (suc i) (x ∷ xs) h = ap (λ (z : List ℕ). x ∷ z) (go i xs (omega arith))
