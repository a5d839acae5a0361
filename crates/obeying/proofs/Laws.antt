-- Laws of a line's work. What is lent is the first part of a buffer, and comes back as the first part; so the desk is what the step left. What a
-- fresh part is depends on the array's length alone.
-- Assumes nothing.
use Rattle.std.specs.Prelude.{Option, Some, Ok, Err}
use mathlib.Core.Path.{◌≡◌, refl, sym, ap, subst, ◌∙◌}
use mathlib.Core.Logic.{inl, inr}
use mathlib.Core.List.{List, [], ◌++◌}
use mathlib.Core.Bool.{Bool, true, false, cond, true≢false}
use Prim.Native.Nat.{ℕ, ◌+◌, ◌≤◌, min}
use native.Mathlib.Omega.{arith}
use lib.ListN.{length, take, replicate, length-replicate}
use lib.Seq.{take_all, take_at}
use lib.Dec.{leb}
use borrow.Author.Tests.{leb-true, leb-false}
use Rattle.geometry.specs.declared.Geometry.{Geometry}
use Rattle.geometry.specs.Parts.{part_of, part_among, parts}
use Rattle.state.specs.Answers.{number_of}
use Rattle.state.specs.Memory.{State, chip_in}
use Rattle.state.specs.declared.Answer.TheVariants as Answers
use Rattle.state.specs.Outcomes.{Left, left, fresh_state, fresh_by, fresh_outcome}
use Rattle.blocks.specs.Block.{encode_chip}
use Rattle.blocks.specs.Promises.{stored_by, stored_in}
use Rattle.words.specs.declared.Command.{Command}
use Rattle.orders.specs.declared.Order.{Order}
use Rattle.faults.specs.declared.Fault.{Fault}
use Rattle.words.specs.Words.{is_call}
use Rattle.operands.specs.Operands.{first_of}
use Rattle.words.specs.Words as Words
use Rattle.word_values.specs.Values.{first_length}
use Rattle.operands.specs.Bounds.{Ranged}
use Rattle.orders.specs.Lines.{read_of}
use Rattle.faults.specs.Messages.{Put, text_of}
use Rattle.text.specs.Hexadecimal.{bytes_of}
use Rattle.slices.proofs.Laws.{length-splice}
use Rattle.lines.specs.Texts.{Stands, fault_text}
use Rattle.printing.specs.declared.Output.{Output}
use Rattle.printing.specs.Held.{Printed}
use Rattle.printing.specs.Texts.{sum_line}
use Rattle.printing.proofs.Laws.{printed_as, printed_none}
use Rattle.acting.specs.declared.Totals.{Totals}
use Rattle.contents.specs.Junk.{junk_of}
use Rattle.lengths.specs.declared.room.Lengths.{Lengths}
use Rattle.lengths.specs.Lengths.{Lends, lengths_of, array_room}
use Rattle.acting.specs.Steps.{is_step, seed_of, blank, op_of, Seen, seen_by, Took}
use Rattle.obeying.specs.declared.Session.{Session}
use Rattle.obeying.specs.Desk.{Desk, desk_of, counted, Whole, fresh_part, renewed, begun}
use Rattle.obeying.specs.Orders.{is_sum, seen_with, seen_on, seen_in, stepped, shown_by, shown_of, summed, obeyed, shown, after_reading, reading_text, after_line, line_text}
use Rattle.obeying.specs.Promises.{Obeyed, Ran, after_step, with_output}

-- a count past the end takes all
take_min : (n : ℕ) (xs : List ℕ) → take (min n (length xs)) xs ≡ take n xs
take_min n xs = go (leb n (length xs)) refl
  where
    go : (b : Bool) → leb n (length xs) ≡ b → take (min n (length xs)) xs ≡ take n xs
    go true e =
        let l : n ≤ length xs = leb-true n (length xs) e in
        ap (λ (k : ℕ). take k xs) {x = min n (length xs)} {y = n} (omega arith)
    go false e =
        let l : length xs ≤ n = omega (arith, leb-false n (length xs) e) in
        take_all (min n (length xs)) xs (omega arith) ∙ sym (take_all n xs l)

-- the first part, by its count
pub part_of_lem : (n : ℕ) {k : ℕ} (xs : List ℕ) → k ≡ min n (length xs) → take k xs ≡ take n xs
part_of_lem n {k} xs e = ap (λ (j : ℕ). take j xs) e ∙ take_min n xs

-- ---- a step

-- what a step left, lent at the lengths of its order
pub seen_lent : (o : Order) (bytes script block array : List ℕ) (j l u : ℕ) → Lends o (length array) (length bytes) j l u
    → seen_by (op_of o bytes script (junk_of (seed_of o) j) (blank l) (blank u)) block array ≡ seen_on o bytes script block array
unfolding seen_on seen_with
seen_lent o bytes script block array j l u h =
    λ i. seen_by (op_of o bytes script (junk_of (seed_of o) (h.0 i)) (blank (h.1 i)) (blank (h.2 i))) block array

-- a step that left y, which is z, and printed what it shows
pub ran : (o : Order) (s : Session) {y : Seen} {t : Totals} {r : Session} {text block array log out text' : List ℕ} {p : Output} (z : Seen) → Took y t block array log out → y ≡ z
    → Printed (shown_by (is_call o.command) log t.frames t.polls t.answer) s.output text p text'
    → r ≡ after_step s (length array) (length log) (length out) t.given p → Ran z (shown_of o.command z) s text r block array log out text'
ran o s {y} {t} {r} {text} {block} {array} {log} {out} {text'} {p} z k e q h =
    let w : r.output ≡ p = ap (λ (x : Session). x.output) h in
    record {
      block = k.block ∙ ap (λ (x : Seen). x.block) e;
      array = k.array ∙ ap (λ (x : Seen). x.array) e;
      log = k.log ∙ ap (λ (x : Seen). x.log) e;
      out = k.out ∙ ap (λ (x : Seen). x.out) e;
      kept = h ∙ (λ i. after_step s (length array) (length log) (length out) ((k.given ∙ ap (λ (x : Seen). x.given) e) i) (sym w i));
      shows =
          subst (λ (x : Output). Printed (shown_of o.command z) s.output text x text') (sym w)
          (printed_as q
          ((λ i. shown_by (is_call o.command) (k.log i) (k.frames i) (k.polls i) (k.answer i)) ∙ ap (shown_of o.command) e));
    }

-- the lengths are those of the order
pub lends_all : (o : Order) (count : ℕ) {L : Lengths} {n size j l u : ℕ} → L ≡ lengths_of o n count → n ≡ size → j ≡ L.junk → l ≡ L.log → u ≡ L.out
    → Lends o size count j l u
lends_all o count {L} {n} {size} {j} {l} {u} e f a b c =
    let k : L ≡ lengths_of o size count = e ∙ ap (λ (m : ℕ). lengths_of o m count) f in
    (a ∙ ap (λ (x : Lengths). x.junk) k, b ∙ ap (λ (x : Lengths). x.log) k, c ∙ ap (λ (x : Lengths). x.out) k)

-- what was lent of longer buffers; y is another name of z
pub lent : (c : Command) {y : Seen} (z : Seen) {s r : Session} {text block ys gs us text' : List ℕ} (d : Desk) (ps qs ws : List ℕ) → d.lines ≡ s.lines → y ≡ z
    → Ran y (shown_of c y) s text r block ys gs us text'
    → Obeyed (stepped z d) (shown_of c z) s text r block (ys ++ ps) (gs ++ qs) (us ++ ws) text'
lent c {y} z {s} {r} {text} {block} {ys} {gs} {us} {text'} d ps qs ws e f q =
    go (subst (λ (x : Seen). Ran x (shown_of c x) s text r block ys gs us text') f q)
  where
    go : Ran z (shown_of c z) s text r block ys gs us text' → Obeyed (stepped z d) (shown_of c z) s text r block (ys ++ ps) (gs ++ qs) (us ++ ws) text'
    go k =
        record {
          desk = λ i. record {
            block = k.block i;
            array = (ap (λ (x : Session). take x.size (ys ++ ps)) k.kept ∙ take_at ys ps (length ys) refl ∙ k.array) i;
            log = (ap (λ (x : Session). take x.log (gs ++ qs)) k.kept ∙ take_at gs qs (length gs) refl ∙ k.log) i;
            out = (ap (λ (x : Session). take x.out (us ++ ws)) k.kept ∙ take_at us ws (length us) refl ∙ k.out) i;
            given = ap (λ (x : Session). x.given) k.kept i;
            lines = (ap (λ (x : Session). x.lines) k.kept ∙ sym e) i;
          };
          shows = k.shows;
        }

-- ---- a fresh part

-- by the array's length alone
fresh_alike : (factory xs ys : List ℕ) {g : Geometry} → length xs ≡ length ys → part_of (length ys) ≡ Some g → fresh_outcome factory xs ≡ fresh_outcome factory ys
unfolding fresh_outcome fresh_by
fresh_alike factory xs ys {g} e h =
    ap (λ (p : Option Geometry). fresh_by p factory xs) (ap part_of e ∙ h) ∙ (λ i. left Answers.Done (fresh_state factory (replicate (e i) 255)) [])
    ∙ sym (ap (λ (p : Option Geometry). fresh_by p factory ys) h)

-- a part's array is known
known : (n : ℕ) → Whole n → (A : Type 0) → ((g : Geometry) → part_of n ≡ Some g → A) → A
unfolding parts part_among part_of
known n (inl e) A f = f _ (ap part_of e)
known n (inr (inl e)) A f = f _ (ap part_of e)
known n (inr (inr (inl e))) A f = f _ (ap part_of e)
known n (inr (inr (inr (inl e)))) A f = f _ (ap part_of e)
known n (inr (inr (inr (inr x)))) A f = absurd x

pub fresh_part_lem : (n : ℕ) (xs : List ℕ) → length xs ≡ n → Whole n → fresh_outcome (replicate 64 0) xs ≡ fresh_part n
unfolding fresh_part
fresh_part_lem n xs e w =
    known n w (fresh_outcome (replicate 64 0) xs ≡ fresh_outcome (replicate 64 0) (replicate n 0))
    (λ g h. fresh_alike (replicate 64 0) xs (replicate n 0) (e ∙ sym (length-replicate n 0)) (ap part_of (length-replicate n 0) ∙ h))

-- the block holds it
stored-done : (held : List ℕ) (st : State) → stored_in held (left Answers.Done st []) ≡ encode_chip (chip_in st)
unfolding stored_by number_of
stored-done held st = refl

fresh_done : (n : ℕ) {g : Geometry} → part_of n ≡ Some g → fresh_part n ≡ left Answers.Done (fresh_state (replicate 64 0) (replicate n 255)) []
unfolding fresh_part fresh_outcome fresh_by
fresh_done n {g} h =
    ap (λ (p : Option Geometry). fresh_by p (replicate 64 0) (replicate n 0)) (ap part_of (length-replicate n 0) ∙ h)
    ∙ (λ i. left Answers.Done (fresh_state (replicate 64 0) (replicate (length-replicate {A = ℕ} n 0 i) 255)) [])

pub fresh_stored : (n : ℕ) (held : List ℕ) → Whole n → stored_in held (fresh_part n) ≡ encode_chip (chip_in (fresh_part n).state)
fresh_stored n held w =
    known n w (stored_in held (fresh_part n) ≡ encode_chip (chip_in (fresh_part n).state))
    (λ g h. ap (stored_in held) (fresh_done n h) ∙ stored-done held (fresh_state (replicate 64 0) (replicate n 255))
    ∙ sym (ap (λ (z : Left). encode_chip (chip_in z.state)) (fresh_done n h)))

-- ---- the other orders

-- the sum of the first parts
pub sum_parts : (s : Session) {n l u : ℕ} (block array log out : List ℕ) → n ≡ min s.size (length array) → l ≡ min s.log (length log) → u ≡ min s.out (length out)
    → sum_line block (take n array) (take l log) (take u out) s.given ≡ summed (desk_of s block array log out)
unfolding summed
sum_parts s block array log out e f g = λ i. sum_line block (part_of_lem s.size array e i) (part_of_lem s.log log f i) (part_of_lem s.out out g i) s.given

-- a session with another output has the same desk
pub same-desk : (s : Session) {r : Session} (block array log out : List ℕ) → r ≡ with_output s r.output → desk_of r block array log out ≡ desk_of s block array log out
same-desk s {r} block array log out e = ap (λ (x : Session). desk_of x block array log out) e

pub obeyed_as : {d d' : Desk} {l l' : List ℕ} {s r : Session} {text block array log out text' : List ℕ} → Obeyed d l s text r block array log out text' → d ≡ d' → l ≡ l'
    → Obeyed d' l' s text r block array log out text'
obeyed_as k e f = record { desk = k.desk ∙ e; shows = printed_as k.shows f }

-- ---- an order, by its kind

pub step-obeyed : (o : Order) (line : List ℕ) (d : Desk) → is_step o.command ≡ true → stepped (seen_in o line d) d ≡ obeyed o line d
unfolding obeyed
step-obeyed o line d e = sym (ap (λ (b : Bool). cond b (stepped (seen_in o line d) d) (cond (is_sum o.command) d (renewed o.number d))) e)

pub step-shown : (o : Order) (line : List ℕ) (d : Desk) → is_step o.command ≡ true → shown_of o.command (seen_in o line d) ≡ shown o line d
unfolding shown
step-shown o line d e = sym (ap (λ (b : Bool). cond b (shown_of o.command (seen_in o line d)) (cond (is_sum o.command) (summed d) [])) e)

-- neither a step nor (b) a sum
other_obeyed : (o : Order) (line : List ℕ) (d : Desk) (b : Bool) → is_step o.command ≡ false → is_sum o.command ≡ b
    → cond b d (renewed o.number d) ≡ obeyed o line d
unfolding obeyed
other_obeyed o line d b e f = sym (λ i. cond (e i) (stepped (seen_in o line d) d) (cond (f i) d (renewed o.number d)))

other_shown : (o : Order) (line : List ℕ) (d : Desk) (b : Bool) → is_step o.command ≡ false → is_sum o.command ≡ b → cond b (summed d) [] ≡ shown o line d
unfolding shown
other_shown o line d b e f = sym (λ i. cond (e i) (shown_of o.command (seen_in o line d)) (cond (f i) (summed d) []))

pub sum_done : (o : Order) (line : List ℕ) (s : Session) {r : Session} {text block array log out text' : List ℕ} → is_step o.command ≡ false → is_sum o.command ≡ true
    → r ≡ with_output s r.output → Printed (summed (desk_of s block array log out)) s.output text r.output text'
    → Obeyed (obeyed o line (desk_of s block array log out)) (shown o line (desk_of s block array log out)) s text r block array log out text'
sum_done o line s {r} {text} {block} {array} {log} {out} {text'} e f k p =
    record {
      desk = same-desk s block array log out k ∙ other_obeyed o line (desk_of s block array log out) true e f;
      shows = printed_as p (other_shown o line (desk_of s block array log out) true e f);
    }

pub part-done : (o : Order) (line : List ℕ) (s : Session) {r : Session} (d : Desk) {text block array log out : List ℕ} → is_step o.command ≡ false → is_sum o.command ≡ false
    → desk_of r block array log out ≡ renewed o.number d → r.output ≡ s.output → Obeyed (obeyed o line d) (shown o line d) s text r block array log out text
part-done o line s {r} d {text} {block} {array} {log} {out} e f k h =
    record {
      desk = k ∙ other_obeyed o line d false e f;
      shows = printed_as (subst (λ (x : Output). Printed [] s.output text x text) (sym h) (printed_none s.output text)) (other_shown o line d false e f);
    }

-- ---- a line

-- an order, on the desk with a line more
pub order_done : {o : Order} (line : List ℕ) {d : Desk} (e : Desk) (s t : Session) {r : Session} {text block array log out text' : List ℕ} → Ok o ≡ read_of line → d ≡ counted e
    → t.output ≡ s.output → Obeyed (obeyed o line d) (shown o line d) t text r block array log out text'
    → Obeyed (after_line line e) (line_text line e) s text r block array log out text'
unfolding after_line line_text
order_done {o} line {d} e s t {r} {text} {block} {array} {log} {out} {text'} h k w q =
    record {
      desk = q.desk ∙ (λ i. after_reading (h i) line (k i));
      shows = subst (λ (x : Output). Printed (line_text line e) x text r.output text') w (printed_as q.shows (λ i. reading_text (h i) line (k i)));
    }

-- a fault
pub fault_done : {f : Fault} (line : List ℕ) (e : Desk) (s t : Session) {r : Session} {text block array log out text' : List ℕ} → Err f ≡ read_of line
    → desk_of t block array log out ≡ counted e → t.output ≡ s.output → r ≡ with_output t r.output
    → Printed (fault_text t.lines (text_of f)) t.output text r.output text'
    → Obeyed (after_line line e) (line_text line e) s text r block array log out text'
unfolding after_line line_text
fault_done {f} line e s t {r} {text} {block} {array} {log} {out} {text'} h k w z q =
    record {
      desk = same-desk t block array log out z ∙ (λ i. after_reading (h i) line (k i));
      shows = subst (λ (x : Output). Printed (line_text line e) x text r.output text') w (printed_as q (λ i. reading_text (h i) line (k i)));
    }

-- the first line of a run
pub starts : (d : Desk) → d.lines ≡ 0 → renewed first_length d ≡ begun
unfolding renewed begun
starts d e =
    λ i. record {
      block = encode_chip (chip_in (fresh_part first_length).state);
      array = (fresh_part first_length).state.memory.array;
      log = [];
      out = [];
      given = 0;
      lines = e i;
    }

-- a line more
pub line-counted : (s : Session) (n : ℕ) → n ≡ min (s.lines + 1) 0xFFFF_FFFF_FFFF_FFFF → (block array log out : List ℕ)
    → desk_of (record { size = s.size; log = s.log; out = s.out; given = s.given; lines = n; output = s.output }) block array log out ≡ counted (desk_of s block array log out)
unfolding counted
line-counted s n e block array log out =
    λ i. record { block = block; array = take s.size array; log = take s.log log; out = take s.out out; given = s.given; lines = e i }

-- what is neither a step nor a sum is a part
pub part-whole : (c : Command) (n : ℕ) → is_step c ≡ false → is_sum c ≡ false → Ranged (first_of c) n → Whole n
part-whole Command.Put n e f h = absurd (true≢false e)
part-whole Command.Patch n e f h = absurd (true≢false e)
part-whole Command.Get n e f h = absurd (true≢false e)
part-whole Command.Wipe n e f h = absurd (true≢false e)
part-whole Command.Raw n e f h = absurd (true≢false e)
part-whole Command.Send n e f h = absurd (true≢false e)
part-whole Command.End n e f h = absurd (true≢false e)
part-whole Command.Pin n e f h = absurd (true≢false e)
part-whole Command.Cut n e f h = absurd (true≢false e)
part-whole Command.Part n e f h = h
part-whole Command.Sum n e f h = absurd (true≢false f)

-- there is room for it
pub whole_room : (n : ℕ) → Whole n → n ≤ array_room
whole_room n (inl e) = omega arith
whole_room n (inr (inl e)) = omega arith
whole_room n (inr (inr (inl e))) = omega arith
whole_room n (inr (inr (inr (inl e)))) = omega arith
whole_room n (inr (inr (inr (inr x)))) = absurd x

-- the array begins with the part
pub part-renewed : (s : Session) {r : Session} (n : ℕ) {block : List ℕ} (d : Desk) (xs log out : List ℕ) → d.lines ≡ s.lines
    → block ≡ encode_chip (chip_in (fresh_part n).state) → take n xs ≡ (fresh_part n).state.memory.array → r ≡ after_step s n 0 0 0 s.output
    → desk_of r block xs log out ≡ renewed n d
unfolding renewed
part-renewed s {r} n {block} d xs log out f a b k =
    ap (λ (x : Session). desk_of x block xs log out) k
    ∙ (λ i. record {
      block = a i;
      array = b i;
      log = [];
      out = [];
      given = 0;
      lines = sym f i;
    })

-- a message, laid over the start of a buffer
pub message_stands : {r : ℕ} {l ys : List ℕ} (xs : List ℕ) → Put 0 l xs ys r → Stands 0 l r xs ys
message_stands {r} {l} {ys} xs p = record { end = p.end; long = ap length p.laid ∙ length-splice 0 l xs; text = p.laid }

-- what the words of the line make
pub words_seen : (o : Order) (line : List ℕ) (d : Desk) {bs ss : List ℕ} → bs ≡ bytes_of (Words.part_of line o.bytes) → ss ≡ bytes_of (Words.part_of line o.script)
    → seen_on o bs ss d.block d.array ≡ seen_in o line d
unfolding seen_in
words_seen o line d e f = λ i. seen_on o (e i) (f i) d.block d.array

pub obeyed_seen : (c : Command) {y : Seen} (z : Seen) (d : Desk) {s r : Session} {text block array log out text' : List ℕ} → y ≡ z
    → Obeyed (stepped y d) (shown_of c y) s text r block array log out text' → Obeyed (stepped z d) (shown_of c z) s text r block array log out text'
obeyed_seen c {y} z d {s} {r} {text} {block} {array} {log} {out} {text'} e q =
    subst (λ (x : Seen). Obeyed (stepped x d) (shown_of c x) s text r block array log out text') e q

-- a text printed, and the output kept in the session
pub output_kept : (s : Session) {r : Session} {p : Output} {l text text' : List ℕ} → r ≡ with_output s p → Printed l s.output text p text'
    → (r ≡ with_output s r.output) × Printed l s.output text r.output text'
output_kept s {r} {p} {l} {text} {text'} e q =
    let w : r.output ≡ p = ap (λ (x : Session). x.output) e in
    (e ∙ ap (with_output s) (sym w), subst (λ (x : Output). Printed l s.output text x text') (sym w) q)
