-- Laws of the run. Pieces read one after another are the input; what is due for it has been written, since at the end nothing waits.
-- Assumes nothing.
use mathlib.Core.Path.{◌≡◌, refl, sym, ap, subst, ◌∙◌}
use mathlib.Core.List.{List, [], ◌++◌, append-nil}
use mathlib.Core.Bool.{Bool, true, false}
use Prim.Native.Nat.{ℕ, ◌+◌}
use native.Mathlib.Omega.{arith}
use lib.ListN.{length, take, length-append}
use lib.Seq.{length-take-le}
use Rattle.printing.specs.declared.Output.{Output}
use Rattle.printing.specs.Held.{Held, Flushed}
use Rattle.obeying.specs.declared.Session.{Session}
use Rattle.obeying.specs.declared.Room.{Room}
use Rattle.obeying.specs.Desk.{desk_of, begun}
use Rattle.inputs.specs.declared.Reader.{Reader}
use Rattle.inputs.specs.Output.{started, fed_all, closed, due_for}
use Rattle.inputs.specs.Places.{Place, place, place_in, At, Reads, Finishes, Closes}
use Rattle.inputs.proofs.Laws.{kept-none, reads_none, reads_more}
use Rattle.outline.specs.declared.Ended.{Ended}
use Rattle.outline.specs.declared.Input.{Input}
use Rattle.outline.specs.declared.State.{State}
use Rattle.outline.specs.Run.{Went, Said}

pub went_none : (n : ℕ) (x : Place) → Went n x n x
went_none n x = record { input = []; counted = omega arith; reads = reads_none }

-- nothing more is read
pub went_stopped : (i : Input) {j : Input} (s : State) (r : Room) (text line : List ℕ) → j ≡ record { reader = i.reader; read = i.read; state = s }
    → Went i.read (place_in i.reader r text line) j.read (place_in j.reader r text line)
went_stopped i s r text line e = subst (λ (j : Input). Went i.read (place_in i.reader r text line) j.read (place_in j.reader r text line)) (sym e) (went_none _ _)

-- a piece is read, and what waits is written
pub went_by : {n k m : ℕ} {x y z : Place} (xs : List ℕ) → length xs ≡ k → m ≡ n + k → Reads xs x y → Reads [] y z → Went n x m z
went_by xs e h f g =
    record {
      input = xs ++ [];
      counted = omega (arith, e, h, length-append xs []);
      reads = reads_more xs [] f g;
    }

pub went_more : {l m n : ℕ} {x y z : Place} → Went l x m y → Went m y n z → Went l x n z
went_more a b =
    record {
      input = a.input ++ b.input;
      counted = omega (arith, a.counted, b.counted, length-append a.input b.input);
      reads = reads_more a.input b.input a.reads b.reads;
    }

-- the end of the input
pub closes_unread : (b : Bool) {x : Place} → b ≡ true → Closes b x x
unfolding closed
closes_unread b {x} e p a = subst (λ (c : Bool). At (closed c p) x) (sym e) a

pub closes_read : (b : Bool) {x y : Place} → b ≡ false → Finishes x y → Closes b x y
unfolding closed
closes_read b {x} {y} e f p a = subst (λ (c : Bool). At (closed c p) y) (sym e) (f p a)

-- the program starts with nothing read
pub starts : {r : Reader} {block array log out : List ℕ} {s : Session} (text line : List ℕ) → desk_of s block array log out ≡ begun
    → s.output ≡ record { waiting = 0; written = 0; failed = false } → r ≡ record { session = s; filled = 0 } → At started (place r block array log out text line)
unfolding started
starts {r} {block} {array} {log} {out} {s} text line e f k =
    subst (λ (z : Reader). At started (place z block array log out text line)) (sym k)
    (record {
      desk = e;
      held =
          subst (λ (o : Output). Held [] o text) (sym f)
          (record { fits = omega arith; begun = omega arith; whole = λ _. refl });
      kept = kept-none line;
    })

-- nothing waits, so all has been written
all-written : {due xs : List ℕ} {o : Output} → Held due o xs → o.failed ≡ false → o.waiting ≡ 0 → o.written ≡ length due
all-written {due} {xs} {o} h f w =
    sym (length-take-le o.written due h.begun)
    ∙ ap length (sym (append-nil (take o.written due)) ∙ ap (λ (n : ℕ). take o.written due ++ take n xs) (sym w) ∙ h.whole f)

pub said : {x y z : Place} {n : ℕ} {b : Bool} {o : Output} {e : Ended} → At started x → Went 0 x n y → Closes b y z
    → Flushed z.reader.session.output z.text o → e ≡ record { unread = b; unwritten = o.failed; read = n; written = o.written } → Said e
unfolding due_for
said {x} {y} {z} {n} {b} {o} {e} a w c f k =
    subst Said (sym k)
    (record {
      input = w.input;
      counted = omega (arith, w.counted);
      begun = last.begun;
      all = λ u. all-written last u (f.all u);
    })
  where
    last : Held (due_for b w.input) o z.text
    last = f.held (due_for b w.input) (c (fed_all w.input started) (w.reads started a)).held
