-- What a step leaves is what the call or event that it makes promises: each equation of `Took` is a field of that promise. An event logs nothing
-- and counts nothing, and what a command does not lend has no bytes.
-- Assumes nothing.
use mathlib.Core.Path.{◌≡◌, refl, sym, ap, subst, ◌∙◌}
use mathlib.Core.Bool.{Bool, true}
use lib.Dec.{T}
use mathlib.Core.List.{List, [], ◌∷◌}
use Prim.Native.Nat.{ℕ}
use lib.ListN.{length, get_or}
use Rattle.slices.specs.Lists.{over}
use Rattle.dates.specs.declared.Term.{Term}
use Rattle.state.specs.Answers.{number_of}
use Rattle.state.specs.Outcomes.{send_outcome, end_outcome, cut_outcome, pin_outcome, pinned_state}
use Rattle.blocks.specs.Promises.{held_in, Met, MetPin}
use Rattle.slots.specs.declared.Detail.{Detail}
use Rattle.slots.specs.Plans.{Asked}
use Rattle.slots.specs.Lists.{Op, call, raw, straight, pin, busy_end, cut, put, out_of, next_of, log_of}
use Rattle.runs.specs.Promises.{Called}
use Rattle.words.specs.declared.Command.{Command}
use Rattle.words.specs.declared.Command.TheVariants.{Put, Patch, Get, Wipe, Raw, Send, End, Pin, Cut, Part, Sum}
use Rattle.orders.specs.declared.Order.{Order}
use Rattle.acting.specs.declared.Totals.{Totals}
use Rattle.lengths.specs.Lengths.{call_lengths, lengths_by, Lends}
use Rattle.acting.specs.Steps.{is_step, blank, op_by, op_of, block_after, seen_on, seen_by, Took, told, Spares}

-- ---- a call

-- a put of a term that equals another
pub put_alike : (slot limit : ℕ) (t : Term) {u : Term} (script recipe junk log block array : List ℕ) {r : ℕ} {held xs l counts : List ℕ} → t ≡ u
    → Called (put slot limit u script recipe junk log) block array r held xs l counts []
    → Called (put slot limit t script recipe junk log) block array r held xs l counts []
put_alike slot limit t script recipe junk log block array {r} {held} {xs} {l} {counts} e x =
    subst (λ (k : Term). Called (put slot limit k script recipe junk log) block array r held xs l counts []) (sym e) x

module _ {block array : List ℕ} {r : ℕ} {held xs l u counts : List ℕ} where
  pub call_took : {v : List ℕ} {a : Asked} {d : Detail} {script payload junk log lent : List ℕ} → u ≡ v
      → Called (call a d script payload junk log lent) block array r held xs l counts v
      → Took (seen_by (call a d script payload junk log lent) block array) (told r counts) held xs l u
  unfolding seen_on block_after
  call_took e x =
      record {
        answer = x.answer;
        block = x.block;
        array = x.array;
        log = x.log;
        out = e ∙ x.lent;
        frames = ap (λ (k : List ℕ). get_or k 0 0) x.counts;
        polls = ap (λ (k : List ℕ). get_or k 1 0) x.counts;
        given = ap (λ (k : List ℕ). get_or k 2 0) x.counts;
      }

  pub raw_took : {frame script junk log reply : List ℕ} → Called (raw frame script junk log reply) block array r held xs l counts u
      → Took (seen_by (raw frame script junk log reply) block array) (told r counts) held xs l u
  unfolding seen_on block_after
  raw_took x =
      record {
        answer = x.answer;
        block = x.block;
        array = x.array;
        log = x.log;
        out = x.lent;
        frames = ap (λ (k : List ℕ). get_or k 0 0) x.counts;
        polls = ap (λ (k : List ℕ). get_or k 1 0) x.counts;
        given = ap (λ (k : List ℕ). get_or k 2 0) x.counts;
      }

-- ---- an event
module _ (block array : List ℕ) {r : ℕ} {held l u counts : List ℕ} (n : counts ≡ 0 ∷ 0 ∷ 0 ∷ []) (e : l ≡ []) where
  pub send_took : (frame reply : List ℕ) {xs : List ℕ} → Met block (send_outcome (held_in block array) frame reply) r held xs u
      → Took (seen_by (straight frame reply) block array) (told r counts) held xs l u
  unfolding seen_on block_after out_of next_of log_of over
  send_took frame reply x =
      record {
        answer = x.answer;
        block = x.block;
        array = x.array;
        log = e;
        out = x.reply;
        frames = ap (λ (k : List ℕ). get_or k 0 0) n;
        polls = ap (λ (k : List ℕ). get_or k 1 0) n;
        given = ap (λ (k : List ℕ). get_or k 2 0) n;
      }

  pub end_took : {xs : List ℕ} → u ≡ [] → Met block (end_outcome (held_in block array)) r held xs [] → Took (seen_by busy_end block array) (told r counts) held xs l u
  unfolding seen_on block_after out_of next_of log_of over
  end_took f x =
      record {
        answer = x.answer;
        block = x.block;
        array = x.array;
        log = e;
        out = f ∙ x.reply;
        frames = ap (λ (k : List ℕ). get_or k 0 0) n;
        polls = ap (λ (k : List ℕ). get_or k 1 0) n;
        given = ap (λ (k : List ℕ). get_or k 2 0) n;
      }

  pub cut_took : (junk : List ℕ) {xs : List ℕ} → u ≡ [] → Met block (cut_outcome junk (held_in block array)) r held xs []
      → Took (seen_by (cut junk) block array) (told r counts) held xs l u
  unfolding seen_on block_after out_of next_of log_of over
  cut_took junk f x =
      record {
        answer = x.answer;
        block = x.block;
        array = x.array;
        log = e;
        out = f ∙ x.reply;
        frames = ap (λ (k : List ℕ). get_or k 0 0) n;
        polls = ap (λ (k : List ℕ). get_or k 1 0) n;
        given = ap (λ (k : List ℕ). get_or k 2 0) n;
      }

  pub pin_took : {high : Bool} → u ≡ [] → MetPin block high r held → Took (seen_by (pin high) block array) (told r counts) held array l u
  unfolding seen_on block_after out_of next_of log_of over number_of pin_outcome pinned_state
  pin_took f x =
      record {
        answer = x.answer;
        block = x.block;
        array = refl;
        log = e;
        out = f;
        frames = ap (λ (k : List ℕ). get_or k 0 0) n;
        polls = ap (λ (k : List ℕ). get_or k 1 0) n;
        given = ap (λ (k : List ℕ). get_or k 2 0) n;
      }

-- ---- by the command
module _ (o : Order) (bytes script junk log out block array : List ℕ) {c : Command} {r : Totals} {held xs l u : List ℕ} where
  pub by_command : (d : Command) → c ≡ d → Spares c log out → (Spares d log out → Took (seen_by (op_by d o bytes script junk log out) block array) r held xs l u)
      → Took (seen_by (op_by c o bytes script junk log out) block array) r held xs l u
  by_command d e s f =
      subst (λ (k : Command). Took (seen_by (op_by k o bytes script junk log out) block array) r held xs l u) (sym e)
      (f (subst (λ (k : Command). Spares k log out) e s))

-- ---- what is made ready

spares-none : (c : Command) (o : Order) (size count : ℕ) {log out : ℕ} → is_step c ≡ true → log ≡ (lengths_by c o size count).log
    → out ≡ (lengths_by c o size count).out → Spares c (blank log) (blank out)
unfolding lengths_by call_lengths
spares-none Put o size count s e f = ap blank f
spares-none Patch o size count s e f = ap blank f
spares-none Get o size count s e f = tt
spares-none Wipe o size count s e f = ap blank f
spares-none Raw o size count s e f = tt
spares-none Send o size count s e f = ap blank e
spares-none End o size count s e f = (ap blank e, ap blank f)
spares-none Pin o size count s e f = (ap blank e, ap blank f)
spares-none Cut o size count s e f = (ap blank e, ap blank f)
spares-none Part o size count s e f = subst T (sym s) tt
spares-none Sum o size count s e f = subst T (sym s) tt

-- a buffer that is not lent has no bytes
pub spares-ready : (o : Order) (size count : ℕ) {junk : ℕ} (log out : List ℕ) {l u : List ℕ} → is_step o.command ≡ true
    → Lends o size count junk (length log) (length out) → l ≡ blank (length log) → u ≡ blank (length out) → Spares o.command l u
spares-ready o size count log out {l} {u} s h e f =
    subst (λ (k : List ℕ). Spares o.command k u) (sym e)
    (subst (λ (k : List ℕ). Spares o.command (blank (length log)) k) (sym f) (spares-none o.command o size count s h.1 h.2))

-- what a step does goes by the bytes that it is given
pub took_on_lem : (o : Order) (bytes script block array : List ℕ) {junk log out : List ℕ} (junk' log' out' : List ℕ) {r : Totals} {held xs l u : List ℕ}
    → junk ≡ junk' → log ≡ log' → out ≡ out'
    → Took (seen_by (op_of o bytes script junk log out) block array) r held xs l u
    → Took (seen_by (op_of o bytes script junk' log' out') block array) r held xs l u
took_on_lem o bytes script block array {junk} {log} {out} junk' log' out' {r} {held} {xs} {l} {u} e f g x =
    subst (λ (k : List ℕ). Took (seen_by (op_of o bytes script k log' out') block array) r held xs l u) e
    (subst (λ (k : List ℕ). Took (seen_by (op_of o bytes script junk k out') block array) r held xs l u) f
    (subst (λ (k : List ℕ). Took (seen_by (op_of o bytes script junk log k) block array) r held xs l u) g x))
