-- THE THREE DEMANDS OVER WHAT IS COMPILED: lists of calls of the C functions, each as its promise says. What a caller has after each is the outcome of its
-- definition, and the state is the one that block and array hold; so the theorems of crate slots say it of the C functions.
-- Assumes nothing.
use Prim.Native.Nat.{ℕ, ◌≤◌}
use native.Mathlib.Omega.{arith}
use mathlib.Core.Path.{◌≡◌, refl, sym, ap, subst, ◌∙◌}
use mathlib.Core.Bool.{Bool, true, false, ◌&&◌, ◌||◌, or-true}
use mathlib.Core.List.{List, [], ◌∷◌}
use mathlib.Core.Logic.{◌⊎◌, inl, inr}
use lib.ListN.{length, take}
use lib.Dec.{eqb, leb}
use borrow.Author.Tests.{le-leb, eq-eqb, ne_eqb}
use Rattle.slices.specs.Lists.{over}
use Rattle.slices.proofs.Laws.{over_nil}
use Rattle.dates.specs.declared.Date.{Date}
use Rattle.dates.specs.declared.Term.{Term}
use Rattle.dates.specs.Calendar.{day_of}
use Rattle.state.specs.declared.Answer.{Answer}
use Rattle.state.specs.declared.Answer.TheVariants as Answers
use Rattle.state.specs.Answers.{number_of}
use Rattle.state.specs.Memory.{State, chip_in}
use Rattle.state.specs.Outcomes.{Left, pin_outcome}
use Rattle.blocks.specs.Block.{encode_chip}
use Rattle.blocks.specs.Promises.{held_in, stored_by, Met}
use Rattle.blocks.proofs.Decoded.{whole_decode}
use Rattle.slots.specs.Calls.{Out}
use Rattle.slots.specs.Details.{period_of}
use Rattle.slots.specs.Records.{is_within}
use Rattle.slots.specs.Lists.{Op, call, raw, straight, pin, busy_end, cut, put, get, out_of, next_of, run_list, left_by, bound_of, is_refusal, log_of, NoMiscompare}
use Rattle.slots.specs.Alike.{Twins, AlikeLists, Soft, FromData, Same, AllSame}
use Rattle.slots.specs.Quiet.{QuietIn, Refuses, Delivers, Returns}
use Rattle.slots.proofs.Places.{never}
use Rattle.slots.proofs.Accepted.{picked}
use Rattle.slots.proofs.Driven.{other}
use Rattle.slots.proofs.Bound.{within-bound}
use Rattle.slots.proofs.Never.{never_miscompares}
use Rattle.slots.proofs.TwoRuns.{two_runs}
use Rattle.slots.proofs.Refused.{in_table, refusals}
use Rattle.slots.proofs.ReadBack.{read_back}
use Rattle.driver_blocks.specs.Block.{answer_at}
use Rattle.driver_blocks.proofs.RoundTrip.{answer_back}
use Rattle.runs.specs.Promises.{kept_in}
use Rattle.chains.specs.Chains.{Seen, Does, Chain, last_in, frames_in, polls_in, SoftNumber, SameSeen, AllSeen, NoneMiscompares, DataNumber, DeliversIn, ReturnsIn, RefusalNumber, Refused}
use Rattle.chains.proofs.Seen.{Shows, shows}

-- ---- demand 3

pub soft_number : (a : Answer) (n : ℕ) → n ≡ number_of a → Soft a → SoftNumber n
unfolding number_of
soft_number a n e (inl (inl h)) = inl (inl (e ∙ ap number_of h))
soft_number a n e (inl (inr h)) = inl (inr (e ∙ ap number_of h))
soft_number a n e (inr (inl h)) = inr (inl (e ∙ ap number_of h))
soft_number a n e (inr (inr h)) = inr (inr (e ∙ ap number_of h))

pub data_number : (a : Answer) (n : ℕ) → n ≡ number_of a → FromData a → DataNumber n
unfolding number_of
data_number a n e (inl h) = inl (soft_number a n e h)
data_number a n e (inr h) = inr (e ∙ ap number_of h)

same_seen : {x y : Out} {s t : State} {l k : List ℕ} {z w : Seen} → Shows x s l z → Shows y t k w → Same x y → SameSeen z w
same_seen {x} {y} {s} {t} {l} {k} {z} {w} a b e =
    record {
      written = a.written ∙ e.lines ∙ sym b.written;
      frames = a.frames ∙ e.frames ∙ sym b.frames;
      polls = a.polls ∙ e.polls ∙ sym b.polls;
      answer = go e.answer;
    }
  where
    go : (x.answer ≡ y.answer) ⊎ (Soft x.answer × Soft y.answer) → (z.number ≡ w.number) ⊎ (SoftNumber z.number × SoftNumber w.number)
    go (inl h) = inl (a.number ∙ ap number_of h ∙ sym b.number)
    go (inr h) = inr (soft_number x.answer z.number a.number h.0, soft_number y.answer w.number b.number h.1)

all_seen : (os us : List Op) (held xs kept ys : List ℕ) (zs ws : List Seen) → Chain held xs os zs → Chain kept ys us ws
    → AllSame (run_list os (held_in held xs)) (run_list us (held_in kept ys)) → AllSeen zs ws
unfolding run_list
all_seen [] [] held xs kept ys [] [] c d e = tt
all_seen [] [] held xs kept ys [] (w ∷ ws) c d e = d
all_seen [] [] held xs kept ys (z ∷ zs) ws c d e = absurd c
all_seen [] (u ∷ us) held xs kept ys zs ws c d e = absurd e
all_seen (o ∷ os) [] held xs kept ys zs ws c d e = absurd e
all_seen (o ∷ os) (u ∷ us) held xs kept ys [] ws c d e = absurd c
all_seen (o ∷ os) (u ∷ us) held xs kept ys (z ∷ zs) [] c d e = absurd d
all_seen (o ∷ os) (u ∷ us) held xs kept ys (z ∷ zs) (w ∷ ws) c d e =
    let a = shows o held xs z c.0 in
    let b = shows u kept ys w d.0 in (
      same_seen a b e.0,
      all_seen os us z.block z.array w.block w.array zs ws c.1 d.1
          (subst (λ (s : State). AllSame (run_list os s) (run_list us (held_in w.block w.array))) (sym a.holds)
          (subst (λ (t : State). AllSame (run_list os (next_of o (held_in held xs))) (run_list us t)) (sym b.holds) e.1)),
    )

-- TWO RUNS: two blocks that read as chips alike in registers, arrays of one length, arguments alike: then the written part of each log, frames, polls and
-- answers agree
pub two_runs_called : (os us : List Op) (held xs kept ys : List ℕ) (zs ws : List Seen) → length held ≡ 765 → length kept ≡ 765 → Chain held xs os zs → Chain kept ys us ws
    → Twins (held_in held xs) (held_in kept ys) → AlikeLists os us (held_in held xs) (held_in kept ys) → AllSeen zs ws
two_runs_called os us held xs kept ys zs ws l m c d t a =
    all_seen os us held xs kept ys zs ws c d (two_runs os us (held_in held xs) (held_in kept ys) (whole_decode held l) (whole_decode kept m) t a)

-- ---- 16

miscompare_is : (a : Answer) → number_of a ≡ 16 → a ≡ Answers.Miscompare
unfolding answer_at
miscompare_is a e = sym (answer_back a) ∙ ap answer_at e

none_seen : (os : List Op) (held xs : List ℕ) (zs : List Seen) → Chain held xs os zs → NoMiscompare (run_list os (held_in held xs)) → NoneMiscompares zs
unfolding run_list
none_seen [] held xs [] c n = tt
none_seen [] held xs (z ∷ zs) c n = absurd c
none_seen (o ∷ os) held xs [] c n = absurd c
none_seen (o ∷ os) held xs (z ∷ zs) c n =
    let a = shows o held xs z c.0 in (
      (λ e. n.0 (miscompare_is (out_of o (held_in held xs)).answer (sym a.number ∙ e))),
      none_seen os z.block z.array zs c.1 (subst (λ (s : State). NoMiscompare (run_list os s)) (sym a.holds) n.1),
    )

-- NEVER 16: no call of a list of C functions on a chip that is held answers it
pub never_called : (os : List Op) (held xs : List ℕ) (zs : List Seen) → length held ≡ 765 → Chain held xs os zs → NoneMiscompares zs
never_called os held xs zs l c = none_seen os held xs zs c (never_miscompares os (held_in held xs) (whole_decode held l))

-- ---- demand 2

-- the state after a list
left-held : (os : List Op) (z : Seen) (zs : List Seen) → Chain z.block z.array os zs
    → held_in (last_in z zs).block (last_in z zs).array ≡ left_by os (held_in z.block z.array)
unfolding left_by last_in
left-held [] z [] c = refl
left-held [] z (y ∷ ys) c = absurd c
left-held (o ∷ os) z [] c = absurd c
left-held (o ∷ os) z (y ∷ ys) c = left-held os y ys c.1 ∙ ap (left_by os) (shows o z.block z.array y c.0).holds

-- 0 is Done
zero-done : (a : Answer) → number_of a ≡ 0 → a ≡ Answers.Done
unfolding answer_at
zero-done a e = sym (answer_back a) ∙ ap answer_at e

refuses_number : {a : Answer} (n : ℕ) → n ≡ number_of a → Refuses a → (((1 ≤ n) × (n ≤ 9)) ⊎ (n ≡ 14)) ⊎ (n ≡ 11)
unfolding number_of
refuses_number n e Refuses.part = inl (inl (omega (arith, e), omega (arith, e)))
refuses_number n e Refuses.frame = inl (inl (omega (arith, e), omega (arith, e)))
refuses_number n e Refuses.slot = inl (inl (omega (arith, e), omega (arith, e)))
refuses_number n e Refuses.limit = inl (inl (omega (arith, e), omega (arith, e)))
refuses_number n e Refuses.size = inl (inl (omega (arith, e), omega (arith, e)))
refuses_number n e Refuses.log = inl (inl (omega (arith, e), omega (arith, e)))
refuses_number n e Refuses.script = inl (inl (omega (arith, e), omega (arith, e)))
refuses_number n e Refuses.device = inl (inl (omega (arith, e), omega (arith, e)))
refuses_number n e Refuses.busy = inl (inl (omega (arith, e), omega (arith, e)))
refuses_number n e Refuses.lost = inr e
refuses_number n e Refuses.dates = inl (inr e)

delivers_in : (b : Bool) (recipe buffer : List ℕ) {o : Out} {t : State} {log : List ℕ} (z : Seen) → Shows o t log z → Delivers b recipe buffer o
    → DeliversIn b recipe buffer z
unfolding number_of
delivers_in true recipe buffer z a h = (a.number ∙ ap number_of h.0, a.count ∙ h.1, (λ i. take (a.count i) (a.lent i)) ∙ h.2)
delivers_in false recipe buffer z a h = (a.number ∙ ap number_of h.0, a.count ∙ h.1, a.lent ∙ h.2)

returns_in : (term : Term) (today : Date) (recipe buffer : List ℕ) {o : Out} {t : State} {log : List ℕ} (z : Seen) → Shows o t log z
    → Returns (period_of term) (day_of today) recipe buffer o → ReturnsIn term today recipe buffer z
returns_in term today recipe buffer z a (inl h) = inl (refuses_number z.number a.number h)
returns_in term today recipe buffer z a (inr h) = inr (delivers_in (is_within (period_of term) (day_of today)) recipe buffer z a h)

-- READ BACK: a put, with a term or without, that answered 0, then any list of calls and events none of whose frames programs or erases in its slot, then a
-- get of it on any day
pub read_back_called : (slot limit : ℕ) (term : Term) (script recipe junk log held xs : List ℕ) (z : Seen) → length held ≡ 765
    → Does (put slot limit term script recipe junk log) held xs z → z.number ≡ 0
    → (os : List Op) (zs : List Seen) → Chain z.block z.array os zs → QuietIn slot os (held_in z.block z.array)
    → (limit' : ℕ) (today : Date) (script' junk' log' buffer : List ℕ) (y : Seen)
    → Does (get slot limit' today script' junk' log' buffer) (last_in z zs).block (last_in z zs).array y → ReturnsIn term today recipe buffer y
read_back_called slot limit term script recipe junk log held xs z l w n os zs c q limit' today script' junk' log' buffer y d =
    let s = held_in held xs in
    let p = put slot limit term script recipe junk log in
    let o = get slot limit' today script' junk' log' buffer in
    let a = shows p held xs z w in
    let e : (out_of p s).answer ≡ Answers.Done = zero-done (out_of p s).answer (sym a.number ∙ n) in
    let t : held_in (last_in z zs).block (last_in z zs).array ≡ left_by os (next_of p s) = left-held os z zs c ∙ ap (left_by os) a.holds in
    returns_in term today recipe buffer y (shows o (last_in z zs).block (last_in z zs).array y d)
    (subst (λ (u : State). Returns (period_of term) (day_of today) recipe buffer (out_of o u)) (sym t)
    (read_back slot limit term script recipe junk log s (whole_decode held l) e os (subst (QuietIn slot os) a.holds q) limit' today script' junk' log' buffer))

-- ---- demand 1

-- every answer is a number of the table, and no call sends more frames than its bound
pub in_table_called : (o : Op) (held xs : List ℕ) (z : Seen) → Does o held xs z → (z.number ≤ 16) × (frames_in z ≤ bound_of o) × (polls_in z ≤ frames_in z)
in_table_called o held xs z d =
    let a = shows o held xs z d in
    let w = within-bound o (held_in held xs) in
    (subst (λ (n : ℕ). n ≤ 16) (sym a.number) (in_table (out_of o (held_in held xs)).answer), omega (arith, a.frames, w.frames), omega (arith, a.frames, a.polls, w.polls))

refusal_is : (a : Answer) (n : ℕ) → n ≡ number_of a → RefusalNumber n → is_refusal a ≡ true
refusal_is a n e (inl h) = λ i. (le-leb 1 (number_of a) (omega (arith, h.0)) i && le-leb (number_of a) 7 (omega (arith, h.1)) i) || eqb (number_of a) 14
refusal_is a n e (inr h) =
    ap (λ (b : Bool). (leb 1 (number_of a) && leb (number_of a) 7) || b) (eq-eqb (number_of a) 14 (sym e ∙ h)) ∙ or-true (leb 1 (number_of a) && leb (number_of a) 7)

some_refusal : (a : Answer) → is_refusal a ≡ true → eqb (number_of a) 0 ≡ false
unfolding number_of
some_refusal a e = ne_eqb (number_of a) 0 (λ z. never (ap is_refusal (sym (zero-done a z)) ∙ e))

kept-met : {held : List ℕ} {o : Left} {r : ℕ} {kept xs ys : List ℕ} → Met held o r kept xs ys → is_refusal o.answer ≡ true → kept ≡ held
unfolding stored_by
kept-met {held} {o} w e = w.block ∙ other (eqb (number_of o.answer) 0) (encode_chip (chip_in o.state)) held (some_refusal o.answer e)

-- the block of a call or event that is refused
kept_called : (o : Op) (held xs : List ℕ) (z : Seen) → Does o held xs z → is_refusal (out_of o (held_in held xs)).answer ≡ true → z.block ≡ held
unfolding out_of kept_in pin_outcome number_of
kept_called (call a detail script payload junk log lent) held xs z d r = d.block ∙ picked (is_refusal (out_of (call a detail script payload junk log lent) (held_in held xs)).answer) held _ r
kept_called (raw frame script junk log reply) held xs z d r = d.block ∙ picked (is_refusal (out_of (raw frame script junk log reply) (held_in held xs)).answer) held _ r
kept_called (straight frame reply) held xs z d r = kept-met d.0 r
kept_called (pin high) held xs z d r = never r
kept_called busy_end held xs z d r = kept-met d.0 r
kept_called (cut junk) held xs z d r = kept-met d.0 r

-- REFUSALS: a C function that answers 1 to 7 or 14 leaves block, array, log and what was lent as they were, and counts 0
pub refusals_called : (o : Op) (held xs : List ℕ) (z : Seen) → Does o held xs z → RefusalNumber z.number → Refused o held xs z
refusals_called o held xs z d h =
    let s = held_in held xs in
    let a = shows o held xs z d in
    let r = refusal_is (out_of o s).answer z.number a.number h in
    let u = refusals o s r in
    record {
      block = kept_called o held xs z d r;
      array = ap (λ (t : State). t.memory.array) (a.holds ∙ u.next);
      log = a.log ∙ ap (λ (x : Out). over x.lines (log_of o)) u.out ∙ over_nil (log_of o);
      lent = a.lent ∙ ap (λ (x : Out). x.lent) u.out;
      frames = a.frames ∙ ap (λ (x : Out). x.frames) u.out;
      polls = a.polls ∙ ap (λ (x : Out). x.polls) u.out;
      count = a.count ∙ ap (λ (x : Out). x.count) u.out;
    }
