-- THE DRIVER IN FRONT OF ANY CHIP, over its C functions: a block carries every state of a call from one function to the next, so the chain of blocks is the
-- chain of states.
-- Assumes nothing.
use Rattle.std.specs.Prelude.{None, Option, Some}
use Prim.Native.Nat.{ℕ, zero, suc, ◌+◌, ◌^◌, ◌≤◌, ◌<◌}
use native.Mathlib.Omega.{arith}
use mathlib.Core.Path.{◌≡◌, refl, sym, ap, subst, ◌∙◌}
use mathlib.Core.Bool.{Bool, true, false, cond}
use mathlib.Core.List.{List, [], ◌∷◌, ◌++◌}
use mathlib.Core.Logic.{◌⊎◌, inl, inr}
use lib.ListN.{length, get_or}
use lib.Dec.{eqb}
use borrow.Author.Tests.{eq-eqb, ne_eqb}
use Rattle.slices.proofs.Laws.{length-tabulate}
use Rattle.geometry.specs.declared.Geometry.{Geometry}
use Rattle.geometry.specs.Parts.{part_of}
use Rattle.state.specs.declared.Answer.{Answer}
use Rattle.state.specs.declared.Answer.TheVariants as Answers
use Rattle.state.specs.Answers.{number_of}
use Rattle.slots.specs.declared.Detail.{Detail}
use Rattle.slots.specs.declared.Driver.{Driver}
use Rattle.slots.specs.declared.Verdict.{Verdict}
use Rattle.slots.specs.Plans.{Asked, bound, stated}
use Rattle.slots.specs.Refusals.{flaws_in}
use Rattle.slots.specs.Driver.{shape_of, frame_byte, loaded, is_ended, weighed, told_by}
use Rattle.slots.specs.Calls.{outline}
use Rattle.slots.specs.Alike.{FromData}
use Rattle.slots.specs.Exchanges.{Exchange, miscompared, Before16, MiscompareExactly}
use Rattle.slots.specs.Exchanges as P
use Rattle.slots.proofs.Places.{never}
use Rattle.slots.proofs.Accepted.{picked}
use Rattle.slots.proofs.Driven.{other}
use Rattle.slots.proofs.Counts.{bounds}
use Rattle.worlds.specs.Turns.{holding_of, step_in}
use Rattle.worlds.specs.Start.{start_driver}
use Rattle.worlds.specs.Step.{stage_by, stage_in, frame_by, frame_in, poll_in, took_in, staged_in, told_in}
use Rattle.worlds.specs.Chains as W
use Rattle.worlds.proofs.Sane.{ended_off, going-facts}
use Rattle.worlds.proofs.Shapes.{shape_some}
use Rattle.worlds.proofs.Chains.{any_world_called, any_state-ends, miscompares_called}
use Rattle.driver_blocks.specs.Block.{answer_at, told_number, decode_driver, encode_driver, Fits}
use Rattle.driver_blocks.proofs.RoundTrip.{answer_back, decode_encode}
use Rattle.driver_blocks.proofs.Fitting.{fits-start, fits_decode, fits_took}
use Rattle.chains.specs.Chains.{DataNumber}
use Rattle.chains.specs.Drivers.{Held, begun, sends, linked, chain, exchanged, ExactlyTold, told_of, Agree, Same}
use Rattle.chains.proofs.Demands.{data_number}

-- ---- a driver has a frame exactly as long as it has not ended

frame-ended : (d : Driver) (payload staged : List ℕ) → is_ended (stage_in d) ≡ true → frame_in d payload staged ≡ []
unfolding frame_in frame_by stage_in
frame-ended d payload staged e = go (part_of d.array) refl
  where
    go : (p : Option Geometry) → part_of d.array ≡ p → frame_in d payload staged ≡ []
    go (Some g) p =
        ap (λ (q : Option Geometry). frame_by q d payload staged) p ∙ picked (is_ended (stage_by (Some g) d)) [] _ (ap (λ (q : Option Geometry). is_ended (stage_by q d)) (sym p) ∙ e)
    go None p = ap (λ (q : Option Geometry). frame_by q d payload staged) p

frame-going : (d : Driver) (payload staged : List ℕ) → is_ended (stage_in d) ≡ false → 1 ≤ length (frame_in d payload staged)
unfolding frame_in frame_by stage_in
frame-going d payload staged e = go (part_of d.array) refl
  where
    go : (p : Option Geometry) → part_of d.array ≡ p → 1 ≤ length (frame_in d payload staged)
    go (Some g) p =
        let f : is_ended (stage_by (Some g) d) ≡ false = ap (λ (q : Option Geometry). is_ended (stage_by q d)) (sym p) ∙ e in
        let x = step_in g d in
        let l = length-tabulate (shape_of g x).length (frame_byte (shape_of g x) (loaded g d.kind (holding_of d payload staged) x)) in
        omega (arith, ap length (ap (λ (q : Option Geometry). frame_by q d payload staged) p ∙ other (is_ended (stage_by (Some g) d)) [] _ f), l, shape_some g x (going-facts g d f).1.step)
    go None p = never (sym e ∙ ended_off d p)

-- so the two tests of the end agree
pub end-told : (d : Driver) (payload staged : List ℕ) → eqb (length (frame_in d payload staged)) 0 ≡ is_ended (stage_in d)
end-told d payload staged = go (is_ended (stage_in d)) refl
  where
    go : (b : Bool) → is_ended (stage_in d) ≡ b → eqb (length (frame_in d payload staged)) 0 ≡ b
    go true e = eq-eqb (length (frame_in d payload staged)) 0 (ap length (frame-ended d payload staged e))
    go false e = let l = frame-going d payload staged e in ne_eqb (length (frame_in d payload staged)) 0 (λ z. omega arith)

-- ---- the chain of blocks is the chain of states

-- the block reads as the driver, and the rest is the same
record Reads (h : Held) (z : W.Chain) : Type 0 where
  block : decode_driver h.block ≡ z.driver
  staged : h.staged ≡ z.staged
  lines : h.lines ≡ z.lines
  frames : h.frames ≡ z.frames
  polls : h.polls ≡ z.polls

module _ (payload : List ℕ) (replies : ℕ → List ℕ) where
  -- the test of the end
  ends_alike : {h : Held} {z : W.Chain} → Reads h z → eqb (length (sends payload h)) 0 ≡ is_ended (stage_in z.driver)
  ends_alike {h} {z} r = (λ i. eqb (length (frame_in (r.block i) payload (r.staged i))) 0) ∙ end-told z.driver payload z.staged

  link_fits : (z : W.Chain) → Fits z.driver → Fits (W.linked payload replies z).driver
  unfolding W.linked
  link_fits z f = go (is_ended (stage_in z.driver)) refl
    where
      go : (b : Bool) → is_ended (stage_in z.driver) ≡ b → Fits (W.linked payload replies z).driver
      go true e = subst (λ (y : W.Chain). Fits y.driver) (sym (picked (is_ended (stage_in z.driver)) z _ e)) f
      go false e =
          subst (λ (y : W.Chain). Fits y.driver) (sym (other (is_ended (stage_in z.driver)) z _ e)) (fits_took z.driver payload z.staged (replies z.frames) f)

  link_reads : (h : Held) (z : W.Chain) → Reads h z → Fits z.driver → Reads (linked payload replies h) (W.linked payload replies z)
  unfolding linked W.linked
  link_reads h z r f = go (is_ended (stage_in z.driver)) refl
    where
      took : took_in (decode_driver h.block) payload h.staged (replies h.frames) ≡ took_in z.driver payload z.staged (replies z.frames)
      took = λ i. took_in (r.block i) payload (r.staged i) (replies (r.frames i))

      go : (b : Bool) → is_ended (stage_in z.driver) ≡ b → Reads (linked payload replies h) (W.linked payload replies z)
      go true e =
          subst (λ (x : Held). Reads x (W.linked payload replies z)) (sym (picked (eqb (length (sends payload h)) 0) h _ (ends_alike r ∙ e)))
          (subst (Reads h) (sym (picked (is_ended (stage_in z.driver)) z _ e)) r)
      go false e =
          subst (λ (x : Held). Reads x (W.linked payload replies z)) (sym (other (eqb (length (sends payload h)) 0) h _ (ends_alike r ∙ e)))
          (subst (Reads (record { block = encode_driver (took_in (decode_driver h.block) payload h.staged (replies h.frames)); staged = staged_in (decode_driver h.block) payload h.staged (replies h.frames); lines = h.lines ++ outline (sends payload h); frames = h.frames + 1; polls = h.polls + cond (poll_in (decode_driver h.block)) 1 0 }))
          (sym (other (is_ended (stage_in z.driver)) z _ e))
          (record {
            block = ap (λ (d : Driver). decode_driver (encode_driver d)) took ∙ decode_encode (took_in z.driver payload z.staged (replies z.frames)) (fits_took z.driver payload z.staged (replies z.frames) f);
            staged = λ i. staged_in (r.block i) payload (r.staged i) (replies (r.frames i));
            lines = λ i. r.lines i ++ outline (frame_in (r.block i) payload (r.staged i));
            frames = λ i. r.frames i + 1;
            polls = λ i. r.polls i + cond (poll_in (r.block i)) 1 0;
          }))

  chain-reads : (n : ℕ) (h : Held) (z : W.Chain) → Reads h z → Fits z.driver → Reads (chain n payload replies h) (W.chain n payload replies z)
  unfolding chain W.chain
  chain-reads zero h z r f = r
  chain-reads (suc n) h z r f = chain-reads n (linked payload replies h) (W.linked payload replies z) (link_reads h z r f) (link_fits z f)

-- ---- two worlds

agree_in : (n : ℕ) (g : Geometry) (payload : List ℕ) (replies others : ℕ → List ℕ) (h : Held) (z : W.Chain) → Reads h z → Fits z.driver
    → Agree n g payload replies others h → W.AgreeIn n g payload replies others z
agree_in zero g payload replies others h z r f a = tt
agree_in (suc n) g payload replies others h z r f a = (
  (λ e. (λ i. W.heard_in g (sym r.block i) (replies (sym r.frames i))) ∙ a.0 (ends_alike payload replies r ∙ e) ∙ (λ i. W.heard_in g (r.block i) (others (r.frames i)))),
  agree_in n g payload replies others (linked payload replies h) (W.linked payload replies z) (link_reads payload replies h z r f) (link_fits payload replies z f) a.1,
)

told_same : (s t : Option Answer) (v w : Verdict) → is_ended s ≡ is_ended t
    → ((a b : Answer) → told_by s v ≡ Some a → told_by t w ≡ Some b → (a ≡ b) ⊎ (FromData a × FromData b))
    → (told_number (told_by s v) ≡ told_number (told_by t w)) ⊎ (DataNumber (told_number (told_by s v)) × DataNumber (told_number (told_by t w)))
unfolding told_by told_number is_ended
told_same None None v w e h = inl refl
told_same None (Some b) v w e h = never e
told_same (Some a) None v w e h = never (sym e)
told_same (Some a) (Some b) v w e h = go (h (weighed a v) (weighed b w) refl refl)
  where
    go : (weighed a v ≡ weighed b w) ⊎ (FromData (weighed a v) × FromData (weighed b w))
        → (number_of (weighed a v) ≡ number_of (weighed b w)) ⊎ (DataNumber (number_of (weighed a v)) × DataNumber (number_of (weighed b w)))
    go (inl k) = inl (ap number_of k)
    go (inr k) = inr (data_number (weighed a v) (number_of (weighed a v)) refl k.0, data_number (weighed b w) (number_of (weighed b w)) refl k.1)

same-held : {h k : Held} {y z : W.Chain} → Reads h y → Reads k z → W.SameChain y z → Same h k
unfolding told_in
same-held {h} {k} {y} {z} r t s =
    record {
      lines = r.lines ∙ s.lines ∙ sym t.lines;
      frames = r.frames ∙ s.frames ∙ sym t.frames;
      polls = r.polls ∙ s.polls ∙ sym t.polls;
      answer =
          subst (λ (d : Driver). (told_number (told_in d) ≡ told_of k) ⊎ (DataNumber (told_number (told_in d)) × DataNumber (told_of k))) (sym r.block)
          (subst (λ (d : Driver). (told_number (told_in y.driver) ≡ told_number (told_in d)) ⊎ (DataNumber (told_number (told_in y.driver)) × DataNumber (told_number (told_in d)))) (sym t.block)
          (told_same (stage_in y.driver) (stage_in z.driver) y.driver.verdict z.driver.verdict s.stage s.answer));
    }

-- the block that a start leaves
start-reads : (array : ℕ) (a : Asked) (t : Detail) (payload lent : ℕ) (staged : List ℕ) → Fits (start_driver array a t payload lent)
    → Reads (begun (encode_driver (start_driver array a t payload lent)) staged) (W.begun (start_driver array a t payload lent) staged)
start-reads array a t payload lent staged f =
    record { block = decode_encode (start_driver array a t payload lent) f; staged = refl; lines = refl; frames = refl; polls = refl }

-- ANY WORLD, over the driver's C functions: one call on one part, with any two recipes, patches, places, terms or dates of which 5 and 14 are alike, and any
-- two sequences of replies that agree in what is heard
pub any_world_blocks : (n : ℕ) (g : Geometry) (array : ℕ) (a : Asked) (t there : Detail) (lent room : ℕ) (payload other staged bytes : List ℕ)
    (replies others : ℕ → List ℕ) → part_of array ≡ Some g → array < 2 ^ 64 → a.slot < 2 ^ 64 → a.limit < 2 ^ 64 → t.place < 2 ^ 64 → there.place < 2 ^ 64
    → flaws_in a.kind g t (length payload) lent ≡ flaws_in a.kind g there (length other) room
    → Agree n g payload replies others (begun (encode_driver (start_driver array a t (length payload) lent)) staged)
    → Same (chain n payload replies (begun (encode_driver (start_driver array a t (length payload) lent)) staged))
    (chain n other others (begun (encode_driver (start_driver array a there (length other) room)) bytes))
any_world_blocks n g array a t there lent room payload other staged bytes replies others p na ns nl np nt alike h =
    let d = start_driver array a t (length payload) lent in
    let e = start_driver array a there (length other) room in
    let fd = fits-start array a t (length payload) lent na ns nl np in
    let fe = fits-start array a there (length other) room na ns nl nt in
    let rd = start-reads array a t (length payload) lent staged fd in
    let re = start-reads array a there (length other) room bytes fe in
    same-held (chain-reads payload replies n (begun (encode_driver d) staged) (W.begun d staged) rd fd) (chain-reads other others n (begun (encode_driver e) bytes) (W.begun e bytes) re fe)
    (any_world_called n g array a t there lent room payload other staged bytes replies others p alike
    (agree_in n g payload replies others (begun (encode_driver d) staged) (W.begun d staged) rd fd h))

-- ---- 16

-- the exchanges over the functions on blocks
exchanged-reads : (payload : List ℕ) (replies : ℕ → List ℕ) (n : ℕ) (h : Held) (z : W.Chain) → Reads h z → Fits z.driver
    → exchanged n payload replies h ≡ W.exchanged n payload replies z
unfolding exchanged W.exchanged
exchanged-reads payload replies zero h z r f = refl
exchanged-reads payload replies (suc n) h z r f =
    let rest = exchanged-reads payload replies n (linked payload replies h) (W.linked payload replies z) (link_reads payload replies h z r f) (link_fits payload replies z f) in
    λ i. cond (ends_alike payload replies r i) [] (record { frame = frame_in (r.block i) payload (r.staged i); reply = replies (r.frames i); byte = 1 } ∷ rest i)

-- 8 to 13
before_number : (a : Answer) → Before16 a → (8 ≤ number_of a) × (number_of a ≤ 13)
unfolding number_of
before_number a P.device = (omega arith, omega arith)
before_number a P.Before16.busy = (omega arith, omega arith)
before_number a P.Before16.shut = (omega arith, omega arith)
before_number a P.Before16.lost = (omega arith, omega arith)
before_number a P.blank = (omega arith, omega arith)
before_number a P.beyond = (omega arith, omega arith)

-- a driver that has ended tells an answer
told-answer : (s : Option Answer) (v : Verdict) → is_ended s ≡ true → (Q : Option Answer → Type 0) → ((a : Answer) → told_by s v ≡ Some a → Q (Some a)) → Q (told_by s v)
unfolding told_by is_ended
told-answer None v e Q f = never e
told-answer (Some n) v e Q f = f (weighed n v) refl

exactly_number : (es : List Exchange) (a : Answer) → MiscompareExactly es a → ExactlyTold es (number_of a)
unfolding answer_at number_of
exactly_number es a m = record { only = λ e. m.only (sym (answer_back a) ∙ ap answer_at e); due = λ e. go (m.due e) }
  where
    go : Before16 a ⊎ (a ≡ Answers.Miscompare) → ((8 ≤ number_of a) × (number_of a ≤ 13)) ⊎ (number_of a ≡ 16)
    go (inl b) = inl (before_number a b)
    go (inr b) = inr (ap number_of b)

-- EXACTLY 16, over the driver's C functions: a call on a part, whatever it is told and lent, and any sequence of replies
pub miscompares_blocks : (g : Geometry) (array : ℕ) (a : Asked) (t : Detail) (lent : ℕ) (payload staged : List ℕ) (replies : ℕ → List ℕ)
    → part_of array ≡ Some g → array < 2 ^ 64 → a.slot < 2 ^ 64 → a.limit < 2 ^ 64 → t.place < 2 ^ 64
    → ExactlyTold (exchanged (stated a.kind a.limit) payload replies (begun (encode_driver (start_driver array a t (length payload) lent)) staged))
    (told_of (chain (stated a.kind a.limit) payload replies (begun (encode_driver (start_driver array a t (length payload) lent)) staged)))
unfolding told_in told_number start_driver
miscompares_blocks g array a t lent payload staged replies p na ns nl np =
    let d = start_driver array a t (length payload) lent in
    let n = stated a.kind a.limit in
    let z = W.chain n payload replies (W.begun d staged) in
    let f = fits-start array a t (length payload) lent na ns nl np in
    let s = start-reads array a t (length payload) lent staged f in
    let r = chain-reads payload replies n (begun (encode_driver d) staged) (W.begun d staged) s f in
    subst (λ (es : List Exchange). ExactlyTold es (told_of (chain n payload replies (begun (encode_driver d) staged)))) (sym (exchanged-reads payload replies n (begun (encode_driver d) staged) (W.begun d staged) s f))
    (subst (λ (k : Driver). ExactlyTold (W.exchanged n payload replies (W.begun d staged)) (told_number (told_in k))) (sym r.block)
    (told-answer (stage_in z.driver) z.driver.verdict (any_state-ends d payload staged replies) (λ k. ExactlyTold (W.exchanged n payload replies (W.begun d staged)) (told_number k))
    (λ x e. exactly_number (W.exchanged n payload replies (W.begun d staged)) x
    (subst (λ (m : ℕ). told_in (W.chain m payload replies (W.begun d staged)).driver ≡ Some x → MiscompareExactly (W.exchanged m payload replies (W.begun d staged)) x) (bounds a.kind g a.slot a.limit)
    (miscompares_called g array a t lent payload staged replies p x) e))))

-- EVERY BLOCK ENDS: any 72 bytes are a state that comes to an end within the bound of its call, whatever comes back
pub any_block-ends : (block payload staged : List ℕ) (replies : ℕ → List ℕ) → ((k : ℕ) → k < length block → get_or block k 0 < 256)
    → sends payload (chain (stated (decode_driver block).kind (decode_driver block).limit) payload replies (begun block staged)) ≡ []
any_block-ends block payload staged replies bytes =
    let d = decode_driver block in
    let n = stated d.kind d.limit in
    let r = chain-reads payload replies n (begun block staged) (W.begun d staged) (record { block = refl; staged = refl; lines = refl; frames = refl; polls = refl }) (fits_decode block bytes) in
    (λ i. frame_in (r.block i) payload (r.staged i)) ∙ frame-ended (W.chain n payload replies (W.begun d staged)).driver payload (W.chain n payload replies (W.begun d staged)).staged (any_state-ends d payload staged replies)
