-- A raw call: refused, or one frame with its script byte, and a cut behind it where that is 2.
-- Assumes nothing.
use Rattle.std.specs.Prelude.{None, Option, Some}
use mathlib.Core.Path.{◌≡◌, refl, sym, ap, subst⁻¹, ◌∙◌}
use mathlib.Core.Bool.{Bool, true, false, cond}
use mathlib.Core.List.{List}
use Prim.Native.Nat.{ℕ, ◌≤◌}
use lib.ListN.{length}
use lib.Dec.{eqb}
use borrow.Author.Tests.{eq-eqb, ne_eqb}
use Rattle.slices.proofs.Laws.{splice-zero}
use Rattle.geometry.specs.declared.Geometry.{Geometry}
use Rattle.state.specs.declared.Answer.{Answer}
use Rattle.state.specs.declared.Answer.TheVariants as Answers
use Rattle.state.specs.Answers.{number_of}
use Rattle.state.specs.Memory.{State}
use Rattle.state.specs.Outcomes.{part_in, framed, cut_fits, sent_state, cut_state}
use Rattle.slots.specs.Refusals.{bad_script, late_refusal, raw_refusal}
use Rattle.slots.specs.Calls.{refused, outline, scripted, registers_after, memory_after, state_after, raw_sent, raw_out, raw_next}
use Rattle.slots.specs.Lists.{raw, raw_by, raw_left, out_of, next_of, is_refusal, log_of}
use Rattle.slots.proofs.Places.{never}
use Rattle.slots.proofs.Accepted.{picked, late}
use Rattle.slots.proofs.Driven.{other}
use Rattle.runs.specs.declared.Done.{Done}
use Rattle.blocks.specs.Promises.{held_in}
use Rattle.runs.specs.Exchange.{Canonical, Exchanged}
use Rattle.runs.specs.Promises.{Promise}
use Rattle.runs.proofs.After.{after-long, after-placed}
use Rattle.runs.proofs.Promised.{Few, is_refusal_lem, raw-few, leaves_as, leaves-refused, leaves-sent}
use Rattle.runs.proofs.Scripts.{has-cut, junk-fits}

module _ (f script junk log reply held xs : List ℕ) where
  abbrev s : State
  s = held_in held xs

  abbrev refusal : Geometry → Answer
  refusal g = raw_refusal g (length xs) f (length reply) (length log) script (length junk)

  -- ---- refused

  pub raw_unknown : part_in (held_in held xs) ≡ None → (r : Done) → r ≡ record { answer = Answers.Part; frames = 0; polls = 0; count = 0 }
      → Promise (raw f script junk log reply) held xs r held xs log reply
  unfolding out_of raw_by next_of raw_left number_of log_of
  raw_unknown e r d =
      leaves_as (ap (λ (p : Option Geometry). raw_by p f script junk log reply s) e) (ap (λ (p : Option Geometry). raw_left p f script junk log reply s) e)
      (leaves-refused Answers.Part held xs log reply r refl d)

  module _ (g : Geometry) (p : part_in (held_in held xs) ≡ Some g) where
    out_known : out_of (raw f script junk log reply) s ≡ raw_out g f script (length log) (length junk) reply s
    unfolding out_of raw_by
    out_known = ap (λ (q : Option Geometry). raw_by q f script junk log reply s) p

    next_known : next_of (raw f script junk log reply) s ≡ raw_next g f script (length log) junk (length reply) s
    unfolding next_of raw_left
    next_known = ap (λ (q : Option Geometry). raw_left q f script junk log reply s) p

    pub raw-refused : (z : Answer) (r : Done) → z ≡ raw_refusal g (length xs) f (length reply) (length log) script (length junk) → (number_of z ≡ 0 → ⊥)
        → r ≡ record { answer = z; frames = 0; polls = 0; count = 0 } → Promise (raw f script junk log reply) held xs r held xs log reply
    unfolding raw_out raw_next log_of
    raw-refused z r e n d =
        let k : eqb (number_of z) 0 ≡ false = ne_eqb (number_of z) 0 n in
        let h : eqb (number_of (refusal g)) 0 ≡ false = ap (λ (t : Answer). eqb (number_of t) 0) (sym e) ∙ k in
        leaves_as (out_known ∙ other (eqb (number_of (refusal g)) 0) _ _ h ∙ ap (λ (t : Answer). refused t reply) (sym e))
        (next_known ∙ other (eqb (number_of (refusal g)) 0) _ _ h)
        (leaves-refused z held xs log reply r
        (is_refusal_lem z (subst⁻¹ Few e (raw-few g (length xs) f (length reply) (length log) script (length junk))) k) d)

    -- ---- sent

    module _ (n : number_of (raw_refusal g (length xs) f (length reply) (length log) script (length junk)) ≡ 0) where
      none : eqb (number_of (refusal g)) 0 ≡ true
      none = eq-eqb (number_of (refusal g)) 0 n

      -- what the exchange asks
      pub raw_taken : (framed (length f) (length reply) ≡ true) × (6 ≤ length log) × (bad_script g (length xs) script (length junk) ≡ false)
      unfolding raw_refusal number_of
      raw_taken = go (framed (length f) (length reply)) refl
        where
          go : (b : Bool) → framed (length f) (length reply) ≡ b → (framed (length f) (length reply) ≡ true) × (6 ≤ length log) × (bad_script g (length xs) script (length junk) ≡ false)
          go true e =
              let w = late g (length xs) (length log) 6 script (length junk)
              (ap (λ (b : Bool). eqb (number_of (cond b (late_refusal g (length xs) (length log) 6 script (length junk)) Answers.Frame)) 0) (sym e) ∙ none) in
              (e, w.room, w.fine)
          go false e =
              never (ap (λ (b : Bool). eqb (number_of (cond b (late_refusal g (length xs) (length log) 6 script (length junk)) Answers.Frame)) 0) (sym e) ∙ none)

      out : out_of (raw f script junk log reply) s ≡ raw_sent g script f s
      unfolding raw_out
      out = out_known ∙ picked (eqb (number_of (refusal g)) 0) _ _ none

      next : next_of (raw f script junk log reply) s ≡ cond (eqb (scripted script 0) 2) (cut_state g junk (sent_state g f s)) (state_after g (scripted script 0) (sent_state g f s))
      unfolding raw_next
      next = next_known ∙ picked (eqb (number_of (refusal g)) 0) _ _ none

      -- a frame that is sent answers none of 1 to 7
      sent_late : (b : Bool) → is_refusal (cond b Answers.Cut Answers.Done) ≡ false
      unfolding number_of
      sent_late true = refl
      sent_late false = refl

      module _ (b : ℕ) (mid ys rp l : List ℕ) (z : Exchanged g b 0 f (held_in held xs) log (held_in mid ys) rp l) (eb : b ≡ scripted script 0) where
        -- no cut
        pub raw-sent : (b ≡ 2 → ⊥) → Canonical mid → Promise (raw f script junk log reply) held xs (record { answer = Answers.Done; frames = 1; polls = 0; count = 0 }) mid ys l rp
        unfolding raw_sent log_of
        raw-sent hb form =
            let k : eqb (scripted script 0) 2 ≡ false = ne_eqb (scripted script 0) 2 (λ q. hb (eb ∙ q)) in
            leaves_as out (next ∙ other (eqb (scripted script 0) 2) _ _ k)
            (leaves-sent (raw_sent g script f s) _ held log _ mid ys l rp (sent_late (eqb (scripted script 0) 2)) form
            (z.state ∙ ap (λ (t : ℕ). state_after g t (sent_state g f s)) eb) (ap (λ (t : Bool). cond t Answers.Cut Answers.Done) (sym k))
            (z.log ∙ splice-zero (outline f) log) refl refl refl z.reply)

        -- after a 2 the state is what the frame left
        two : b ≡ 2 → held_in mid ys ≡ sent_state g f s
        unfolding state_after registers_after memory_after
        two hb = z.state ∙ ap (λ (t : ℕ). state_after g t (sent_state g f s)) hb

        -- what the cut asks
        pub raw-fits : b ≡ 2 → (part_in (held_in mid ys) ≡ Some g) × (cut_fits g (length ys) (length junk) ≡ true)
        raw-fits hb = (
          subst⁻¹ (λ (t : State). part_in t ≡ Some g) z.state (after-placed g f s b p),
          ap (λ (t : ℕ). cut_fits g t (length junk)) (ap (λ (t : State). length t.memory.array) z.state ∙ after-long g f s b)
              ∙ junk-fits g (length xs) script (length junk) raw_taken.2 (has-cut script 0 (sym eb ∙ hb)),
        )

        -- a cut
        pub raw-cut : b ≡ 2 → (kept zs : List ℕ) → held_in kept zs ≡ cut_state g junk (held_in mid ys) → Canonical kept
            → Promise (raw f script junk log reply) held xs (record { answer = Answers.Cut; frames = 1; polls = 0; count = 0 }) kept zs l rp
        unfolding raw_sent log_of
        raw-cut hb kept zs back form =
            let k : eqb (scripted script 0) 2 ≡ true = eq-eqb (scripted script 0) 2 (sym eb ∙ hb) in
            leaves_as out (next ∙ picked (eqb (scripted script 0) 2) _ _ k)
            (leaves-sent (raw_sent g script f s) _ held log _ kept zs l rp (sent_late (eqb (scripted script 0) 2)) form
            (back ∙ ap (cut_state g junk) (two hb)) (ap (λ (t : Bool). cond t Answers.Cut Answers.Done) (sym k))
            (z.log ∙ splice-zero (outline f) log) refl refl refl z.reply)
