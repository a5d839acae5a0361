-- 12, 13 and 15, exactly: the driver's tests of a slot's first bytes say what the rules say of their numbers.
-- Assumes nothing.
use Prim.Native.Nat.{ℕ, ◌+◌, ◌-◌, ◌*◌, ◌≤◌, ◌<◌}
use native.Mathlib.Omega.{arith}
use mathlib.Core.Path.{◌≡◌, refl, sym, ap, subst, ◌∙◌}
use mathlib.Core.Bool.{Bool, true, false, cond, ◌&&◌, ◌||◌}
use mathlib.Core.List.{List}
use mathlib.Core.Logic.{◌⊎◌, inl, inr}
use lib.ListN.{length, get_or}
use lib.Dec.{eqb, leb}
use borrow.Author.Tests.{eqb-true, eqb-false, leb-true, leb-false, le-leb}
use Rattle.geometry.specs.declared.Geometry.{Geometry}
use Rattle.slots.specs.declared.Kind.TheVariants.{Patch, Get}
use Rattle.slots.specs.declared.Period.TheVariants.{Always, Days}
use Rattle.slots.specs.declared.Verdict.TheVariants.{Good, Blank, Beyond, Outside}
use Rattle.slots.specs.Records.{slot_size, head_size, limit_of, length_in, day_in, period_in, is_record, is_within, get_verdict, patch_verdict}
use Rattle.slots.specs.Driver.{Holding, judged}
use Rattle.slots.specs.Exchanges.{Begins, plain, termed, PatchJudges, no_record, too_far, fits, GetJudges, none, outside, inside}
use Rattle.slots.proofs.Places.{never}

module _ (g : Geometry) (bytes : List ℕ) (room : 11 ≤ 8 * g.size) where
  abbrev n : ℕ
  n = get_or bytes 1 0 * 256 + get_or bytes 2 0

  abbrev v : ℕ
  v = get_or bytes 0 0

  -- the driver's test of a record, either way
  pub record_true : is_record g bytes ≡ true → Begins g bytes
  unfolding is_record limit_of slot_size head_size length_in
  record_true = go (eqb v 1) (eqb v 2) refl refl
    where
      go : (a b : Bool) → eqb v 1 ≡ a → eqb v 2 ≡ b → ((a || b) && leb n (8 * g.size - cond a 3 (cond b 11 0))) ≡ true → Begins g bytes
      go true b e f h = plain (eqb-true v 1 e) (omega (arith, leb-true n (8 * g.size - 3) h))
      go false true e f h = termed (eqb-true v 2 f) (omega (arith, leb-true n (8 * g.size - 11) h))
      go false false e f h = never h

  record_false : is_record g bytes ≡ false → Begins g bytes → ⊥
  unfolding is_record limit_of slot_size head_size length_in
  record_false h (plain e l) = never (sym h ∙ (λ i. (eqb (e i) 1 || eqb (e i) 2) && leb n (8 * g.size - cond (eqb (e i) 1) 3 (cond (eqb (e i) 2) 11 0))) ∙ le-leb n (8 * g.size - 3) (omega (arith, l)))
  record_false h (termed e l) = never (sym h ∙ (λ i. (eqb (e i) 1 || eqb (e i) 2) && leb n (8 * g.size - cond (eqb (e i) 1) 3 (cond (eqb (e i) 2) 11 0))) ∙ le-leb n (8 * g.size - 11) (omega (arith, l)))

  -- what a patch takes the slot's first page for
  pub patch-judged : (h : Holding) → PatchJudges g bytes (h.aim.place + length h.payload) (judged g Patch h bytes)
  unfolding judged patch_verdict length_in
  patch-judged h = go (is_record g bytes) (leb end n) refl refl
    where
      end : ℕ
      end = h.aim.place + length h.payload

      go : (a b : Bool) → is_record g bytes ≡ a → leb end n ≡ b → PatchJudges g bytes end (cond a (cond b Good Beyond) Blank)
      go true true e f = fits (record_true e) (leb-true end n f)
      go true false e f = too_far (record_true e) (leb-false end n f)
      go false b e f = no_record (record_false e)

  -- and a get
  pub get-judged : (h : Holding) → GetJudges g bytes h.aim.today (judged g Get h bytes)
  unfolding judged get_verdict period_in is_within
  get-judged h =
      subst (λ (x : Bool). GetJudges g bytes today (cond (is_record g bytes) (cond x Good Outside) Blank)) (sym (weighs (eqb v 2)))
      (go (is_record g bytes) (eqb v 2) (leb (day_in bytes 3) today) (leb today (day_in bytes 7)) refl refl refl refl)
    where
      today : ℕ
      today = h.aim.today

      weighs : (b : Bool) → is_within (cond b (Days (day_in bytes 3) (day_in bytes 7)) Always) today ≡ cond b (leb (day_in bytes 3) today && leb today (day_in bytes 7)) true
      weighs true = refl
      weighs false = refl

      go : (a b c d : Bool) → is_record g bytes ≡ a → eqb v 2 ≡ b → leb (day_in bytes 3) today ≡ c → leb today (day_in bytes 7) ≡ d
          → GetJudges g bytes today (cond a (cond (cond b (c && d) true) Good Outside) Blank)
      go true true true true e f p q = inside (record_true e) (λ _. (leb-true (day_in bytes 3) today p, leb-true today (day_in bytes 7) q))
      go true true true false e f p q = outside (record_true e) (eqb-true v 2 f) (inr (leb-false today (day_in bytes 7) q))
      go true true false d e f p q = outside (record_true e) (eqb-true v 2 f) (inl (leb-false (day_in bytes 3) today p))
      go true false c d e f p q = inside (record_true e) (λ z. absurd (eqb-false v 2 f z))
      go false b c d e f p q = none (record_false e)
