-- Replies: each is a list computed byte by byte, FFh below the lead and the data from there on.
-- Assumes nothing.
use mathlib.Core.Path.{◌≡◌, refl, ap, ◌∙◌}
use mathlib.Core.Bool.{Bool, true, false, cond}
use mathlib.Core.List.{List, [], ◌∷◌, ◌++◌}
use Prim.Native.Nat.{ℕ, zero, suc, ◌+◌, ◌-◌, ◌≤◌, ◌<◌}
use native.Mathlib.Omega.{arith}
use lib.Dec.{ltb}
use lib.ListN.{length, take, get_or, replicate}
use borrow.Author.Tests.{lt-ltb, le-ltb, ltb-false}
use Rattle.slices.specs.Lists.{tabulate}
use Rattle.slices.proofs.Laws.{length-tabulate, get_or-tabulate, tabulate-same, tabulate_append, tabulate_const}
use Rattle.memory.specs.Replies.{replied, no_data, once_data}

abbrev byte : ℕ → (ℕ → ℕ) → ℕ → ℕ
byte lead f i = cond (ltb i lead) 255 (f (i - lead))

module _ (n lead : ℕ) where
  pub length-replied : (f : ℕ → ℕ) → length (replied n lead f) ≡ n
  unfolding replied
  length-replied f = length-tabulate n (byte lead f)

  -- a byte of the lead
  pub replied-lead : (f : ℕ → ℕ) (i d : ℕ) → i < lead → i < n → get_or (replied n lead f) i d ≡ 255
  unfolding replied
  replied-lead f i d l h = get_or-tabulate n (byte lead f) i d h ∙ rw (lt-ltb i lead l)

  -- a byte of the data
  pub replied_data : (f : ℕ → ℕ) (i d : ℕ) → lead ≤ i → i < n → get_or (replied n lead f) i d ≡ f (i - lead)
  unfolding replied
  replied_data f i d l h = get_or-tabulate n (byte lead f) i d h ∙ rw (le-ltb i lead l)

  -- two data that agree as far as the reply goes
  pub replied-same : (f h : ℕ → ℕ) → ((i : ℕ) → i < n - lead → f i ≡ h i) → replied n lead f ≡ replied n lead h
  unfolding replied
  replied-same f h e = tabulate-same n (byte lead f) (byte lead h) (λ i l. go i l (ltb i lead) refl)
    where
      go : (i : ℕ) → i < n → (b : Bool) → ltb i lead ≡ b → cond b 255 (f (i - lead)) ≡ cond b 255 (h (i - lead))
      go i l true t = refl
      go i l false t = e (i - lead) (omega (arith, ltb-false i lead t))

  -- no data
  pub replied_nothing : replied n lead no_data ≡ replicate n 255
  unfolding replied
  replied_nothing = tabulate-same n (byte lead no_data) no_data (λ i h. always (ltb i lead)) ∙ tabulate_const n 255
    where
      always : (b : Bool) → ◌≡◌ {A = ℕ} (cond b 255 255) 255
      always true = refl
      always false = refl

  -- the lead, and then the data
  pub replied-parts : (f : ℕ → ℕ) → lead ≤ n → replied n lead f ≡ replicate lead 255 ++ tabulate (n - lead) f
  unfolding replied
  replied-parts f l =
      let k : n ≡ lead + (n - lead) = omega arith in
      ap (λ (m : ℕ). tabulate m (byte lead f)) k
      ∙ tabulate_append lead (n - lead) (byte lead f)
      ∙ ap (λ (s : List ℕ). s ++ tabulate (n - lead) (λ i. byte lead f (lead + i)))
      (tabulate-same lead (byte lead f) no_data (λ i h. rw (lt-ltb i lead h)) ∙ tabulate_const lead 255)
      ∙ ap (λ (s : List ℕ). replicate lead 255 ++ s) (tabulate-same (n - lead) (λ i. byte lead f (lead + i)) f (λ i h. after i))
    where
      after : (i : ℕ) → byte lead f (lead + i) ≡ f i
      after i =
          let e : lead + i - lead ≡ i = omega arith in
          rw (le-ltb (lead + i) lead (omega arith), e)

-- bytes read once: those that there are, and then FFh
pub once_parts : (n : ℕ) (bytes : List ℕ) → tabulate n (once_data bytes) ≡ take n bytes ++ replicate (n - length bytes) 255
unfolding tabulate
once_parts zero bytes =
    let e : 0 - length bytes ≡ 0 = omega arith in
    rw e
once_parts (suc n) [] =
    let e : suc n - 0 ≡ suc n = omega arith in
    rw e (tabulate_const (suc n) 255)
once_parts (suc n) (b ∷ bytes) =
    let e : suc n - suc (length bytes) ≡ n - length bytes = omega arith in
    rw e (ap (λ (s : List ℕ). b ∷ s) (once_parts n bytes))
