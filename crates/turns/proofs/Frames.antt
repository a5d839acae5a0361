-- Frames: four bytes of opcode and address, and then zeros or, in an 84, a page; a poll has two bytes.
-- Assumes nothing.
use Prim.Native.Nat.{ℕ, zero, suc, ◌+◌, ◌-◌, ◌*◌, ◌/◌, ◌%◌, ◌≤◌, ◌<◌}
use native.Mathlib.Nat.{mul-le-mul}
use native.Mathlib.Omega.{arith}
use mathlib.Core.Path.{◌≡◌, refl, sym, ap, subst, ◌∙◌}
use mathlib.Core.Bool.{Bool, false}
use mathlib.Core.List.{List, [], ◌∷◌, ◌++◌}
use mir.Val.{Fits}
use mir.Syntax.{w64}
use lib.ListN.{length, set, take, drop, replicate}
use Rattle.slices.specs.Lists.{tabulate, over, splice}
use Rattle.slices.proofs.Laws.{tabulate-same, tabulate_append, length_over, over_two, spliced, run_length}
use Rattle.geometry.specs.declared.Geometry.{Geometry}
use Rattle.slots.specs.declared.Driver.{Driver}
use Rattle.slots.specs.declared.Kind.{Kind}
use Rattle.slots.specs.declared.Command.{Command}
use Rattle.slots.specs.declared.Step.{Step}
use Rattle.slots.specs.declared.Step.TheVariants.{Wait, Protection, Lockdown, Read, Send, End}
use Rattle.slots.specs.Driver.{Holding, addressed, opcode_of, shape_of, frame_byte, loaded, frame_of}
use Rattle.slots.proofs.Sent.{data_byte}
use Rattle.steps.specs.Places.{page_by}
use Rattle.worlds.specs.Turns.{holding_of}

-- ---- bytes stored

pub four_set : (xs : List ℕ) (a b c d : ℕ) → 4 ≤ length xs → set (set (set (set xs 0 a) 1 b) 2 c) 3 d ≡ over (a ∷ b ∷ c ∷ d ∷ []) xs
unfolding over
four_set [] a b c d h = absurd (omega arith)
four_set (x ∷ []) a b c d h = absurd (omega arith)
four_set (x ∷ y ∷ []) a b c d h = absurd (omega arith)
four_set (x ∷ y ∷ z ∷ []) a b c d h = absurd (omega arith)
four_set (x ∷ y ∷ z ∷ w ∷ xs) a b c d h = refl

pub two_set : (xs : List ℕ) (a b : ℕ) → 2 ≤ length xs → set (set xs 0 a) 1 b ≡ over (a ∷ b ∷ []) xs
unfolding over
two_set [] a b h = absurd (omega arith)
two_set (x ∷ []) a b h = absurd (omega arith)
two_set (x ∷ y ∷ xs) a b h = refl

-- the four bytes were stored, and then the part from index 4 to the end came back as zs
pub behind : (front part xs ys zs : List ℕ) (e : ℕ) → length front ≡ 4 → 4 ≤ e → e ≤ length xs → ys ≡ over front xs
    → length part ≡ e - 4 → zs ≡ part → take 4 ys ++ (zs ++ drop (e - 4) (drop 4 ys)) ≡ over (front ++ part) xs
behind front part xs ys zs e l h k s m z =
    let n : length ys ≡ length xs = ap length s ∙ length_over front xs in
    spliced 4 ys (omega (arith, n)) (sym m) z ∙ ap (λ (t : List ℕ). splice 4 part t) s ∙ ap (λ (m : ℕ). splice m part (over front xs)) (sym l) ∙ sym (over_two front part xs)

-- how long that part is
pub rest-length : (front xs ys : List ℕ) (e : ℕ) → 4 ≤ e → e ≤ length xs → ys ≡ over front xs → length (take (e - 4) (drop 4 ys)) ≡ e - 4
rest-length front xs ys e h k s =
    let n : length ys ≡ length xs = ap length s ∙ length_over front xs in
    let p : 4 + (e - 4) - 4 ≡ e - 4 = omega arith in
    ap (λ (j : ℕ). length (take j (drop 4 ys))) (sym p) ∙ run_length 4 (e - 4) ys (omega (arith, n))

-- ---- frames as they are stored

zeros : (n : ℕ) → tabulate n (λ i. 0) ≡ replicate n 0
unfolding tabulate
zeros zero = refl
zeros (suc n) = ap (λ (l : List ℕ). 0 ∷ l) (zeros n)

-- opcode, address, and zeros
plain_form : (opcode n size : ℕ) (x : ℕ → ℕ) → 4 ≤ size
    → opcode ∷ n / 65536 % 256 ∷ n / 256 % 256 ∷ n % 256 ∷ replicate (size - 4) 0 ≡ tabulate size (frame_byte (addressed opcode n size false) x)
unfolding frame_byte tabulate
plain_form opcode n size x h =
    let s = addressed opcode n size false in
    let k : 4 + (size - 4) ≡ size = omega arith in
    ap (λ (t : List ℕ). opcode ∷ n / 65536 % 256 ∷ n / 256 % 256 ∷ n % 256 ∷ t)
    (sym (zeros (size - 4)) ∙ tabulate-same (size - 4) (λ i. 0) (λ i. frame_byte s x (4 + i)) (λ i l. sym (data_byte s x (4 + i) (omega arith))))
    ∙ sym (tabulate_append 4 (size - 4) (frame_byte s x))
    ∙ ap (λ (m : ℕ). tabulate m (frame_byte s x)) k

module _ (g : Geometry) (k : Kind) (h : Holding) where
  pub wait_form : (c : Bool) → 0xD7 ∷ 0 ∷ [] ≡ frame_of g k h (Wait c)
  unfolding shape_of frame_byte tabulate
  wait_form c = refl

  pub protection_form : 0x32 ∷ 0 ∷ 0 ∷ 0 ∷ replicate (4 + g.register - 4) 0 ≡ frame_of g k h Protection
  unfolding shape_of
  protection_form = plain_form 0x32 0 (4 + g.register) (loaded g k h Protection) (omega arith)

  pub lockdown_form : 0x35 ∷ 0 ∷ 0 ∷ 0 ∷ replicate (4 + g.register - 4) 0 ≡ frame_of g k h Lockdown
  unfolding shape_of
  lockdown_form = plain_form 0x35 0 (4 + g.register) (loaded g k h Lockdown) (omega arith)

  pub read_form : (p : ℕ) → 0xD2 ∷ g.field * p / 65536 % 256 ∷ g.field * p / 256 % 256 ∷ g.field * p % 256 ∷ replicate (8 + g.size - 4) 0 ≡ frame_of g k h (Read p)
  unfolding shape_of
  read_form p = plain_form 0xD2 (g.field * p) (8 + g.size) (loaded g k h (Read p)) (omega arith)

  pub send_form : (c : Command) (p : ℕ) → opcode_of c ∷ g.field * p / 65536 % 256 ∷ g.field * p / 256 % 256 ∷ g.field * p % 256 ∷ [] ≡ frame_of g k h (Send c p)
  unfolding shape_of
  send_form c p = plain_form (opcode_of c) (g.field * p) 4 (loaded g k h (Send c p)) (omega arith)

  pub end_form : [] ≡ frame_of g k h End
  unfolding shape_of tabulate
  end_form = refl

-- an address fits a word
pub address-fits : (field page : ℕ) → field ≤ 16777216 → page < 4096 → Fits w64 (field * page)
address-fits field page h l =
    let n : page ≤ 4096 = omega arith in
    omega (arith, mul-le-mul h n)

-- the page of a step is small as it is
pub named-few : (x : Step) {y : Step} → page_by x < 4096 → x ≡ y → page_by y < 4096
named-few x l e = subst (λ (z : Step). page_by z < 4096) e l

-- what was written for a step's form is its frame
pub by_step : (g : Geometry) (d : Driver) (payload staged frame : List ℕ) {x y : Step} {n : ℕ} {f ys : List ℕ} → x ≡ y → n ≡ (shape_of g y).length → ys ≡ over f frame
    → f ≡ frame_of g d.kind (holding_of d payload staged) y
    → (n ≡ (shape_of g x).length) × (ys ≡ over (frame_of g d.kind (holding_of d payload staged) x) frame)
by_step g d payload staged frame e n z f = (
  n ∙ ap (λ (w : Step). (shape_of g w).length) (sym e),
  z ∙ ap (λ (l : List ℕ). over l frame) f ∙ ap (λ (w : Step). over (frame_of g d.kind (holding_of d payload staged) w) frame) (sym e),
)
