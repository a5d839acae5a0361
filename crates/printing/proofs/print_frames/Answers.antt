-- `printing::print_frames` meets its contract: after i turns the lines of the first i frames are printed. Assumes nothing.
use Rattle.std.proofs.Common.{rules, ◌≡◌, ◌+◌, ℕ, [], ◌∷◌, ◌++◌, length, length-append, refl, sym, ap, arith, ◌∙◌}
use Rattle.printing.specs.Texts.{frames_text}
use Rattle.printing.proofs.Laws.{printed_none, printed_more, printed_as, next_frame, last_frame}
use Rattle.printing.proofs.print_frames.Goals as goal

pub loop-entry-init : goal.loop-entry-init
unfolding frames_text
loop-entry-init c = record { fills = refl; six = search rules; count = search rules; whole = omega arith; left = search rules; printed = printed_none c.args.start c.args.text.now }

pub loop-entry-preserved : goal.loop-entry-preserved
loop-entry-preserved c =
    let l = c.loop-entry.invariant in
    let s = rw c.in-Some.is at c.next.ensures.steps in
    let i = length c.loop-entry.yielded in
    let m : length (c.loop-entry.yielded ++ (c.in-Some.entry ∷ [])) ≡ i + 1 = length-append c.loop-entry.yielded (c.in-Some.entry ∷ []) in
    let f = next_frame i c.args.log.now c.in-Some.entry.now _ (sym l.left ∙ s.0.1.0) (s.0.1.1 ∙ l.six) in
    rw m (record {
      fills = c.print_frame-o.auto.text ∙ l.fills;
      six = s.0.0 ∙ l.six;
      count = omega (arith, s.1, l.count);
      whole = f.2;
      left = f.1;
      printed = printed_as (printed_more l.printed c.print_frame-o.ensures) f.0;
    })

pub returns : goal.returns
returns c =
    let l = c.loop-entry.invariant in
    let s = rw c.in-None.is at c.next.ensures.steps in
    let i = length c.loop-entry.yielded in
    let e = last_frame i c.args.frames _ c.args.log.now l.count l.whole (λ h. omega (arith, (s h).1.0, ap length l.left, l.six)) in
    printed_as l.printed (ap (λ (k : ℕ). frames_text k c.args.log.now) e)
