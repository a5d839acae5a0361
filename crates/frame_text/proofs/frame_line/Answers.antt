-- `frame_text::frame_line` meets its contract: the decimal length is laid over `out`, and the first bytes behind it: together they are the text. Assumes nothing.
use mathlib.Core.Path.{◌≡◌, ap, ◌∙◌}
use Prim.Native.Nat.{ℕ, ◌+◌, min}
use borrow.Author.Rules.{rules}
use lib.ListN.{length}
use Rattle.frame_text.proofs.Texts.{first-bytes, framed}
use Rattle.frame_text.proofs.frame_line.Goals as goal

pub returns : goal.returns
returns c =
    let line = c.args.line.now in
    let out = c.args.out.now in
    let n = c.frame_length-n in
    let d = c.put_decimal-k in
    let a = c.min-a in
    let m = c.min in
    let e = c.min-e in
    let p = c.put_pairs in
    let long : length out ≡ 20 = search rules in
    framed line out d.new.out p.new.out _ n.result d.result p.result
    n.ensures.0 d.ensures.0 d.ensures.1 d.ensures.2
    (first-bytes line (min n.result 4) a.result e.result a.ensures (e.ensures ∙ ap (λ (k : ℕ). min (length line) (2 + k)) m.ensures))
    p.ensures.0 p.ensures.1 long
