-- `text::hyphens::behind_hyphen` meets its contract: the scan ends at the first hyphen (`behind`), or nothing is left (`none_behind`).
-- Assumes nothing.
use Rattle.std.proofs.Common.{rules}
use Rattle.text.specs.Hyphens.{not_hyphen}
use Rattle.text.proofs.Halves.{behind, none_behind}
use Rattle.text.proofs.hyphens.behind_hyphen.Goals as goal

pub returns-then-at-word : goal.returns-then-at-word
unfolding not_hyphen
returns-then-at-word c =
    let s = c.scan-at in
    behind c.args.word.now s.result (s.ensures.value not_hyphen (λ x b l k. search rules))

pub returns : goal.returns
unfolding not_hyphen
returns c =
    let s = c.scan-at in
    none_behind c.args.word.now s.result (s.ensures.value not_hyphen (λ x b l k. search rules)) c.if-at-word.false
