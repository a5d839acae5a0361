-- `words::if_begun` meets its contract: `starts_with` is the definition's test.
-- Assumes nothing.
use Rattle.std.proofs.Common.{rules, ◌≡◌, ◌∙◌}
use Rattle.words.specs.Words.{begins_with}
use Rattle.words.proofs.Spans.{begins}
use Rattle.words.proofs.if_begun.Goals as goal

pub returns : goal.returns
returns c =
    let e : c.starts_with.result ≡ begins_with c.args.word.now c.args.opening.now = c.starts_with.ensures.value ∙ begins _ _ in
    search rules
