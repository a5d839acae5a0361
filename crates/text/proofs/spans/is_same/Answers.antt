-- `text::spans::is_same` meets its contract: `==` compares byte for byte. Assumes nothing.
use Rattle.std.proofs.Common.{◌∙◌}
use Rattle.text.proofs.Tests.{same_pointwise}
use Rattle.text.proofs.spans.is_same.Goals as goal

pub returns : goal.returns
returns c = c.eq.ensures ∙ same_pointwise c.args.a.now c.args.b.now
