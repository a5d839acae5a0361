-- `text::scans::scan` meets its contract: from the start on, or from the end, as many bytes pass as the definition counts. Assumes nothing.
use Rattle.text.proofs.Tests.{scan-from}
use Rattle.text.proofs.scans.scan.Goals as goal

pub returns-clause-value : goal.returns-clause-value
returns-clause-value g c = λ p h. scan-from p c.args.bytes.now c.args.at c.min-from.result c.leading.result c.min-from.ensures (c.leading.ensures.value p h)
