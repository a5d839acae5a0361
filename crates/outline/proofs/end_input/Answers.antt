-- `outline::end_input` meets its contract: the last line ends, unless the input could not be read. Assumes nothing.
use mathlib.Core.Path.{sym, ◌∙◌}
use Rattle.outline.proofs.Laws.{closes_unread, closes_read}
use Rattle.outline.specs.Run.{is_unread}
use Rattle.outline.proofs.end_input.Goals as goal

pub returns-then-is_unread : goal.returns-then-is_unread
returns-then-is_unread c = closes_unread (is_unread c.args.i.state) (sym c.is_unread.ensures ∙ c.if-is_unread.true)

pub returns : goal.returns
returns c = closes_read (is_unread c.args.i.state) (sym c.is_unread.ensures ∙ c.if-is_unread.false) c.finish.ensures
