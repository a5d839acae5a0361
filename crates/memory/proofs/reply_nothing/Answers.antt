-- `memory::reply_nothing` meets its contract: a reply with no data is FFh throughout, whatever its lead. Assumes nothing.
use mathlib.Core.Path.{sym, ◌∙◌}
use lib.ListN.{length}
use Rattle.memory.proofs.Replies.{replied_nothing}
use Rattle.memory.proofs.reply_nothing.Goals as goal

pub returns : goal.returns
returns c = c.fill.ensures ∙ sym (replied_nothing (length c.args.reply.now) c.args.lead)
