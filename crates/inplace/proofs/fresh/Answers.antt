-- `inplace::fresh` meets its contract: what `chip::fresh` leaves is stored.
-- Assumes nothing.
use borrow.Author.Rules.{rules}
use Rattle.state.specs.Whole.{Whole}
use Rattle.inplace.proofs.Kept.{met_fresh}
use Rattle.inplace.proofs.fresh.Goals as goal

pub returns : goal.returns
returns c =
    let whole : Whole c.fresh.result.chip =
    record {
      registers = record { protection = search rules; lockdown = search rules; user = search rules; factory = search rules };
      buffer1 = search rules;
      buffer2 = search rules;
    }
    in
    met_fresh c.args.block.now c.args.factory.now c.args.array.now whole c.fresh.ensures c.store.ensures.0 c.store.ensures.1
