-- `obeying::start` meets its contract: before the first line nothing was lent. Assumes nothing.
use mathlib.Core.Path.{refl, ◌∙◌}
use mathlib.Core.Logic.{inl}
use Rattle.obeying.proofs.Laws.{starts}
use Rattle.obeying.proofs.start.Goals as goal

pub part-requires : goal.part-requires
part-requires c = (c.requires, inl refl)

pub returns : goal.returns
returns c = ((λ log out. c.part.ensures.0 log out ∙ starts _ refl), c.part.ensures.1 ∙ c.nothing.ensures)
