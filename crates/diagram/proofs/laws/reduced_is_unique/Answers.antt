use Rattle.diagram.proofs.Unique.{determined}
use Rattle.diagram.proofs.laws.reduced_is_unique.Goals as goal

pub returns : goal.returns
returns c = determined
