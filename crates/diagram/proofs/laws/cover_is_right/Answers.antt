use Rattle.diagram.proofs.Covers.{cover_covers}
use Rattle.diagram.proofs.laws.cover_is_right.Goals as goal

pub returns : goal.returns
returns c = cover_covers
