use Rattle.chain.proofs.Tiling.{one_row}
use Rattle.chain.proofs.laws.one_row.Goals as goal

pub returns : goal.returns
returns c = one_row
