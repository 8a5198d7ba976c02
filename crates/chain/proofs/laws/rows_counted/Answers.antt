use Rattle.chain.proofs.Counting.{counts}
use Rattle.chain.proofs.laws.rows_counted.Goals as goal

pub returns : goal.returns
returns c = counts
