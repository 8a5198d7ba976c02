use Rattle.chain.proofs.Packed.{same_longest}
use Rattle.chain.proofs.laws.masks_do.Goals as goal

pub returns : goal.returns
returns c = same_longest
