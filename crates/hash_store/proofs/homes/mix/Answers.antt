use Rattle.std.proofs.Common.{refl}
use Rattle.hash_store.specs.Cells.{folded, mixed}
use Rattle.hash_store.proofs.homes.mix.Goals as goal

pub returns : goal.returns
unfolding folded mixed
returns c = refl
