use Rattle.chain.proofs.Keyed.{key_injective}
use Rattle.chain.proofs.Chained.{chain_distinct, sides_apart, reduced_sized}
use Rattle.chain.proofs.laws.keys_apart.Goals as goal

pub returns : goal.returns
returns c = record { injective = key_injective; distinct = chain_distinct; sides = sides_apart; sized = reduced_sized }
