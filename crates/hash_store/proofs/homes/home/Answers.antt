use Rattle.std.proofs.Common.{◌%◌, ap, mod-lt}
use Rattle.hash_store.specs.Cells.{home_of}
use Rattle.hash_store.proofs.homes.home.Goals as goal

pub returns : goal.returns
unfolding home_of
returns c = record { home = ap (λ x. x % c.args.m) c.mix.ensures; below = mod-lt c.mix.result c.requires.some }
