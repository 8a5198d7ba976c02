use Rattle.std.proofs.Common.{refl}
use Rattle.chain.proofs.Looking.{look_up}
use Rattle.chain.proofs.laws.look_up_goes.Goals as goal

pub returns : goal.returns
returns c = record { steps = look_up; most = refl; worked = record { first = refl; second = refl; third = refl; codes = refl } }
