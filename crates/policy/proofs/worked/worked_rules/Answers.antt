use Rattle.policy.proofs.Examples.{worked}
use Rattle.policy.proofs.worked.worked_rules.Goals as goal

pub returns : goal.returns
returns c = record { rules = cc; worked = worked }
