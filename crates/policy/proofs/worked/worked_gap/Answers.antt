use Rattle.std.proofs.Common.{rules}
use Rattle.policy.proofs.Examples.{gap_answer}
use Rattle.policy.proofs.worked.worked_gap.Goals as goal

pub returns : goal.returns
returns c = gap_answer _ _ c.first_rule.result (search rules) (search rules) c.first_rule.ensures.asked
