use Rattle.std.proofs.Common.{ℕ, ◌<◌}
use Rattle.policy.specs.Rules.{rule_at}
use Rattle.policy.specs.Shapes.{Good, Coded}
use Rattle.policy.proofs.plain.check_list.Given as goal

-- Each rule before this one is good.
abbrev pub invariant-loop-i : goal.invariant-loop-i
invariant-loop-i g l = (j : ℕ) → j < l.i → Good (Coded g.K.Kind.of_code) (rule_at l.rules j)
