use Rattle.std.proofs.Common.{◌≡◌, ℕ, ◌<◌, false}
use Rattle.policy.specs.Rules.{meets, rule_at}
use Rattle.policy.proofs.plain.first_rule.Given as goal

-- No rule before this one is met.
abbrev pub invariant-loop-i : goal.invariant-loop-i
invariant-loop-i g l = (j : ℕ) → j < l.i → meets (rule_at l.rules j) l.header.numbers ≡ false
