use Rattle.std.proofs.Common.{◌≡◌, drop}
use Rattle.policy.specs.Rules.{meets_from, meets}
use Rattle.policy.proofs.rules.Rule.meets.Given as goal

-- The header meets the rule if the numbers from this field on do.
abbrev pub invariant-loop-field : goal.invariant-loop-field
invariant-loop-field l = meets_from l.self l.field (drop l.field l.header.numbers) ≡ meets l.self l.header.numbers
