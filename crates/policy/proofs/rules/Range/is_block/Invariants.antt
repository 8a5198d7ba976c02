use Rattle.std.proofs.Common.{ℕ, ◌<◌}
use Rattle.policy.specs.Shapes.{BlockOf}
use Rattle.policy.proofs.rules.Range.is_block.Given as goal

-- The range is no block of a shorter length.
abbrev pub invariant-loop-n : goal.invariant-loop-n
invariant-loop-n l = (k : ℕ) → k < l.n → BlockOf l.width l.self.low l.self.high k → ⊥
