use Rattle.std.proofs.Common.{◌≡◌, ℕ, ◌≤◌, length, get_or}
use Rattle.compile.specs.Lives.{Whole, no_rule}
use Rattle.compile.proofs.lives.Lives.new.Given as goal

abbrev pub invariant-loop-field : goal.invariant-loop-field
invariant-loop-field l = (length l.wholes ≡ 6) × (l.field ≤ 5) × ((f : ℕ) → l.field ≤ f → f ≤ 5 → Whole l.rules f (get_or l.wholes f no_rule).bits)

abbrev pub decreases-loop-field : goal.decreases-loop-field
decreases-loop-field l = l.field
