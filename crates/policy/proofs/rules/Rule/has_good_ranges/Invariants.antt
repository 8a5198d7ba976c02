use Rattle.std.proofs.Common.{ℕ, ◌<◌, get_or}
use Rattle.policy.specs.declared.shapes.Shape.TheVariants.{Block}
use Rattle.policy.specs.Fields.{widths}
use Rattle.policy.specs.Shapes.{shapes, GoodRange}
use Rattle.policy.proofs.rules.Rule.has_good_ranges.Given as goal

-- Each range before this field is good.
abbrev pub invariant-loop-field : goal.invariant-loop-field
invariant-loop-field l =
    (k : ℕ) → k < l.field → GoodRange (get_or widths k 0) (get_or shapes k Block) (get_or l.self.ranges k (record { low = 0; high = 0 }))
