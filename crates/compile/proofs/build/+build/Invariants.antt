use Rattle.std.proofs.Common.{◌+◌, ◌-◌, ◌≤◌}
use Rattle.compile.proofs.Turns.{Turn}
use Rattle.compile.specs.Vectors.{items}
use Rattle.compile.proofs.build.+build.Given as goal

abbrev pub decreases-build : goal.decreases-build
decreases-build l = 5 - l.rest.field

abbrev pub invariant-loop-low : goal.invariant-loop-low
invariant-loop-low l = (l.low ≤ l.top + 1)
    × Turn l.lives.rules.now l.header l.rest.field l.initial.levels l.levels l.known l.low (items l.draft)

abbrev pub decreases-loop-low : goal.decreases-loop-low
decreases-loop-low l = l.top + 1 - l.low
