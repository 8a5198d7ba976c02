use Rattle.std.proofs.Common.{◌+◌, ◌-◌, ◌≤◌}
use Rattle.compile.specs.Gaps.{NoneBelow, Excludes}
use Rattle.compile.proofs.gaps.+least.Given as goal

abbrev pub decreases-least : goal.decreases-least
decreases-least l = 5 - l.rest.field

abbrev pub invariant-loop-low : goal.invariant-loop-low
invariant-loop-low l = (l.low ≤ l.top + 1) × NoneBelow l.lives.rules.now l.rest.live.bits l.rest.field l.target l.low × Excludes l.lives.rules.now l.target l.known

abbrev pub decreases-loop-low : goal.decreases-loop-low
decreases-loop-low l = l.top + 1 - l.low
