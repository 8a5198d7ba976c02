use Rattle.std.proofs.Common.{◌≡◌, ◌≤◌}
use Rattle.diagram.specs.Blocks.{largest}
use Rattle.compile.proofs.blocks.largest_exponent.Given as goal

abbrev pub invariant-loop-e : goal.invariant-loop-e
invariant-loop-e l = (l.e ≤ l.width) × (largest l.low l.high l.e ≡ largest l.low l.high l.width)
