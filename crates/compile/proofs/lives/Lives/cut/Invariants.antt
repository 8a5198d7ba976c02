use Rattle.std.proofs.Common.{◌≤◌}
use Rattle.compile.specs.Lives.{Looked}
use Rattle.compile.proofs.lives.Lives.cut.Given as goal

abbrev pub invariant-loop-i : goal.invariant-loop-i
invariant-loop-i l = (l.low ≤ l.piece.end) × (l.piece.end ≤ l.top) × Looked l.self.rules.now l.rest.live.bits l.rest.field l.low l.i l.piece
