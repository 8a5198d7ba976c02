use Rattle.compile.specs.Lives.{Covering}
use Rattle.compile.proofs.lives.whole_from.Given as goal

abbrev pub invariant-loop-i : goal.invariant-loop-i
invariant-loop-i l = Covering l.rules l.field l.after.bits l.i l.set.bits
