use Rattle.std.proofs.Common.{get_or, sym, arith, below_more}
use Rattle.compile.specs.Lives.{no_rule}
use Rattle.compile.proofs.Lacking.{shade, targets_differ}
use Rattle.compile.proofs.lives.Lives.shadows.Goals as goal

pub returns-then-has-2 : goal.returns-then-has-2
returns-then-has-2 c = λ e.
    shade c.args.self.now.rules.now c.args.rest.live.bits c.args.rest.field (get_or c.args.self.now.wholes c.args.rest.field no_rule).bits c.loop-i.i c.args.target c.loop-i-test.true (c.args.self.now.whole c.args.rest.field (omega arith))
    (sym c.if-has.ensures) (sym c.if-has-2.ensures)
    (below_more _ _ c.loop-i.invariant (targets_differ _ _ c.if-eq.ensures))
