use Rattle.std.proofs.Common.{◌+◌, get_or, sym, arith}
use Rattle.compile.specs.Lives.{no_rule}
use Rattle.compile.proofs.Living.{looked_more, cut_all, cut_whole}
use Rattle.compile.proofs.lives.Lives.cut.Goals as goal

pub returns-then-has-2 : goal.returns-then-has-2
returns-then-has-2 c =
    let N = c.narrow-piece.ensures in
    cut_whole c.args.self.now.rules.now c.args.rest.live.bits c.args.rest.field c.args.low c.args.top c.loop-i.i (get_or c.args.self.now.wholes (c.args.rest.field + 1) no_rule).bits c.narrow-piece.result
    N.ahead (omega (arith, N.within, c.loop-i.invariant.1)) c.loop-i-test.true (c.args.self.now.whole (c.args.rest.field + 1) (omega arith)) (sym c.if-has.ensures) (sym c.if-has-2.ensures)
    (looked_more c.args.self.now.rules.now c.args.rest.live.bits c.args.rest.field c.args.low c.loop-i.i c.loop-i.piece c.narrow-piece.result c.loop-i.invariant.2 N)

pub returns : goal.returns
returns c =
    cut_all c.args.self.now.rules.now c.args.rest.live.bits c.args.rest.field c.args.low c.args.top c.loop-i.i c.loop-i.piece
    c.loop-i.invariant.0 c.loop-i.invariant.1 c.loop-i-test.false c.loop-i.invariant.2
