use Rattle.std.proofs.Common.{◌<◌, length, rules}
use Rattle.compile.proofs.Living.{narrow_above, narrow_below, narrow_in}
use Rattle.compile.proofs.lives.narrow.Goals as goal

pub returns-then-range-low : goal.returns-then-range-low
returns-then-range-low c =
    let lf : c.args.rest.field < length c.args.rule.now.ranges = search rules in
    narrow_above c.args.rule.now c.args.i c.args.rest.live.bits c.args.rest.field c.args.low c.args.piece lf c.requires.ahead c.requires.new c.if-range-low.true

pub returns-then-low-range : goal.returns-then-low-range
returns-then-low-range c =
    let lf : c.args.rest.field < length c.args.rule.now.ranges = search rules in
    narrow_below c.args.rule.now c.args.i c.args.rest.live.bits c.args.rest.field c.args.low c.args.piece lf c.requires.ahead c.requires.new
    c.min.result c.if-low-range.true c.min.ensures

pub returns : goal.returns
returns c =
    let lf : c.args.rest.field < length c.args.rule.now.ranges = search rules in
    narrow_in c.args.rule.now c.args.i c.args.rest.live.bits c.args.rest.field c.args.low c.args.piece lf c.requires.ahead c.requires.new
    c.min-2.result c.with.result c.if-not-has.ensures c.if-range-low.false c.if-low-range.false c.min-2.ensures c.with.ensures
