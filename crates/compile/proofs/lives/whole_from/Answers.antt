use Rattle.std.proofs.Common.{◌≡◌, length, subst, arith}
use Rattle.compile.specs.Lives.{Covering}
use Rattle.compile.proofs.Living.{whole_all}
use Rattle.compile.proofs.lives.whole_from.Goals as goal

pub returns : goal.returns
returns c =
    let e : c.loop-i.i ≡ length c.args.rules.now = omega arith in
    whole_all c.args.rules.now c.args.field c.args.after.bits c.loop-i.set.bits c.requires.field c.requires.after
    (subst (λ n. Covering c.args.rules.now c.args.field c.args.after.bits n c.loop-i.set.bits) e c.loop-i.invariant)
