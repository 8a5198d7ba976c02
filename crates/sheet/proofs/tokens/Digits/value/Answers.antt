use Rattle.std.proofs.Common.{arith}
use Rattle.sheet.proofs.Taking.{number_step}
use Rattle.sheet.proofs.tokens.Digits.value.Goals as goal

pub overflow_mul-n : goal.overflow_mul-n
overflow_mul-n c =
    let s = number_step c.args.self.now.bytes.now c.loop-b.b-index c.args.self.now.few c.args.self.now.all c.loop-b-test.true in
    omega arith

pub overflow_add-n : goal.overflow_add-n
overflow_add-n c =
    let s = number_step c.args.self.now.bytes.now c.loop-b.b-index c.args.self.now.few c.args.self.now.all c.loop-b-test.true in
    omega arith

pub loop-b-preserved : goal.loop-b-preserved
loop-b-preserved c =
    let s = number_step c.args.self.now.bytes.now c.loop-b.b-index c.args.self.now.few c.args.self.now.all c.loop-b-test.true in
    omega arith
