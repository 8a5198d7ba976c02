use Rattle.std.proofs.Common.{◌≡◌, ℕ, ◌-◌, ◌%◌, subst, arith}
use Rattle.sheet.proofs.Blocks.{block_top, shifted}
use Rattle.sheet.proofs.addresses.block.Goals as goal

pub overflow_add-result : goal.overflow_add-result
overflow_add-result c =
    let e = shifted (32 - c.args.length) (omega arith) in
    let z = subst (λ (x : ℕ). c.from.result % x ≡ 0) e c.if-from-size-ne0.false in
    let b = block_top c.from.result (32 - c.args.length) (omega arith) (omega arith) z in
    omega (arith, e, b)
