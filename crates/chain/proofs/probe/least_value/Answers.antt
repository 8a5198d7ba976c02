use Rattle.std.proofs.Common.{◌≡◌, ◌-◌, ◌%◌, ◌^◌, ◌≤◌, mod-eq_of_lt, arith, pow_mono, rules}
use Rattle.chain.proofs.probe.least_value.Goals as goal

pub returns-else-free-lt32 : goal.returns-else-free-lt32
returns-else-free-lt32 c =
    let wide : 32 ≤ c.args.width - c.args.length = search rules in
    let large : 2 ^ 32 ≤ 2 ^ (c.args.width - c.args.length) = pow_mono wide in
    let all : c.args.value % 2 ^ (c.args.width - c.args.length) ≡ c.args.value = mod-eq_of_lt (omega arith) in
    omega (arith, all)
