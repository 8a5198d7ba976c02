use Rattle.std.proofs.Common.{◌≡◌, ℕ, ◌-◌, ◌*◌, ◌%◌, ◌^◌, ◌<◌, ◌≤◌, Some, sym, ap, ◌∙◌, arith}
use lib.Bits.{bit_and, and_mask}
use Rattle.std.proofs.lemmas.Nat.{one_shl, mod_below}
use lib.Count.{count_leading_zeros}
use Rattle.chain.proofs.Bitwise.{none_below, some_below}
use Rattle.chain.proofs.probe.longest_below.Goals as goal

-- the masked number is the remainder
below : (mask bound : ℕ) → bit_and mask ((1 * 2 ^ bit_and bound 63) % 18446744073709551616 - 1) ≡ mask % 2 ^ (bound % 64)
below mask bound =
    let six : bit_and bound 63 ≡ bound % 64 = and_mask bound 6 in
    let one : (1 * 2 ^ (bound % 64)) % 2 ^ 64 ≡ 2 ^ (bound % 64) = one_shl (bound % 64) 64 (mod_below bound 64 (omega arith)) in
    ap (λ k. bit_and mask ((1 * 2 ^ k) % 18446744073709551616 - 1)) six ∙ ap (λ z. bit_and mask (z - 1)) one ∙ and_mask mask (bound % 64)

pub returns-then-below-eq0 : goal.returns-then-below-eq0
returns-then-below-eq0 c =
    sym (none_below c.args.mask (c.args.bound % 64) (sym (below c.args.mask c.args.bound) ∙ c.if-below-eq0.true))

pub returns-else-below-eq0 : goal.returns-else-below-eq0
returns-else-below-eq0 c =
    let e = below c.args.mask c.args.bound in
    let inside : c.args.bound % 64 ≤ 63 = omega (arith, mod_below c.args.bound 64 (omega arith)) in
    let some : 0 < c.args.mask % 2 ^ (c.args.bound % 64) = omega (arith, e, c.if-below-eq0.false) in
    ap (λ z. Some (63 - count_leading_zeros 64 z)) e ∙ sym (some_below c.args.mask (c.args.bound % 64) inside some)
