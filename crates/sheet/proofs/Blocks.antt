-- A block ends within 32 bits.
use Rattle.std.proofs.Common.{◌≡◌, ℕ, ◌+◌, ◌-◌, ◌*◌, ◌/◌, ◌%◌, ◌^◌, ◌<◌, ◌≤◌, sym, ap, ◌∙◌, subst, mod-eq_of_lt, mul_comm, mul-le-mul_left, mul-suc, arith, pow_mono, pow-add, shr_lt}
use Rattle.std.proofs.Math.Nat.{div-add-mod}

pub block_top : (low k : ℕ) → k ≤ 32 → low < 2 ^ 32 → low % 2 ^ k ≡ 0 → low + 2 ^ k ≤ 2 ^ 32
block_top low k h small e =
    let s : (32 - k) + k ≡ 32 = omega arith in
    let t : low < 2 ^ ((32 - k) + k) = subst (λ (x : ℕ). low < 2 ^ x) (sym s) small in
    let q : low / 2 ^ k < 2 ^ (32 - k) = shr_lt (32 - k) k t in
    let m = mul-le-mul_left (2 ^ k) q in
    let d = div-add-mod low (2 ^ k) in
    let u = mul-suc (2 ^ k) (low / 2 ^ k) in
    let w = mul_comm (2 ^ k) (2 ^ (32 - k)) ∙ sym (pow-add 2 (32 - k) k) ∙ ap (λ (x : ℕ). 2 ^ x) s in
    omega (arith, m, d, u, w, e)

pub shifted : (k : ℕ) → k ≤ 32 → (1 * 2 ^ k) % 18446744073709551616 ≡ 2 ^ k
shifted k h =
    let m : 2 ^ k ≤ 2 ^ 32 = pow_mono h in
    let e : 1 * 2 ^ k ≡ 2 ^ k = omega arith in
    rw e (mod-eq_of_lt (omega arith))
