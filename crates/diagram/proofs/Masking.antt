-- Bits of a number.
use Rattle.std.proofs.Common.{◌≡◌, ℕ, zero, suc, ◌+◌, ◌-◌, ◌*◌, ◌/◌, ◌%◌, ◌^◌, ◌<◌, Bool, true, false, cond, ◌||◌, eqb, sym, refl, ap, ◌∙◌, inl, inr, mul-div_cancel, arith, pow_pos, pow-add}
use native.Mathlib.Nat.{div-eq_of_lt, div_self, mul-mod_left}
use lib.Bits.{bit_or, bit_and, and_mask}
use lib.Pow.{pow-lt}
use Rattle.std.proofs.lemmas.Nat.{or_shr, or_mod}
use Rattle.std.proofs.lemmas.Bool.{cases_order, eq-eqb, ne_eqb}
use Rattle.diagram.specs.Masks.{With}

-- The test of a bit by a shift.
pub bit_of : (mask n : ℕ) → bit_and (mask / 2 ^ n) 1 ≡ mask / 2 ^ n % 2
bit_of mask n = and_mask (mask / 2 ^ n) 1

-- The bits of a power.
pub pow_bit : (k n : ℕ) → 2 ^ k / 2 ^ n % 2 ≡ cond (eqb k n) 1 0
pow_bit k n =
    elim (cases_order k n) [
      | inl e ↦ (let t = eq-eqb k n e in let d : 2 ^ k / 2 ^ n ≡ 1 = ap (λ i. 2 ^ i / 2 ^ n) e ∙ div_self (pow_pos n) in rw t (ap (λ z. z % 2) d))
      | inr o ↦
          elim o [
            | inl l ↦ (let t = ne_eqb k n (λ e. omega arith) in let d : 2 ^ k / 2 ^ n ≡ 0 = div-eq_of_lt (pow-lt l) in rw t (ap (λ z. z % 2) d))
            | inr l ↦
                (let t = ne_eqb k n (λ e. omega arith) in
                let s : (k - n - 1 + 1) + n ≡ k = omega arith in
                let p : 2 ^ k ≡ 2 ^ (k - n - 1 + 1) * 2 ^ n = ap (λ i. 2 ^ i) (sym s) ∙ pow-add 2 (k - n - 1 + 1) n in
                let d : 2 ^ k / 2 ^ n ≡ 2 ^ (k - n - 1) * 2 ^ 1 = ap (λ z. z / 2 ^ n) p ∙ mul-div_cancel (2 ^ (k - n - 1 + 1)) (pow_pos n) ∙ pow-add 2 (k - n - 1) 1 in
                rw t (ap (λ z. z % 2) d ∙ mul-mod_left (2 ^ (k - n - 1)) 2))
          ]
    ]

pub or_bit : (mask k : ℕ) → With mask k (bit_or mask (2 ^ k))
or_bit mask k n =
    let a : bit_or mask (2 ^ k) / 2 ^ n % 2 ≡ bit_or (mask / 2 ^ n % 2) (2 ^ k / 2 ^ n % 2)
    = ap (λ z. z % 2) (or_shr mask (2 ^ k) n) ∙ or_mod (mask / 2 ^ n) (2 ^ k / 2 ^ n) 1 in
    let b : bit_or (mask / 2 ^ n % 2) (2 ^ k / 2 ^ n % 2) ≡ bit_or (mask / 2 ^ n % 2) (cond (eqb k n) 1 0) = ap (λ z. bit_or (mask / 2 ^ n % 2) z) (pow_bit k n) in
    ap (λ z. eqb z 1) (a ∙ b) ∙ go (eqb k n) (mask / 2 ^ n % 2) (omega arith)
  where
    go : (t : Bool) (m : ℕ) → m < 2 → eqb (bit_or m (cond t 1 0)) 1 ≡ (t || eqb m 1)
    go true zero l = refl
    go true (suc zero) l = refl
    go true (suc (suc m)) l = absurd (omega arith)
    go false zero l = refl
    go false (suc zero) l = refl
    go false (suc (suc m)) l = absurd (omega arith)
