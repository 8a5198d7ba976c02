-- The longest length below a bound, by the bits of a mask.
use Rattle.std.proofs.Common.{◌≡◌, ℕ, zero, suc, ◌+◌, ◌-◌, ◌/◌, ◌%◌, ◌^◌, ◌<◌, ◌≤◌, Bool, true, false, eqb, Some, None, sym, refl, ap, ◌∙◌, subst, inl, inr, arith, pow_pos, pow_mono}
use native.Mathlib.Nat.{div-eq_of_lt}
use lib.Count.{count_leading_zeros, leading_top}
use lib.Pow.{mod-mod-pow}
use Rattle.std.proofs.lemmas.Nat.{field_of, div_below, le-div, mod_below}
use Rattle.std.proofs.lemmas.Bool.{eq-eqb, ne_eqb, cases_order}
use Rattle.diagram.specs.Masks.{bit}
use Rattle.chain.specs.Masks.{longest_in}
use Rattle.chain.specs.Looks.{longest}
use Rattle.chain.proofs.Looking.{longest_some}

-- the bits below a bound are those of the remainder
low_bit : (m b n : ℕ) → n < b → bit (m % 2 ^ b) n ≡ bit m n
low_bit m b n l =
    let e : (b - n - 1 + 1) + n ≡ b = omega arith in
    let f : m % 2 ^ b / 2 ^ n ≡ m / 2 ^ n % 2 ^ (b - n - 1 + 1) = ap (λ i. m % 2 ^ i / 2 ^ n) (sym e) ∙ field_of m (b - n - 1 + 1) n in
    ap (λ z. eqb z 1) (ap (λ z. z % 2) f ∙ mod-mod-pow (m / 2 ^ n) (b - n - 1) 1)

-- the highest bit that is set, and those above it
top_bit : (a j : ℕ) → 2 ^ j ≤ a → a < 2 ^ suc j → bit a j ≡ true
top_bit a j low high =
    let q : a / 2 ^ j ≡ 1 = omega (arith, le-div 1 a (2 ^ j) (pow_pos j) (omega arith), div_below a (2 ^ j) 2 (pow_pos j) (omega arith)) in
    eq-eqb _ _ (ap (λ z. z % 2) q)

above_bit : (a i : ℕ) → a < 2 ^ i → bit a i ≡ false
above_bit a i l = let q : a / 2 ^ i ≡ 0 = div-eq_of_lt l in ne_eqb _ _ (λ e. let z : ◌≡◌ {A = ℕ} 0 1 = sym (ap (λ y. y % 2) q) ∙ e in omega arith)

never : (occ : ℕ → Bool) (b : ℕ) → ((n : ℕ) → n < b → occ n ≡ false) → longest occ b ≡ None
never occ zero no_one = refl
never occ (suc b) no_one = rw (no_one b (omega arith)) (never occ b (λ n l. no_one n (omega arith)))

no_bit : (n : ℕ) → bit 0 n ≡ false
no_bit n = above_bit 0 n (pow_pos n)

differ : (t : Bool) → t ≡ true → t ≡ false → ⊥
differ t p q = let z : ◌≡◌ {A = ℕ} 0 1 = cc in omega arith

pub none_below : (mask b : ℕ) → mask % 2 ^ b ≡ 0 → longest_in mask b ≡ None
none_below mask b e = never (bit mask) b (λ n l. sym (low_bit mask b n l) ∙ ap (λ z. bit z n) e ∙ no_bit n)

pub some_below : (mask b : ℕ) → b ≤ 63 → 0 < mask % 2 ^ b → longest_in mask b ≡ Some (63 - count_leading_zeros 64 (mask % 2 ^ b))
some_below mask b small some =
    let less : mask % 2 ^ b < 2 ^ b = mod_below mask (2 ^ b) (pow_pos b) in
    let low : b ≤ 64 = omega arith in
    let most : 2 ^ b ≤ 2 ^ 64 = pow_mono low in
    let top = leading_top 64 (mask % 2 ^ b) some (omega arith) in
    let j : ℕ = top.0 in
    let at : bit (mask % 2 ^ b) j ≡ true = top_bit (mask % 2 ^ b) j top.2 top.3 in
    let inside : j < b = elim (cases_order b j) [
      | inl e ↦ absurd (let P : ℕ → Type 0 = λ i. mask % 2 ^ b < 2 ^ i in omega (arith, top.2, subst P e less))
      | inr o ↦ elim o [
        | inl l ↦ absurd (let p : 2 ^ b ≤ 2 ^ j = pow_mono (omega arith) in omega (arith, top.2))
        | inr l ↦ l
      ]
    ] in
    let m = longest_some (bit mask) b j inside (sym (low_bit mask b j inside) ∙ at) in
    let same : m.0 ≡ j = elim (cases_order m.0 j) [
      | inl e ↦ e
      | inr o ↦ elim o [
        | inl l ↦ absurd (omega (arith, m.3))
        | inr l ↦ absurd (
            let p : 2 ^ suc j ≤ 2 ^ m.0 = pow_mono (omega arith) in
            differ (bit (mask % 2 ^ b) m.0) (low_bit mask b m.0 m.4 ∙ m.2) (above_bit (mask % 2 ^ b) m.0 (omega (arith, top.3))))
      ]
    ] in
    m.1 ∙ ap Some (omega (arith, same, top.1))
