-- Keys and masks as bits.
use Rattle.std.proofs.Common.{◌≡◌, ℕ, zero, suc, ◌+◌, ◌-◌, ◌*◌, ◌/◌, ◌%◌, ◌^◌, ◌<◌, true, false, cond, eqb, Some, sym, refl, ap, ◌∙◌, arith}
use lib.Bits.{bit_or, bit_and, or_shifted}
use Rattle.std.proofs.lemmas.Bool.{eq-eqb, ne_eqb}
use Rattle.diagram.specs.Keys.{key}
use Rattle.chain.specs.Masks.{longest_in, SameLongest}
use Rattle.diagram.specs.Masks.{bit}
use Rattle.diagram.proofs.Masking.{bit_of}
use Rattle.chain.specs.Looks.{longest}

pub packed : (s l k n v : ℕ) → s < 256 → l < 256 → k < 256 → n < 256 → v < 2 ^ 32
    → bit_or (bit_or (bit_or (bit_or (s * 2 ^ 56) (l * 2 ^ 48)) (k * 2 ^ 40)) (n * 2 ^ 32)) v ≡ key s l k (record { len = n; value = v })
packed s l k n v a b c d e =
    let e1 : bit_or (s * 2 ^ 56) (l * 2 ^ 48) ≡ (s * 256 + l) * 2 ^ 48 = or_shifted s 56 (l * 2 ^ 48) (omega arith) ∙ (omega arith) in
    let e2 : bit_or ((s * 256 + l) * 2 ^ 48) (k * 2 ^ 40) ≡ (s * 65536 + (l * 256 + k)) * 2 ^ 40 = or_shifted (s * 256 + l) 48 (k * 2 ^ 40) (omega arith) ∙ (omega arith) in
    let e3 : bit_or ((s * 65536 + (l * 256 + k)) * 2 ^ 40) (n * 2 ^ 32) ≡ (s * 16777216 + (l * 65536 + (k * 256 + n))) * 2 ^ 32
    = or_shifted (s * 65536 + (l * 256 + k)) 40 (n * 2 ^ 32) (omega arith) ∙ (omega arith) in
    ap (λ z. bit_or (bit_or (bit_or z (k * 2 ^ 40)) (n * 2 ^ 32)) v) e1
    ∙ ap (λ z. bit_or (bit_or z (n * 2 ^ 32)) v) e2
    ∙ ap (λ z. bit_or z v) e3
    ∙ or_shifted (s * 16777216 + (l * 65536 + (k * 256 + n))) 32 v e
    ∙ (omega arith)

pub longest_here : (mask n : ℕ) → 0 < n → bit_and (mask / 2 ^ (n - 1)) 1 ≡ 1 → longest_in mask n ≡ Some (n - 1)
longest_here mask zero l e = absurd (omega arith)
longest_here mask (suc n) l e =
    let q : suc n - 1 ≡ n = omega arith in
    let t : eqb (mask / 2 ^ n % 2) 1 ≡ true = eq-eqb _ _ (sym (bit_of mask n) ∙ (rw q at e)) in
    rw (t, q) refl

pub longest_lower : (mask n : ℕ) → 0 < n → (bit_and (mask / 2 ^ (n - 1)) 1 ≡ 1 → ⊥) → longest_in mask (n - 1) ≡ longest_in mask n
longest_lower mask zero l e = absurd (omega arith)
longest_lower mask (suc n) l e =
    let q : suc n - 1 ≡ n = omega arith in
    let z : bit_and (mask / 2 ^ n) 1 ≡ 1 → ⊥ = rw q at e in
    let t : eqb (mask / 2 ^ n % 2) 1 ≡ false = ne_eqb _ _ (λ i. z (bit_of mask n ∙ i)) in
    rw (t, q) refl

pub same_longest : SameLongest
same_longest mask occ h zero l = refl
same_longest mask occ h (suc b) l =
    let ih : longest_in mask b ≡ longest occ b = same_longest mask occ h b (omega arith) in
    let e : bit mask b ≡ occ b = h b (omega arith) in
    ap (λ t. cond t (Some b) (longest_in mask b)) e ∙ ap (λ z. cond (occ b) (Some b) z) ih
