-- A number in decimal is a token.
use Rattle.std.proofs.Common.{◌≡◌, ℕ, suc, ◌+◌, ◌<◌, Bool, true, false, cond, eqb, List, [], ◌∷◌, ◌++◌, length, get_or, take, drop, Some, None, decimal, sym, refl, ap, ◌∙◌, inl, inr, arith, one-add}
use Rattle.std.specs.Str.Parse.{AllDigits}
use Rattle.std.specs.Char.{digit_value}
use Rattle.std.proofs.lemmas.Bool.{le-leb, and_from, or_left, or_right, ne_eqb, not_from_false, cases_lt, eq-eqb}
use Rattle.std.proofs.lemmas.Bool.Decides.{nat_tests}
use Rattle.std.proofs.lemmas.Fmt.{decimal_is_IsNumeral, length-decimal-le, first_decimal, decimal_digit}
use Rattle.std.proofs.lemmas.List.{take_at, drop-drop, drop_at}
use Rattle.std.specs.List.{prefix_len}
use Rattle.sheet.specs.Tokens.{is_digit, token, number, number_if_made, well_made, digits_of}
use Rattle.sheet.proofs.Taking.{token_number}

is_digit_from : (b : ℕ) → digit_value b < 10 → is_digit b ≡ true
is_digit_from b h = grind (arith, nat_tests)

run_over : (ds rest : List ℕ) → AllDigits 10 ds → is_digit (get_or rest 0 0) ≡ false → prefix_len is_digit (ds ++ rest) ≡ length ds
run_over [] [] h e = refl
run_over [] (b ∷ bs) h e = rw e
run_over (d ∷ ds) rest h e = rw (is_digit_from d h.0, one-add) (ap suc (run_over ds rest h.1 e))

pub token_digits : (ds rest : List ℕ) → AllDigits 10 ds → 0 < length ds → well_made ds ≡ true → is_digit (get_or rest 0 0) ≡ false → token (ds ++ rest) ≡ Some (number ds)
token_digits [] rest h some w e = absurd (omega arith)
token_digits (d ∷ ds) rest h some w e =
    let q : digits_of ((d ∷ ds) ++ rest) ≡ d ∷ ds = ap (λ (k : ℕ). take k ((d ∷ ds) ++ rest)) (run_over (d ∷ ds) rest h e) ∙ take_at (d ∷ ds) rest (length (d ∷ ds)) refl in
    token_number ((d ∷ ds) ++ rest) (is_digit_from d h.0) ∙ ap number_if_made q ∙ ap (λ (v : Bool). cond v (Some (number (d ∷ ds))) None) w

pub decimal_made : (n : ℕ) → n < 100000 → well_made (decimal n) ≡ true
decimal_made n h = and_from _ _ (le-leb _ _ (length-decimal-le 5 n (omega arith) (omega arith) (omega arith)))
    (elim (cases_lt n 1) [
      | inl z ↦ or_left _ _ (eq-eqb _ _ (ap length (decimal_digit n (omega arith))))
      | inr z ↦ or_right _ _ (not_from_false (eqb (get_or (decimal n) 0 0) 48) (ne_eqb (get_or (decimal n) 0 0) 48 (λ q. omega (arith, first_decimal n (omega arith) (omega arith), q))))
    ])

pub token_decimal : (n : ℕ) (rest : List ℕ) → n < 100000 → is_digit (get_or rest 0 0) ≡ false → token (decimal n ++ rest) ≡ Some (number (decimal n))
token_decimal n rest h e =
    let r = decimal_is_IsNumeral n (omega arith) in
    token_digits (decimal n) rest r.0.1 r.0.0 (decimal_made n h) e

pub past : (s text rest : List ℕ) (at : ℕ) → drop at s ≡ text ++ rest → drop (at + length text) s ≡ rest
past s text rest at e = sym (drop-drop (length text) at s) ∙ ap (drop (length text)) e ∙ drop_at text rest (length text) refl
