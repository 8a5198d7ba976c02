-- The digits of a reason.
use Rattle.std.proofs.Common.{◌≡◌, ℕ, zero, suc, ◌+◌, ◌-◌, ◌<◌, ◌≤◌, ◌⊎◌, List, [], ◌∷◌, length, get_or, Some, None, decimal, Option, sym, refl, ap, ◌∙◌, inl, inr, arith, MatchOption}
use Rattle.std.specs.Fmt.{digits}
use Rattle.std.proofs.lemmas.Fmt.{decimal_digit}
use Rattle.std.proofs.lemmas.Bool.{cases_lt}
use Rattle.policy.specs.declared.reasons.Reason.{Reason}

pub decimal_teen : (k : ℕ) → k ≤ 5 → decimal (10 + k) ≡ 49 ∷ (48 + k) ∷ []
unfolding digits
decimal_teen zero l = refl
decimal_teen (suc zero) l = refl
decimal_teen (suc (suc zero)) l = refl
decimal_teen (suc (suc (suc zero))) l = refl
decimal_teen (suc (suc (suc (suc zero)))) l = refl
decimal_teen (suc (suc (suc (suc (suc zero))))) l = refl
decimal_teen (suc (suc (suc (suc (suc (suc k)))))) l = absurd (omega arith)

-- One digit, or a 1 and a digit up to 5.
abbrev pub Written : List ℕ → Type 0
Written ds =
    ((length ds ≡ 1) × (48 ≤ get_or ds 0 0) × (get_or ds 0 0 ≤ 57))
    ⊎ ((length ds ≡ 2) × (get_or ds 0 0 ≡ 49) × (48 ≤ get_or ds 1 0) × (get_or ds 1 0 ≤ 53))

written_small : (n : ℕ) (ds : List ℕ) → n < 10 → decimal n ≡ ds → Written ds
written_small n ds l e =
    let is : (48 + n) ∷ [] ≡ ds = sym (decimal_digit n l) ∙ e in
    inl (sym (ap length is), omega (arith, ap (λ xs. get_or xs 0 0) is), omega (arith, ap (λ xs. get_or xs 0 0) is))

written_large : (k : ℕ) (ds : List ℕ) → k ≤ 5 → decimal (10 + k) ≡ ds → Written ds
written_large k ds l e =
    let is : 49 ∷ (48 + k) ∷ [] ≡ ds = sym (decimal_teen k l) ∙ e in
    inr (sym (ap length is), sym (ap (λ xs. get_or xs 0 0) is), omega (arith, ap (λ xs. get_or xs 1 0) is), omega (arith, ap (λ xs. get_or xs 1 0) is))

pub written : (reason : Reason) (ds : List ℕ) → decimal reason.n ≡ ds → Written ds
written reason ds e =
    elim (cases_lt reason.n 10) [
      | inl l ↦ written_small reason.n ds l e
      | inr l ↦
          let split : 10 + (reason.n - 10) ≡ reason.n = omega arith in
          written_large (reason.n - 10) ds (omega (arith, reason.small)) (ap decimal split ∙ e)
    ]

pub one_digit : (ds : List ℕ) (n : ℕ) → n < 10 → length ds ≡ 1 → get_or ds 0 0 ≡ 48 + n → decimal n ≡ ds
one_digit [] n l e is = absurd (omega arith)
one_digit (x ∷ []) n l e is = decimal_digit n l ∙ ap (λ y. y ∷ []) (sym is)
one_digit (x ∷ y ∷ ds) n l e is = absurd (omega arith)

pub two_digits : (ds : List ℕ) (k : ℕ) → k ≤ 5 → length ds ≡ 2 → get_or ds 0 0 ≡ 49 → get_or ds 1 0 ≡ 48 + k → decimal (10 + k) ≡ ds
two_digits [] k l e is also = absurd (omega arith)
two_digits (x ∷ []) k l e is also = absurd (omega arith)
two_digits (x ∷ y ∷ []) k l e is also = let teen = decimal_teen k l in cc
two_digits (x ∷ y ∷ z ∷ ds) k l e is also = absurd (omega arith)

-- The reason of a number that the digits write.
pub reason_found : (o : Option Reason) (n : ℕ) (ds : List ℕ) → n ≤ 15 → decimal n ≡ ds → MatchOption o (15 < n) (λ r. r.n ≡ n)
    → MatchOption o ((reason : Reason) → decimal reason.n ≡ ds → ⊥) (λ reason. decimal reason.n ≡ ds)
reason_found None n ds l e new = absurd (omega arith)
reason_found (Some r) n ds l e new = ap decimal new ∙ e
