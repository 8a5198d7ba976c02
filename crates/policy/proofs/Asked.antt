-- From the questions about a list to the further questions of a call.
use Rattle.std.proofs.Common.{◌≡◌, ℕ, ◌≤◌, List, length, Some, None, Option, inl, inr, arith}
use Rattle.questions.specs.Asking.{accept}
use Rattle.policy.specs.declared.rules.Rule.{Rule}
use Rattle.policy.specs.Shapes.{AllGood}
use Rattle.policy.specs.Refusals.{list_asks}

-- Two cases that are never the same.
pub refused_is_not_accepted : (n : ℕ) → Some n ≡ None → ⊥
refused_is_not_accepted n e = let wrong : ◌≡◌ {A = ℕ} 0 1 = cc in omega arith

pub accepted_is_not_refused : (n : ℕ) → None ≡ Some n → ⊥
accepted_is_not_refused n e = let wrong : ◌≡◌ {A = ℕ} 0 1 = cc in omega arith

-- A list that is not refused has at most 64 rules, all good.
pub list_accepted : (coded : ℕ → Type 0) (rules : List Rule) → list_asks coded rules accept None → (length rules ≤ 64) × AllGood coded rules
list_accepted coded rules (inl (few, inl (good, e))) = (few, good)
list_accepted coded rules (inl (few, inr (bad, e))) = absurd (accepted_is_not_refused 9 e)
list_accepted coded rules (inr (many, e)) = absurd (accepted_is_not_refused 8 e)

-- A call that asks more is refused with the list's number.
pub list_refused : (coded : ℕ → Type 0) (rules : List Rule) (further : Option ℕ → Type 0) (n : ℕ)
    → list_asks coded rules accept (Some n) → list_asks coded rules further (Some n)
list_refused coded rules further n (inl (few, inl (good, e))) = absurd (refused_is_not_accepted n e)
list_refused coded rules further n (inl (few, inr refused)) = inl (few, inr refused)
list_refused coded rules further n (inr refused) = inr refused

-- A call on a list that is not refused comes to its further questions.
pub list_passed : (coded : ℕ → Type 0) (rules : List Rule) (further : Option ℕ → Type 0) (refused : Option ℕ)
    → list_asks coded rules accept None → further refused → list_asks coded rules further refused
list_passed coded rules further refused asked rest =
    let passed = list_accepted coded rules asked in inl (passed.0, inl (passed.1, rest))
