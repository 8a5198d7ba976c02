-- How a call comes to its refusal. A list of questions is a predicate on the number that the call is
-- refused with, `None` where it is not refused.
use Rattle.std.specs.Prelude.{◌≡◌, ℕ, ◌⊎◌, Some, None, Ok, Err, Option, Result}
use Rattle.std.proofs.Common.{⊎_elim, arith}

-- Question n asks whether Q holds: where it does, the further questions are asked, and where it does
-- not, the call is refused with n.
abbrev pub ask : ℕ → Type 0 → (Option ℕ → Type 0) → Option ℕ → Type 0
ask n Q further refused = (Q × further refused) ⊎ ((Q → ⊥) × (refused ≡ Some n))

-- All questions were answered yes: the call is not refused.
abbrev pub accept : Option ℕ → Type 0
accept refused = refused ≡ None

-- The number that a result is refused with, where `number` gives each refusal its number.
abbrev pub refusal : {T E : Type 0} → (E → ℕ) → Result T E → Option ℕ
refusal number (Ok x) = None
refusal number (Err e) = Some (number e)

-- Where a call is not refused, a question that it asks is answered yes.
pub asked_yes : {Yes No : Type 0} {n : ℕ} → Yes ⊎ (No × (◌≡◌ {A = Option ℕ} None (Some n))) → Yes
asked_yes a = ⊎_elim (λ yes. yes) (λ refused. let z : ◌≡◌ {A = ℕ} 0 1 = cc refused.1 in absurd (omega arith)) a
