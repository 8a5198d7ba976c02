-- When a header meets a rule, field by field.
use Rattle.std.proofs.Common.{◌≡◌, ℕ, zero, suc, ◌+◌, ◌<◌, ◌≤◌, Bool, true, false, ◌&&◌, List, [], ◌∷◌, ◌++◌, length, get_or, drop, sym, refl, ap, ◌∙◌, add-zero, zero-add, add-one, arith}
use Rattle.std.proofs.lemmas.List.{drop_more, drop_all}
use Rattle.policy.specs.declared.rules.Range.{Range}
use Rattle.policy.specs.declared.rules.Rule.{Rule}
use Rattle.policy.specs.Rules.{lies, lies_at, admits, meets_from, meets}

-- The range at a place within the list, at any default.
pub lies_there : (ranges : List Range) (k x : ℕ) (d : Range) → k < length ranges → lies_at ranges k x ≡ lies (get_or ranges k d) x
lies_there [] k x d l = absurd (omega arith)
lies_there (r ∷ ranges) zero x d l = refl
lies_there (r ∷ ranges) (suc k) x d l = lies_there ranges k x d (omega arith)

pub lies_past : (ranges : List Range) (k x : ℕ) → length ranges ≤ k → lies_at ranges k x ≡ false
lies_past [] k x l = refl
lies_past (r ∷ ranges) zero x l = absurd (omega arith)
lies_past (r ∷ ranges) (suc k) x l = lies_past ranges k x (omega arith)

and_assoc : (a b c : Bool) → (a && (b && c)) ≡ ((a && b) && c)
and_assoc true b c = refl
and_assoc false b c = refl

-- The numbers of a header in two parts.
pub meets_append : (rule : Rule) (field : ℕ) (p q : List ℕ)
    → meets_from rule field (p ++ q) ≡ (meets_from rule field p && meets_from rule (field + length p) q)
meets_append rule field [] q = ap (λ k. meets_from rule k q) (sym (add-zero field))
meets_append rule field (x ∷ p) q =
    let e : suc field + length p ≡ field + suc (length p) = omega arith in
    ap (λ b. admits rule field x && b) (meets_append rule (suc field) p q ∙ ap (λ k. meets_from rule (suc field) p && meets_from rule k q) e)
    ∙ and_assoc (admits rule field x) (meets_from rule (suc field) p) (meets_from rule (field + suc (length p)) q)

-- The numbers before a field, the field's number, and the numbers after it.
pub meets_split : (rule : Rule) (p : List ℕ) (x : ℕ) (h : List ℕ)
    → meets rule (p ++ x ∷ h) ≡ (meets rule p && (admits rule (length p) x && meets_from rule (suc (length p)) h))
meets_split rule p x h =
    meets_append rule zero p (x ∷ h) ∙ ap (λ k. meets rule p && meets_from rule k (x ∷ h)) (zero-add (length p))

-- The steps of a walk over the fields.
pub meets_more : (rule : Rule) (xs : List ℕ) (i : ℕ) → i < length xs → admits rule i (get_or xs i 0) ≡ true
    → meets_from rule (i + 1) (drop (i + 1) xs) ≡ meets_from rule i (drop i xs)
meets_more rule xs i l e =
    sym (ap (λ ys. meets_from rule i ys) (drop_more xs i 0 l) ∙ ap (λ b. b && meets_from rule (suc i) (drop (i + 1) xs)) e
    ∙ ap (λ k. meets_from rule k (drop (i + 1) xs)) (sym (add-one i)))

pub meets_stop : (rule : Rule) (xs : List ℕ) (i : ℕ) → i < length xs → admits rule i (get_or xs i 0) ≡ false
    → meets_from rule i (drop i xs) ≡ false
meets_stop rule xs i l e =
    ap (λ ys. meets_from rule i ys) (drop_more xs i 0 l) ∙ ap (λ b. b && meets_from rule (suc i) (drop (i + 1) xs)) e

pub meets_all : (rule : Rule) (xs : List ℕ) (i : ℕ) → length xs ≤ i → meets_from rule i (drop i xs) ≡ true
meets_all rule xs i l = ap (λ ys. meets_from rule i ys) (drop_all i xs l)
