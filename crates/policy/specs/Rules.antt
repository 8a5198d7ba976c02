-- Rules, and the first rule that a header meets.
use Rattle.std.specs.Prelude.{◌≡◌, ℕ, zero, suc, ◌<◌, Bool, true, false, cond, ◌&&◌, List, [], ◌∷◌, length, Some, None, Option, nat_le, slice_index_or}
use Rattle.policy.specs.declared.rules.Range.{Range}
use Rattle.policy.specs.declared.rules.Rule.{Rule}

-- A value lies in a range, both ends included.
abbrev pub lies : Range → ℕ → Bool
lies range x = nat_le range.low x && nat_le x range.high

-- A value lies in the range at a place of a list; past the list it lies in none.
abbrev pub lies_at : List Range → ℕ → ℕ → Bool
lies_at [] place x = false
lies_at (range ∷ ranges) zero x = lies range x
lies_at (range ∷ ranges) (suc place) x = lies_at ranges place x

-- The rule takes this value of this field; fields count from 0.
abbrev pub admits : Rule → ℕ → ℕ → Bool
admits rule field x = lies_at rule.ranges field x

-- The rule takes each of the numbers, the first of them as a value of the given field, and so on.
abbrev pub meets_from : Rule → ℕ → List ℕ → Bool
meets_from rule field [] = true
meets_from rule field (x ∷ xs) = admits rule field x && meets_from rule (suc field) xs

-- A header meets a rule when the rule takes each of its numbers.
abbrev pub meets : Rule → List ℕ → Bool
meets rule numbers = meets_from rule zero numbers

-- What stands for a rule past the end of a list.
abbrev pub blank : Rule
blank = record { ranges = []; code = 0 }

-- Rule i of a list.
abbrev pub rule_at : List Rule → ℕ → Rule
rule_at rules i = slice_index_or rules i blank

-- Rule i is the first one that the header meets.
pub record FirstMet (rules : List Rule) (numbers : List ℕ) (i : ℕ) : Type 0 where
  pub within : i < length rules
  pub met : meets (rule_at rules i) numbers ≡ true
  pub before : (j : ℕ) → j < i → meets (rule_at rules j) numbers ≡ false

-- No rule is met.
abbrev pub NoneMet : List Rule → List ℕ → Type 0
NoneMet rules numbers = (j : ℕ) → j < length rules → meets (rule_at rules j) numbers ≡ false

-- Some rule is met.
abbrev pub SomeMet : List Rule → List ℕ → Type 0
SomeMet rules numbers = (i : ℕ) × (i < length rules) × (meets (rule_at rules i) numbers ≡ true)

-- The rule after this one, counted in the longer list.
abbrev pub one_later : Option ℕ → Option ℕ
one_later None = None
one_later (Some i) = Some (suc i)

-- The first rule met, computed.
abbrev pub first : List Rule → List ℕ → Option ℕ
first [] numbers = None
first (rule ∷ rules) numbers = cond (meets rule numbers) (Some 0) (one_later (first rules numbers))

-- The code of the first rule met.
abbrev pub decide : List Rule → List ℕ → Option ℕ
decide [] numbers = None
decide (rule ∷ rules) numbers = cond (meets rule numbers) (Some rule.code) (decide rules numbers)

-- The computed first rule is the first rule met, and there is only one.
pub record FirstTold : Type 0 where
  pub found : (rules : List Rule) (h : List ℕ) (i : ℕ) → first rules h ≡ Some i → FirstMet rules h i
  pub computed : (rules : List Rule) (h : List ℕ) (i : ℕ) → FirstMet rules h i → first rules h ≡ Some i
  pub missed : (rules : List Rule) (h : List ℕ) → first rules h ≡ None → NoneMet rules h
  pub empty : (rules : List Rule) (h : List ℕ) → NoneMet rules h → first rules h ≡ None
  pub decided : (rules : List Rule) (h : List ℕ) (i : ℕ) → FirstMet rules h i → decide rules h ≡ Some (rule_at rules i).code
  pub undecided : (rules : List Rule) (h : List ℕ) → NoneMet rules h → decide rules h ≡ None
  pub single : (rules : List Rule) (h : List ℕ) (i j : ℕ) → FirstMet rules h i → FirstMet rules h j → i ≡ j
