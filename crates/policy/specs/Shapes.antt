-- Which ranges and rules are good.
use Rattle.std.specs.Prelude.{◌≡◌, ℕ, ◌+◌, ◌-◌, ◌%◌, ◌^◌, ◌<◌, ◌≤◌, true, ◌⊎◌, List, [], ◌∷◌, length, is_some, Option}
use Rattle.policy.specs.declared.rules.Range.{Range}
use Rattle.policy.specs.declared.rules.Rule.{Rule}
use Rattle.policy.specs.declared.shapes.Shape.{Shape}
use Rattle.policy.specs.declared.shapes.Shape.TheVariants.{Block, AnyRange, OneOrAll}
use Rattle.policy.specs.Fields.{widths}
use Rattle.policy.specs.Rules.{rule_at}

-- The shape that the ranges of each field have, in the order of the fields.
abbrev pub shapes : List Shape
shapes = Block ∷ Block ∷ AnyRange ∷ AnyRange ∷ OneOrAll ∷ []

-- The values from low to high are those that share their top n bits, n at most the width.
abbrev pub BlockOf : ℕ → ℕ → ℕ → ℕ → Type 0
BlockOf width low high n = (n ≤ width) × (low % 2 ^ (width - n) ≡ 0) × (high ≡ low + 2 ^ (width - n) - 1)

-- A range has a shape: it is a block; it is any range; it is one value or all values.
abbrev pub Shaped : ℕ → Shape → ℕ → ℕ → Type 0
Shaped width Block low high = (n : ℕ) × BlockOf width low high n
Shaped width AnyRange low high = Unit {0}
Shaped width OneOrAll low high = (low ≡ high) ⊎ ((low ≡ 0) × (high ≡ 2 ^ width - 1))

-- A range is good for a field: its ends fit the width, the low end is not above the high end, and it
-- has the field's shape.
pub record GoodRange (width : ℕ) (shape : Shape) (range : Range) : Type 0 where
  pub low_fits : range.low < 2 ^ width
  pub high_fits : range.high < 2 ^ width
  pub ordered : range.low ≤ range.high
  pub shaped : Shaped width shape range.low range.high

-- There is a good range for each field.
abbrev pub GoodRanges : List ℕ → List Shape → List Range → Type 0
GoodRanges [] [] [] = Unit {0}
GoodRanges [] [] (r ∷ rs) = ⊥
GoodRanges [] (s ∷ ss) rs = ⊥
GoodRanges (w ∷ ws) [] rs = ⊥
GoodRanges (w ∷ ws) (s ∷ ss) [] = ⊥
GoodRanges (w ∷ ws) (s ∷ ss) (r ∷ rs) = GoodRange w s r × GoodRanges ws ss rs

-- The code belongs to a decision, where `decision` gives the codes their decisions.
abbrev pub Coded : {D : Type 0} → (ℕ → Option D) → ℕ → Type 0
Coded decision code = is_some (decision code) ≡ true

-- A rule is good: its ranges are, and its code belongs to a decision.
pub record Good (coded : ℕ → Type 0) (rule : Rule) : Type 0 where
  pub ranges : GoodRanges widths shapes rule.ranges
  pub code : coded rule.code

-- Every rule is good.
abbrev pub AllGood : (ℕ → Type 0) → List Rule → Type 0
AllGood coded rules = (j : ℕ) → j < length rules → Good coded (rule_at rules j)

-- Rule i is the first one that is not good.
pub record FirstBad (coded : ℕ → Type 0) (rules : List Rule) (i : ℕ) : Type 0 where
  pub within : i < length rules
  pub bad : Good coded (rule_at rules i) → ⊥
  pub before : (j : ℕ) → j < i → Good coded (rule_at rules j)
