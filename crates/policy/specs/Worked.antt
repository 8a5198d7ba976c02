-- Worked examples.
use Rattle.std.specs.Prelude.{◌≡◌, ℕ, ◌-◌, ◌^◌, List, [], ◌∷◌, Some, None, Option}
use Rattle.policy.specs.declared.fields.Header.{Header}
use Rattle.policy.specs.declared.rules.Range.{Range}
use Rattle.policy.specs.declared.rules.Rule.{Rule}
use Rattle.policy.specs.Refusals.{plain_asks}
use Rattle.policy.specs.Rules.{decide}
use Rattle.policy.specs.Shapes.{Coded, AllGood}
use Rattle.policy.specs.Verdicts.{verdict_of_code}

abbrev pub span : ℕ → ℕ → Range
span low high = record { low = low; high = high }

-- All values of a width.
abbrev pub any : ℕ → Range
any width = span 0 (2 ^ width - 1)

abbrev pub only : ℕ → Range
only value = span value value

-- 10.0.0.0/8 to port 80 by protocol 6 is accepted; what goes to a port from 1 to 65534 by protocol 17 is
-- rejected for reason 13; all else is discarded.
abbrev pub worked_rule_list : List Rule
worked_rule_list =
    record { ranges = span 0x0A000000 0x0AFFFFFF ∷ any 32 ∷ any 16 ∷ only 80 ∷ only 6 ∷ []; code = 0 }
    ∷ record { ranges = any 32 ∷ any 32 ∷ any 16 ∷ span 1 65534 ∷ only 17 ∷ []; code = 29 }
    ∷ record { ranges = any 32 ∷ any 32 ∷ any 16 ∷ any 16 ∷ any 8 ∷ []; code = 1 }
    ∷ []

abbrev pub worked_header_list : List Header
worked_header_list =
    record { numbers = 0x0A010203 ∷ 0xC0A80001 ∷ 4000 ∷ 80 ∷ 6 ∷ [] }
    ∷ record { numbers = 0xC8000001 ∷ 0x01010101 ∷ 53 ∷ 53 ∷ 17 ∷ [] }
    ∷ record { numbers = 0x0A000001 ∷ 0 ∷ 0 ∷ 0 ∷ 6 ∷ [] }
    ∷ []

-- What the list decides of each header.
abbrev pub decisions : List Rule → List Header → List (Option ℕ)
decisions rules [] = []
decisions rules (header ∷ headers) = decide rules header.numbers ∷ decisions rules headers

-- One rule that accepts the addresses 0.0.0.0/1, and a header from outside.
abbrev pub half_rule_list : List Rule
half_rule_list = record { ranges = span 0 0x7FFFFFFF ∷ any 32 ∷ any 16 ∷ any 16 ∷ any 8 ∷ []; code = 0 } ∷ []

abbrev pub outside : List ℕ
outside = 0x80000000 ∷ 0 ∷ 0 ∷ 0 ∷ 0 ∷ []

-- The rules of both examples are good, the three headers are decided by the codes 0, 29 and 1, and the
-- header from outside is decided by none: the plain call refuses it with 13.
pub record Worked : Type 0 where
  pub good : AllGood (Coded verdict_of_code) worked_rule_list
  pub decided : decisions worked_rule_list worked_header_list ≡ Some 0 ∷ Some 29 ∷ Some 1 ∷ []
  pub half_good : AllGood (Coded verdict_of_code) half_rule_list
  pub undecided : decide half_rule_list outside ≡ None
  pub refused : (number : Option ℕ) → plain_asks (Coded verdict_of_code) half_rule_list outside number → number ≡ Some 13
