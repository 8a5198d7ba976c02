-- The numbers of refusals, and the questions of the plain call.
use Rattle.std.specs.Prelude.{◌≡◌, ℕ, ◌≤◌, List, length, Some, None, Option}
use Rattle.questions.specs.Asking.{ask, accept}
use Rattle.policy.specs.declared.rules.Rule.{Rule}
use Rattle.policy.specs.declared.refusals.Met.{Met}
use Rattle.policy.specs.declared.refusals.ListRefusal.{ListRefusal}
use Rattle.policy.specs.declared.refusals.ListRefusal.TheVariants.{TooManyRules, BadRule}
use Rattle.policy.specs.declared.refusals.PlainRefusal.{PlainRefusal}
use Rattle.policy.specs.declared.refusals.PlainRefusal.TheVariants.{List as OfList, HeaderTooWide, NoRuleMet}
use Rattle.policy.specs.Fields.{widths, Fit}
use Rattle.policy.specs.Rules.{rule_at, FirstMet, SomeMet, decide}
use Rattle.policy.specs.Shapes.{AllGood, FirstBad}

-- The number of a list's refusal.
abbrev pub list_number : ListRefusal → ℕ
list_number TooManyRules = 8
list_number (BadRule i) = 9

-- The number of the plain call's refusal.
abbrev pub plain_number : PlainRefusal → ℕ
plain_number (OfList refusal) = list_number refusal
plain_number HeaderTooWide = 12
plain_number NoRuleMet = 13

-- The questions about a list: has it at most 64 rules (8), and is every rule good (9)?
abbrev pub list_asks : (ℕ → Type 0) → List Rule → (Option ℕ → Type 0) → Option ℕ → Type 0
list_asks coded rules further = ask 8 (length rules ≤ 64) (ask 9 (AllGood coded rules) further)

-- The questions about a header: do its numbers fit (12), and is a rule met (13)?
abbrev pub header_asks : List Rule → List ℕ → Option ℕ → Type 0
header_asks rules numbers = ask 12 (Fit widths numbers) (ask 13 (SomeMet rules numbers) accept)

-- The questions of the plain call.
abbrev pub plain_asks : (ℕ → Type 0) → List Rule → List ℕ → Option ℕ → Type 0
plain_asks coded rules numbers = list_asks coded rules (header_asks rules numbers)

-- A list's refusal names the first rule that is not good.
abbrev pub ListNames : (ℕ → Type 0) → List Rule → ListRefusal → Type 0
ListNames coded rules TooManyRules = Unit {0}
ListNames coded rules (BadRule i) = FirstBad coded rules i

-- The plain call's refusal names that rule too, and where no rule is met no code is decided.
abbrev pub PlainNames : (ℕ → Type 0) → List Rule → List ℕ → PlainRefusal → Type 0
PlainNames coded rules numbers (OfList refusal) = ListNames coded rules refusal
PlainNames coded rules numbers HeaderTooWide = Unit {0}
PlainNames coded rules numbers NoRuleMet = decide rules numbers ≡ None

-- The plain call's answer is the first rule met, with the code that decides the header.
pub record Answers (rules : List Rule) (numbers : List ℕ) (met : Met) : Type 0 where
  pub first : FirstMet rules numbers met.rule
  pub code : met.code ≡ (rule_at rules met.rule).code
  pub decided : decide rules numbers ≡ Some met.code
