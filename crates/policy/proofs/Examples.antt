-- The worked examples, by computation.
use Rattle.std.proofs.Common.{◌≡◌, ℕ, zero, suc, List, Some, Ok, Err, Option, Result, refl, subst, inl, inr, arith, lit<, lit≤}
use Rattle.questions.specs.Asking.{refusal}
use Rattle.policy.specs.declared.refusals.ListRefusal.TheVariants.{TooManyRules, BadRule}
use Rattle.policy.specs.declared.refusals.Met.{Met}
use Rattle.policy.specs.declared.refusals.PlainRefusal.{PlainRefusal}
use Rattle.policy.specs.declared.refusals.PlainRefusal.TheVariants.{List as OfList, HeaderTooWide, NoRuleMet}
use Rattle.policy.specs.declared.rules.Rule.{Rule}
use Rattle.policy.specs.declared.shapes.Shape.TheVariants.{Block, AnyRange, OneOrAll}
use Rattle.policy.specs.Fields.{widths, Fit}
use Rattle.policy.specs.Refusals.{plain_number, plain_asks}
use Rattle.policy.specs.Rules.{SomeMet}
use Rattle.policy.specs.Shapes.{GoodRange, Coded, AllGood}
use Rattle.policy.specs.Verdicts.{verdict_of_code}
use Rattle.policy.specs.Worked.{any, worked_rule_list, half_rule_list, outside, Worked}
use Rattle.policy.proofs.Firsts.{missed, none_not_some}

any_address : GoodRange 32 Block (any 32)
any_address = record { low_fits = lit< tt; high_fits = lit< tt; ordered = lit≤ tt; shaped = (0, (lit≤ tt, refl, refl)) }

any_port : GoodRange 16 AnyRange (any 16)
any_port = record { low_fits = lit< tt; high_fits = lit< tt; ordered = lit≤ tt; shaped = tt }

any_protocol : GoodRange 8 OneOrAll (any 8)
any_protocol = record { low_fits = lit< tt; high_fits = lit< tt; ordered = lit≤ tt; shaped = inr (refl, refl) }

good : AllGood (Coded verdict_of_code) worked_rule_list
unfolding verdict_of_code
good zero l =
    record {
      ranges = (
        record { low_fits = lit< tt; high_fits = lit< tt; ordered = lit≤ tt; shaped = (8, (lit≤ tt, refl, refl)) },
        (
          any_address,
          (
            any_port,
            (
              record { low_fits = lit< tt; high_fits = lit< tt; ordered = lit≤ tt; shaped = tt },
              (record { low_fits = lit< tt; high_fits = lit< tt; ordered = lit≤ tt; shaped = inl refl }, tt),
            ),
          ),
        ),
      );
      code = refl;
    }
good (suc zero) l =
    record {
      ranges = (
        any_address,
        (
          any_address,
          (
            any_port,
            (
              record { low_fits = lit< tt; high_fits = lit< tt; ordered = lit≤ tt; shaped = tt },
              (record { low_fits = lit< tt; high_fits = lit< tt; ordered = lit≤ tt; shaped = inl refl }, tt),
            ),
          ),
        ),
      );
      code = refl;
    }
good (suc (suc zero)) l = record { ranges = (any_address, (any_address, (any_port, (any_port, (any_protocol, tt))))); code = refl }
good (suc (suc (suc j))) l = absurd (omega arith)

half_good : AllGood (Coded verdict_of_code) half_rule_list
unfolding verdict_of_code
half_good zero l =
    record {
      ranges = (
        record { low_fits = lit< tt; high_fits = lit< tt; ordered = lit≤ tt; shaped = (1, (lit≤ tt, refl, refl)) },
        (any_address, (any_port, (any_port, (any_protocol, tt)))),
      );
      code = refl;
    }
half_good (suc j) l = absurd (omega arith)

outside_fits : Fit widths outside
outside_fits = (lit< tt, (lit< tt, (lit< tt, (lit< tt, (lit< tt, tt)))))

outside_missed : SomeMet half_rule_list outside → ⊥
outside_missed = none_not_some half_rule_list outside (missed half_rule_list outside refl)

refused : (number : Option ℕ) → plain_asks (Coded verdict_of_code) half_rule_list outside number → number ≡ Some 13
refused number (inl (few, inl (fine, inl (fits, inl (met, e))))) = absurd (outside_missed met)
refused number (inl (few, inl (fine, inl (fits, inr (none, e))))) = e
refused number (inl (few, inl (fine, inr (wide, e)))) = absurd (wide outside_fits)
refused number (inl (few, inr (bad, e))) = absurd (bad half_good)
refused number (inr (many, e)) = absurd (many (lit≤ tt))

pub worked : Worked
worked = record { good = good; decided = refl; half_good = half_good; undecided = refl; refused = refused }

-- Only one refusal has the number 13.
number_13 : (r : Result Met PlainRefusal) → refusal plain_number r ≡ Some 13 → r ≡ Err NoRuleMet
number_13 (Ok met) e = let wrong : ◌≡◌ {A = ℕ} 0 1 = cc in absurd (omega arith)
number_13 (Err (OfList TooManyRules)) e = let wrong : ◌≡◌ {A = ℕ} 8 13 = cc in absurd (omega arith)
number_13 (Err (OfList (BadRule i))) e = let wrong : ◌≡◌ {A = ℕ} 9 13 = cc in absurd (omega arith)
number_13 (Err HeaderTooWide) e = let wrong : ◌≡◌ {A = ℕ} 12 13 = cc in absurd (omega arith)
number_13 (Err NoRuleMet) e = refl

-- The plain call on the rule and the header, wherever they came from.
pub gap_answer : (rules : List Rule) (numbers : List ℕ) (r : Result Met PlainRefusal) → rules ≡ half_rule_list → numbers ≡ outside
    → plain_asks (Coded verdict_of_code) rules numbers (refusal plain_number r) → r ≡ Err NoRuleMet
gap_answer rules numbers r a b asked =
    number_13 r
    (refused (refusal plain_number r)
    (subst (λ ns. plain_asks (Coded verdict_of_code) half_rule_list ns (refusal plain_number r)) b
    (subst (λ rs. plain_asks (Coded verdict_of_code) rs numbers (refusal plain_number r)) a asked)))
