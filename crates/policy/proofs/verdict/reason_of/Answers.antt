use Rattle.std.proofs.Common.{◌+◌, ◌-◌, get_or, inl, inr, arith, ltb-false, ltb-true}
use Rattle.policy.proofs.Digits.{written, one_digit, two_digits, reason_found}
use Rattle.policy.proofs.verdict.reason_of.Goals as goal

pub returns-in-48-to-57 : goal.returns-in-48-to-57
returns-in-48-to-57 c =
    let ds = c.args.digits.now in
    reason_found c.new.result (get_or ds 0 0 - 48) ds (omega arith)
    (one_digit ds (get_or ds 0 0 - 48) (omega arith) (omega (arith, ltb-true, ltb-false)) (omega arith)) c.new.ensures

pub returns-in-49 : goal.returns-in-49
returns-in-49 c =
    let ds = c.args.digits.now in
    reason_found c.new-in-49.result (10 + (get_or ds 1 0 - 48)) ds (omega arith)
    (two_digits ds (get_or ds 1 0 - 48) (omega arith) (omega (arith, ltb-true, ltb-false)) (omega arith) (omega arith)) c.new-in-49.ensures

pub returns-in_default : goal.returns-in_default
returns-in_default c reason e =
    elim (written reason c.args.digits.now e) [ inl w ↦ omega (arith, ltb-true, ltb-false) | inr w ↦ omega (arith, ltb-true, ltb-false) ]

pub returns-in_default-2 : goal.returns-in_default-2
returns-in_default-2 c reason e =
    elim (written reason c.args.digits.now e) [ inl w ↦ omega (arith, ltb-true, ltb-false) | inr w ↦ omega (arith, ltb-true, ltb-false) ]

pub returns-in_default-3 : goal.returns-in_default-3
returns-in_default-3 c reason e =
    elim (written reason c.args.digits.now e) [ inl w ↦ omega (arith, ltb-true, ltb-false) | inr w ↦ omega (arith, ltb-true, ltb-false) ]

pub returns-in_default-4 : goal.returns-in_default-4
returns-in_default-4 c reason e =
    elim (written reason c.args.digits.now e) [ inl w ↦ omega (arith, ltb-true, ltb-false) | inr w ↦ omega (arith, ltb-true, ltb-false) ]

pub returns-in_default-5 : goal.returns-in_default-5
returns-in_default-5 c reason e =
    elim (written reason c.args.digits.now e) [ inl w ↦ omega (arith, ltb-true, ltb-false) | inr w ↦ omega (arith, ltb-true, ltb-false) ]

pub returns-in_default-6 : goal.returns-in_default-6
returns-in_default-6 c reason e =
    elim (written reason c.args.digits.now e) [ inl w ↦ omega (arith, ltb-true, ltb-false) | inr w ↦ omega (arith, ltb-true, ltb-false) ]

pub returns-in_default-7 : goal.returns-in_default-7
returns-in_default-7 c reason e =
    elim (written reason c.args.digits.now e) [ inl w ↦ omega (arith, ltb-true, ltb-false) | inr w ↦ omega (arith, ltb-true, ltb-false) ]
