use Rattle.std.proofs.Common.{arith}
use Rattle.policy.specs.declared.verdict.Verdict.TheVariants.{Accept, Discard, Reject}
use Rattle.policy.specs.Verdicting.{code_found, code_of_no_verdict}
use Rattle.policy.proofs.verdict.VerdictKind.from_code.Goals as goal

pub returns-in-0 : goal.returns-in-0
returns-in-0 c = code_found c.args.code Accept (omega arith)

pub returns-in-1 : goal.returns-in-1
returns-in-1 c = code_found c.args.code Discard (omega arith)

pub returns-in_ok-new-in-16-to-31 : goal.returns-in_ok-new-in-16-to-31
returns-in_ok-new-in-16-to-31 c =
    let found = c.in_ok-new-in-16-to-31 in
    code_found c.args.code (Reject found.field-0) (omega (arith, found.ensures))

pub returns-in_default : goal.returns-in_default
returns-in_default c = code_of_no_verdict c.args.code (λ e. omega arith) (λ e. omega arith) (λ l. omega arith)

pub returns-in_default-2 : goal.returns-in_default-2
returns-in_default-2 c = code_of_no_verdict c.args.code (λ e. omega arith) (λ e. omega arith) (λ l. omega arith)
